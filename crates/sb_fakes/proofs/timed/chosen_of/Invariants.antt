use Rattle.std.proofs.Common.{◌≡◌, drop}
use Rattle.sb_fakes.specs.Versions.{chosen_of}
use Rattle.sb_fakes.proofs.timed.chosen_of.Given as goal

-- none of the shows so far speaks of the GET
abbrev pub invariant-loop-show : goal.invariant-loop-show
invariant-loop-show l = chosen_of l.shows l.get ≡ chosen_of (drop l.show-index l.shows) l.get
