use Rattle.std.proofs.Common.{◌≡◌, drop}
use Rattle.sb_fakes.specs.Versions.{versions_of}
use Rattle.sb_fakes.proofs.history.history_of.Given as goal

-- none of the histories so far has the name
abbrev pub invariant-loop-history : goal.invariant-loop-history
invariant-loop-history l = versions_of l.histories l.name ≡ versions_of (drop l.history-index l.histories) l.name
