use Rattle.std.proofs.Common.{◌≡◌, vec_len}
use Rattle.sb_host.specs.Stores.{AreUnused}
use Rattle.sb_host.proofs.world.open_links.Given as goal

-- so many links were made, none of which was asked for anything
abbrev pub invariant-loop-i : goal.invariant-loop-i
invariant-loop-i l = (vec_len l.links ≡ l._i) × AreUnused l.links.items
