use Rattle.std.proofs.Common.{◌≡◌, take}
use Rattle.sb_fakes.proofs.VersionLemmas.{Skips}
use Rattle.sb_fakes.proofs.history.add_version.Given as goal

-- none of the histories so far has the name
abbrev pub invariant-loop-history : goal.invariant-loop-history
invariant-loop-history l = record {
  same : l.history-items ≡ l.fn.histories.items;
  skips : Skips l.name (take l.history-index l.history-items);
}
