use Rattle.std.proofs.Common.{◌≡◌, ◌≤◌, ◌+◌, drop}
use Rattle.sb_fakes.specs.Objects.{count_of}
use Rattle.sb_fakes.proofs.folder.MemoryFolder.count.Given as goal

-- the files so far are counted
abbrev pub invariant-loop-index : goal.invariant-loop-index
invariant-loop-index l = record {
  within : l.count ≤ l.index;
  counted : l.count + count_of (drop l.index l.self.files.items) ≡ count_of l.self.files.items;
}
