use Rattle.std.proofs.Common.{◌≡◌, ◌++◌, take}
use Rattle.std.specs.List.{flat_map}
use Rattle.test_signatures.specs.Lines.{pair_line}
use Rattle.test_signatures.proofs.lines.add_pairs.Given as goal

abbrev pub invariant-loop-pair : goal.invariant-loop-pair
invariant-loop-pair l =
    l.lines.items ≡ l.fn.lines.items ++ flat_map (pair_line l.word) (take l.pair-index l.pairs)
