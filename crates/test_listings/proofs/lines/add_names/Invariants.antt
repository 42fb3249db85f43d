use Rattle.std.proofs.Common.{◌≡◌, ◌++◌, take}
use Rattle.std.specs.List.{flat_map}
use Rattle.test_listings.specs.Lines.{name_line}
use Rattle.test_listings.proofs.lines.add_names.Given as goal

abbrev pub invariant-loop-name : goal.invariant-loop-name
invariant-loop-name l = l.lines.items ≡ l.fn.lines.items ++ flat_map name_line (take l.name-index l.names)
