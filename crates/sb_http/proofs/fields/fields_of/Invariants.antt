use Rattle.std.proofs.Common.{◌≡◌, take, map}
use Rattle.httparse.specs.Spans.{header_bytes}
use Rattle.sb_http.specs.Fields.{pair_of}
use Rattle.sb_http.proofs.fields.fields_of.Given as goal

abbrev pub invariant-loop-span : goal.invariant-loop-span
invariant-loop-span l = l.pairs.items ≡ map pair_of (map (header_bytes l.head) (take l.span-index l.spans))
