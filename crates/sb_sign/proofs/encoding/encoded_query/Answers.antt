use Rattle.std.proofs.Common.{◌≡◌, ◌∙◌, ap, arith, length, take, [], ℕ, refl}
use Rattle.std.specs.Prelude.{map}
use Rattle.std.specs.List.{join_with_byte}
use Rattle.std.specs.String.{string_bytes}
use Rattle.std.proofs.Math.Seq.{take-length}
use Rattle.sb_sign.specs.Encoding.{encoded_pair_of, encoded_query_of}
use Rattle.sb_sign.proofs.EncodingLemmas.{joined_first, joined_next}
use Rattle.sb_sign.proofs.encoding.encoded_query.Goals as goal
use Rattle.sb_sign.proofs.encoding.encoded_query.Goals.{then-i-gt0+in_ok-push_str, else-i-gt0}

pub loop-i-preserved : goal.loop-i-preserved
loop-i-preserved c =
    let pairs = c.args.query.now in
    let pair = c.index-query-i.result in
    let before : string_bytes c.loop-i.text ≡ join_with_byte 38 (map encoded_pair_of (take c.loop-i.i pairs)) =
    c.loop-i.invariant in
    elim c.if-i-gt0.branch [
      | then-i-gt0+in_ok-push_str w ↦
          let next = joined_next 38 encoded_pair_of pairs pair c.loop-i.i w.if-i-gt0.true c.loop-i-test.true
          c.index-query-i.is in
          rw (c.in_ok-add_pair.ensures, w.text-is, w.in_ok-push_str.ensures.bytes, before) next
      | else-i-gt0 w ↦
          let none : c.loop-i.i ≡ 0 = omega arith in
          let first = joined_first 38 encoded_pair_of pairs pair c.loop-i.i none c.loop-i-test.true c.index-query-i.is
          in
          let empty : string_bytes c.loop-i.text ≡ [] =
          before ∙ ap (λ (k : ℕ). join_with_byte 38 (map encoded_pair_of (take k pairs))) none in
          rw (c.in_ok-add_pair.ensures, w.text-is, empty) first
    ]

pub returns : goal.returns
unfolding encoded_query_of
returns c =
    let pairs = c.args.query.now in
    let all : c.loop-i.i ≡ length pairs = omega arith in
    let before : string_bytes c.loop-i.text ≡ join_with_byte 38 (map encoded_pair_of (take c.loop-i.i pairs)) =
    c.loop-i.invariant in
    rw (c.from_vec.ensures, c.into_bytes.ensures.value) (before ∙ rw (all, take-length pairs) refl)
