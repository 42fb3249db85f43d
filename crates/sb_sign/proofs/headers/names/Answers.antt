use Rattle.std.proofs.Common.{◌≡◌, ◌∙◌, ap, arith, length, take, [], List, ℕ, refl}
use Rattle.std.specs.Prelude.{map}
use Rattle.std.specs.List.{join_with_byte}
use Rattle.std.proofs.Math.Seq.{take-length}
use Rattle.sb_sign.specs.declared.request.Pair.{Pair}
use Rattle.sb_sign.specs.Requests.{names_of}
use Rattle.sb_sign.proofs.EncodingLemmas.{joined_first, joined_next}
use Rattle.sb_sign.proofs.headers.names.Goals as goal
use Rattle.sb_sign.proofs.headers.names.Goals.{then-i-gt0+in_ok-push, else-i-gt0}

pub loop-i-preserved : goal.loop-i-preserved
loop-i-preserved c =
    let headers = c.args.headers.now in
    let header = c.index-headers-i.result in
    let name : Pair → List ℕ = λ h. h.name in
    let before : c.loop-i.names.items ≡ join_with_byte 59 (map name (take c.loop-i.i headers)) = c.loop-i.invariant in
    elim c.if-i-gt0.branch [
      | then-i-gt0+in_ok-push w ↦
          let next = joined_next 59 name headers header c.loop-i.i w.if-i-gt0.true c.loop-i-test.true
          c.index-headers-i.is in
          rw (
            c.in_ok-extend_from_slice.ensures.items,
            c.bytes.ensures,
            w.names-is,
            w.in_ok-push.ensures.items,
            before,
          ) next
      | else-i-gt0 w ↦
          let none : c.loop-i.i ≡ 0 = omega arith in
          let first = joined_first 59 name headers header c.loop-i.i none c.loop-i-test.true c.index-headers-i.is in
          let empty : c.loop-i.names.items ≡ [] = before ∙ ap
          (λ (k : ℕ). join_with_byte 59 (map name (take k headers))) none in
          rw (c.in_ok-extend_from_slice.ensures.items, c.bytes.ensures, w.names-is, empty) first
    ]

pub returns : goal.returns
unfolding names_of
returns c =
    let headers = c.args.headers.now in
    let all : c.loop-i.i ≡ length headers = omega arith in
    let name : Pair → List ℕ = λ h. h.name in
    let before : c.loop-i.names.items ≡ join_with_byte 59 (map name (take c.loop-i.i headers)) = c.loop-i.invariant in
    before ∙ rw (all, take-length headers) refl
