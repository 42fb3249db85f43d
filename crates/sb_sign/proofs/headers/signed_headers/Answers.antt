use Rattle.std.proofs.Common.{◌≡◌, ◌∙◌, [], List, ap, arith, length, refl, take}
use Rattle.std.specs.Prelude.{fold}
use Rattle.std.proofs.Math.Seq.{take-length}
use Rattle.sb_sign.specs.declared.request.Pair.{Pair}
use Rattle.sb_sign.specs.Requests.{signed_headers_of, with_header}
use Rattle.sb_sign.proofs.headers.signed_headers.Goals as goal

pub returns : goal.returns
unfolding signed_headers_of
returns c =
    let signed = c.args.request.now.signed.items in
    let len : length c.deref-header-items.result.now ≡ length signed =
    ap (λ (items : List Pair). length items) c.deref-header-items.ensures.value in
    let all : c.loop-header.header-index ≡ length signed = omega (arith, len) in
    let before : c.loop-header.headers.items ≡ fold with_header [] (take c.loop-header.header-index signed) =
    c.loop-header.invariant in
    let whole : c.loop-header.headers.items ≡ fold with_header [] signed = before ∙ rw (all, take-length signed) refl in
    rw (
      c.in_ok-add_header-3.ensures,
      c.in_ok-add_header-2.ensures,
      whole,
      c.as_bytes.ensures.value,
      c.in_ok-payload.ensures,
    ) refl
