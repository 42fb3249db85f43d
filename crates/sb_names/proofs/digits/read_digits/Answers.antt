use Rattle.std.proofs.Common.{◌≡◌, ◌<◌, ◌^◌, sym, ◌∙◌, ap, Some, arith}
use Rattle.std.proofs.lemmas.Bool.Decides.{Decides-eqb}
use Rattle.std.proofs.lemmas.Slice.Eq.{slice_eq-Decides}
use Rattle.sb_names.specs.Names.{digits_of}
use Rattle.sb_names.proofs.NameLemmas.{digits_read, digits_are_name}
use Rattle.sb_names.proofs.digits.read_digits.Goals as goal

pub returns-then-is_err : goal.returns-then-is_err
returns-then-is_err c block = (
  λ e. cc e,
  λ h.
      let read = digits_read _ _ _ c.decode_to_slice.ensures.value block h in
      cc (read.0, c.is_err.ensures.value, c.if-is_err.true),
)

pub returns-then-eq : goal.returns-then-eq
returns-then-eq c block =
    let same : c.args.text.now ≡ digits_of c.from_be_bytes-block.result =
    (slice_eq-Decides Decides-eqb _ _ _ c.eq.ensures).0 c.if-eq.true ∙ c.as_slice.ensures ∙ c.digits.ensures in
    let small : c.from_be_bytes-block.result < 2 ^ 32 = omega arith in (
      λ e. digits_are_name c.args.text.now c.from_be_bytes-block.result block same small e,
      λ h.
          let read = digits_read _ _ _ c.decode_to_slice.ensures.value block h in
          ap Some (c.from_be_bytes-block.ensures ∙ read.1),
    )

pub returns-else-eq : goal.returns-else-eq
returns-else-eq c block = (
  λ e. cc e,
  λ h.
      let read = digits_read _ _ _ c.decode_to_slice.ensures.value block h in
      let number : c.from_be_bytes-block.result ≡ block = c.from_be_bytes-block.ensures ∙ read.1 in
      let whole : c.args.text.now ≡ digits_of block = h.text in
      let same = (slice_eq-Decides Decides-eqb _ _ _ c.eq.ensures).1
      (whole ∙ ap digits_of (sym number) ∙ sym c.digits.ensures ∙ sym c.as_slice.ensures) in
      cc (same, c.if-eq.false),
)
