use Rattle.std.proofs.Common.{◌≡◌, ◌∙◌, ap, sym, None, Some, codes}
use Rattle.std.proofs.lemmas.Bool.Decides.{Decides-eqb}
use Rattle.std.proofs.lemmas.Slice.Eq.{slice_eq-Decides, strip_prefix_is}
use Rattle.sb_names.specs.Names.{hash_of}
use Rattle.sb_names.proofs.NameLemmas.{no_room, no_dash, digits_of_hashed, hashed_from_parts, hashed_parts}
use Rattle.sb_names.proofs.names.read_hashed.Goals as goal

pub returns-in_err-front : goal.returns-in_err-front
returns-in_err-front c block = (
  λ e. cc (e, c.from_residual.ensures),
  λ h. absurd (no_room c.args.text.now block c.in_err-front.ensures.cases h),
)

pub returns-in_err-strip_prefix : goal.returns-in_err-strip_prefix
returns-in_err-strip_prefix c block =
    let parts = c.in_ok-front.ensures.cases in
    let never = strip_prefix_is Decides-eqb c.in_ok-front.behind.now
    (codes "-") None c.in_err-strip_prefix.ensures.cases in (
      λ e. cc (e, c.from_residual-in_err-strip_prefix.ensures),
      λ h. absurd (no_dash c.args.text.now c.in_ok-front.behind.now block parts.2 never h),
    )

pub returns-in_err-block : goal.returns-in_err-block
returns-in_err-block c block =
    let parts = c.in_ok-front.ensures.cases in
    let digits = c.in_ok-strip_prefix.field-0 in
    let dash = strip_prefix_is Decides-eqb c.in_ok-front.behind.now (codes "-")
    (Some digits) c.in_ok-strip_prefix.ensures.cases in (
      λ e. cc (e, c.from_residual-in_err-block.ensures),
      λ h.
          let same = digits_of_hashed c.args.text.now c.in_ok-front.behind.now digits.now block parts.2 dash h in
          cc ((c.read_digits.ensures block).1 same, c.in_err-block.was),
    )

pub returns-then-eq : goal.returns-then-eq
returns-then-eq c block =
    let parts = c.in_ok-front.ensures.cases in
    let digits = c.in_ok-strip_prefix.field-0 in
    let dash = strip_prefix_is Decides-eqb c.in_ok-front.behind.now (codes "-")
    (Some digits) c.in_ok-strip_prefix.ensures.cases in
    let hash : c.in_ok-front.front.now ≡ hash_of c.in_ok-block.block =
    (slice_eq-Decides Decides-eqb _ _ _ c.eq.ensures).0 c.if-eq.true ∙ c.as_slice.ensures ∙ c.hash.ensures in (
      λ e.
          let number : c.in_ok-block.block ≡ block = cc e in
          let read = (c.read_digits.ensures block).0 (c.in_ok-block.was ∙ e) in
          hashed_from_parts c.args.text.now c.in_ok-front.front.now c.in_ok-front.behind.now digits.now block parts.1
          parts.2 dash (hash ∙ ap hash_of number) read,
      λ h.
          let same = digits_of_hashed c.args.text.now c.in_ok-front.behind.now digits.now block parts.2 dash h in
          sym c.in_ok-block.was ∙ (c.read_digits.ensures block).1 same,
    )

pub returns-else-eq : goal.returns-else-eq
returns-else-eq c block =
    let parts = c.in_ok-front.ensures.cases in
    let digits = c.in_ok-strip_prefix.field-0 in
    let dash = strip_prefix_is Decides-eqb c.in_ok-front.behind.now (codes "-")
    (Some digits) c.in_ok-strip_prefix.ensures.cases in (
      λ e. cc e,
      λ h.
          let same = digits_of_hashed c.args.text.now c.in_ok-front.behind.now digits.now block parts.2 dash h in
          let read = sym c.in_ok-block.was ∙ (c.read_digits.ensures block).1 same in
          let number : c.in_ok-block.block ≡ block = cc read in
          let hash = parts.1 ∙ (hashed_parts c.args.text.now block h).0 ∙ ap hash_of (sym number) ∙ sym c.hash.ensures
          ∙ sym c.as_slice.ensures in
          cc ((slice_eq-Decides Decides-eqb _ _ _ c.eq.ensures).1 hash, c.if-eq.false),
    )
