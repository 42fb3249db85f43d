use Rattle.std.proofs.Common.{◌++◌, ◌∙◌, ap, List, ℕ, None, Some, true, false}
use Rattle.std.proofs.lemmas.Bool.Decides.{Decides-eqb}
use Rattle.std.proofs.lemmas.Slice.Eq.{strip_prefix_is}
use Rattle.sb_names.proofs.NameLemmas.{no_prefix, read_behind}
use Rattle.sb_names.proofs.names.read_name.Goals as goal

pub returns-in_err-rest : goal.returns-in_err-rest
returns-in_err-rest c block =
    let no = strip_prefix_is Decides-eqb c.args.name.now c.as_bytes.result.now None c.in_err-rest.ensures.cases in
    let same = ap (λ (p : List ℕ). p) c.as_bytes.ensures.value in (
      λ e. cc (e, c.from_residual.ensures),
      λ h. absurd (no_prefix c.args.prefix.now c.args.hashed c.args.name.now (λ rest e. no rest (rw same e)) block h),
    )

pub returns-then-hashed : goal.returns-then-hashed
returns-then-hashed c =
    let is = strip_prefix_is Decides-eqb c.args.name.now c.as_bytes.result.now
    (Some c.in_ok-rest.rest) c.in_ok-rest.ensures.cases in
    let whole = is ∙ ap (λ (p : List ℕ). p ++ c.in_ok-rest.rest.now) c.as_bytes.ensures.value in
    read_behind c.args.prefix.now c.args.hashed true c.args.name.now c.in_ok-rest.rest.now c.read_hashed.result
    c.if-hashed.true whole c.read_hashed.ensures

pub returns-else-hashed : goal.returns-else-hashed
returns-else-hashed c =
    let is = strip_prefix_is Decides-eqb c.args.name.now c.as_bytes.result.now
    (Some c.in_ok-rest.rest) c.in_ok-rest.ensures.cases in
    let whole = is ∙ ap (λ (p : List ℕ). p ++ c.in_ok-rest.rest.now) c.as_bytes.ensures.value in
    read_behind c.args.prefix.now c.args.hashed false c.args.name.now c.in_ok-rest.rest.now c.read_digits.result
    c.if-hashed.false whole c.read_digits.ensures
