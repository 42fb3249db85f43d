use Rattle.std.proofs.Common.{ℕ, List, Result, nat_eq, ap, sym, subst, ◌∙◌}
use Rattle.std.specs.List.{list_any}
use Rattle.s3backer.specs.Directories.{is_bad_prefix}
use Rattle.s3backer.specs.Read.{Answers}
use Rattle.s3backer.specs.declared.words.Usage.{Usage}
use Rattle.s3backer.proofs.WordLemmas.{names_pass}
use Rattle.s3backer.proofs.directory.check_names.Goals as goal

pub returns-else-has_slash-clause-answer : goal.returns-else-has_slash-clause-answer
returns-else-has_slash-clause-answer c =
    let good = sym (ap is_bad_prefix c.as_bytes.ensures.value) ∙ (sym c.is_bad_prefix.ensures ∙ c.if-is_bad_prefix.false) in
    let flat = sym (ap (λ (bytes : List ℕ). list_any (nat_eq 47) bytes) c.as_bytes-else-is_bad_prefix.ensures.value)
    ∙ (sym c.has_slash.ensures ∙ c.if-has_slash.false) in
    subst (λ (expected : Result (Unit {0}) Usage). Answers expected c.check_directory.result)
    (sym (names_pass c.args.prefix.now c.args.directory.now good flat)) c.check_directory.ensures
