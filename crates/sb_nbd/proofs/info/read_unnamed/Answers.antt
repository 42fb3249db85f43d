use Rattle.std.proofs.Common.{rules, ◌∙◌, ◌++◌, ℕ, List, length, take, ap, subst, Err}
use Rattle.std.specs.Int.{w32, to_be_bytes}
use Rattle.std.proofs.lemmas.List.{take-append-drop}
use Rattle.sb_nbd.specs.declared.info.OptionRefusal.TheVariants.{Invalid}
use Rattle.sb_nbd.specs.InfoRequests.{ReadsInfo}
use Rattle.sb_nbd.proofs.InfoParts.{other_count}
use Rattle.sb_nbd.proofs.info.read_unnamed.Goals as goal

pub returns-else-kinds-count : goal.returns-else-kinds-count
returns-else-kinds-count c =
    let name = c.args.name.now in
    let bytes = c.args.bytes.now in
    let kinds = c.split_at.result.1.now in
    let whole = ap (λ (xs : List ℕ). xs ++ kinds) (c.u16_of-count.ensures ∙ c.split_at.ensures.front)
    ∙ ap (λ (xs : List ℕ). take 2 bytes ++ xs) c.split_at.ensures.back ∙ take-append-drop 2 bytes in
    subst (λ (xs : List ℕ). ReadsInfo (to_be_bytes w32 (length name) ++ (name ++ xs)) (Err Invalid)) whole
    (other_count name kinds c.u16_of-count.result c.requires.name (search rules) (search rules))
