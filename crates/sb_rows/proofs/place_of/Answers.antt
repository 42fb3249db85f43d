use Rattle.std.proofs.Common.{rules}
use Rattle.std.proofs.lemmas.List.Sorted.{answers_always}
use Rattle.sb_rows.proofs.SearchLemmas.{searched}
use Rattle.sb_rows.proofs.place_of.Goals as goal

pub returns : goal.returns
returns g c =
    let facts = c.binary_search_by_key.ensures in
    let by_key = facts.position (λ row. row.0) (answers_always _ _ _ (λ f a r h called. search rules)) in
    let both = searched _ c.args.key c.requires _ facts.bound by_key in
    record { found = both.0; absent = both.1 }
