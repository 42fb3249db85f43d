use Rattle.std.proofs.Common.{List, ℕ, length, ◌&&◌, ◌∙◌, ap}
use Rattle.std.specs.Prelude.{nat_eq}
use Rattle.std.proofs.lemmas.Bool.Decides.{Decides-at}
use Rattle.sb_history.specs.Contents.{is_zeros}
use Rattle.sb_staleness.specs.Starts.{start_of}
use Rattle.sb_staleness.proofs.ShowingLemmas.{decides_zeros}
use Rattle.sb_staleness.proofs.staleness.answers_within.Goals as goal

pub returns-in-KnownZero : goal.returns-in-KnownZero
returns-in-KnownZero c =
    let size = c.args.image.block_size in
    let start = start_of size c.args.image.bytes.now c.in-KnownZero.block in
    rw c.in-KnownZero.is
    (Decides-at c.is_zero_block.result _ (c.is_zero_block.ensures
    ∙ ap (λ (content : List ℕ). nat_eq (length content) size && is_zeros content) c.content-start.ensures)
    (decides_zeros size start))

pub returns-in-GetEnd : goal.returns-in-GetEnd
returns-in-GetEnd c = rw c.in-GetEnd.is c.shows_visible.ensures
