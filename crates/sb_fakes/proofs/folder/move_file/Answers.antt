use Rattle.std.proofs.Common.{◌≢◌, rules}
use Rattle.sb_fakes.proofs.FileLemmas.{moved}
use Rattle.sb_fakes.proofs.folder.move_file.Goals as goal

pub returns-then-ne : goal.returns-then-ne
returns-then-ne c =
    let apart : c.args.from.now ≢ c.args.to.now = search rules in
    let from = c.args.from.now in
    let to = c.args.to.now in
    let named = c.in_ok-of.ensures in
    let copied = c.in_ok-of-2.ensures in
    let put = rw (named, copied) at c.in_ok-put.ensures in
    rw (c.in-Some.is) (moved from to c.in-Some.body.now c.args.files.now.items _ _ put apart c.take_away.ensures)
