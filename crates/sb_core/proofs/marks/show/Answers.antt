use Rattle.std.proofs.Common.{false, if◌then◌else◌}
use Rattle.sb_history.specs.Contents.{zeros, is_zeros}
use Rattle.sb_zero.specs.Sets.{is_marked}
use Rattle.sb_core.proofs.MarkLemmas.{same_marks, left_mark}
use Rattle.sb_core.proofs.marks.show.Goals as goal

pub returns-in-Same-clause-sets : goal.returns-in-Same-clause-sets
returns-in-Same-clause-sets c =
    let marks = is_marked c.args.marks.now in
    rw c.in-Same.is (same_marks marks c.args.block
    (if is_zeros (zeros c.args.size) then marks c.args.block else false) (left_mark c.args.size (marks c.args.block)))

pub returns-in-Failed-clause-sets : goal.returns-in-Failed-clause-sets
returns-in-Failed-clause-sets c =
    let marks = is_marked c.args.marks.now in
    rw c.in-Failed.is (same_marks marks c.args.block
    (if is_zeros (zeros c.args.size) then marks c.args.block else false) (left_mark c.args.size (marks c.args.block)))
