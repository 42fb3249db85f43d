use Rattle.std.proofs.Common.{arith, take, drop, ◌+◌}
use Rattle.sb_tools.specs.Blocks.{block_of}
use Rattle.sb_tools.specs.Showing.{line_of, lines_in}
use Rattle.sb_tools.proofs.Lines.{lines_split, lines_more, count_more, front_within, holds_as, holds_join}
use Rattle.sb_tools.proofs.show.show_page.Goals as goal

pub loop-name-preserved : goal.loop-name-preserved
loop-name-preserved g c =
    let told = rw c.bytes.ensures at c.in-Ok.ensures.told in
    let more = lines_more c.args.prefix.now c.args.hashed c.args.names.now c.loop-name.name-index c.name-item.result
    c.loop-name-test.true c.name-item.is in
    let counted = count_more c.args.prefix.now c.args.hashed c.args.names.now c.loop-name.name-index c.name-item.result
    c.loop-name-test.true c.name-item.is in
    record {
      wrote = holds_as more (holds_join c.loop-name.invariant.wrote told.1);
      count = omega (arith, c.loop-name.invariant.count, told.0, counted);
      fits = omega (arith, c.in-Ok.ensures.fits, c.loop-name.invariant.fits);
      later = omega (arith, c.in-Ok.ensures.cause.later, c.loop-name.invariant.later);
    }

pub returns-in-Err-clause-told : goal.returns-in-Err-clause-told
returns-in-Err-clause-told g c =
    let told = rw c.bytes.ensures at c.in-Err.ensures.told in
    let split = lines_split c.args.prefix.now c.args.hashed c.args.names.now c.loop-name.name-index c.name-item.result
    c.loop-name-test.true c.name-item.is in
    (told.0, front_within _ _ _ _ split c.loop-name.invariant.wrote told.1)
