use Rattle.std.proofs.Common.{rules, subst, sym, arith, [], ◌++◌, take}
use Rattle.std.proofs.lemmas.List.{length-append, length-take-le}
use Rattle.std.proofs.lemmas.Slice.{overwrites}
use Rattle.sb_world.specs.Streams.{Takes}
use Rattle.sb_world.proofs.Streaming.{takes_both}
use Rattle.sb_nbd.proofs.Filled.{take_filled}
use Rattle.sb_nbd.proofs.filling.fill.Goals as goal

pub loop-n-preserved : goal.loop-n-preserved
loop-n-preserved g c =
    let before = c.loop-n.invariant in
    let more = c.in-Ok.ensures in
    let left = g.R.Source.left in
    record {
      within = search (rules, overwrites);
      length = search (rules, overwrites);
      taken = subst (λ bytes. Takes (left c.args.source.now) (left c.read.new.self) bytes)
          (sym (take_filled c.loop-n.n c.in-Ok.count _ c.loop-n.out c.read.new.out before.within more.told.0))
          (takes_both before.taken more.told.1);
      later = omega (arith, before.later, more.cause.later);
    }

pub returns-in-Err-clause-told : goal.returns-in-Err-clause-told
returns-in-Err-clause-told g c = (
  take c.loop-n.n c.loop-n.out ++ [],
  takes_both c.loop-n.invariant.taken c.in-Err.ensures.told,
  omega (
    arith,
    length-append (take c.loop-n.n c.loop-n.out) [],
    length-take-le c.loop-n.n c.loop-n.out c.loop-n.invariant.within,
    c.loop-n.invariant.length,
    c.loop-n-test.true,
  ),
)
