use Rattle.std.proofs.Common.{[], ◌∷◌, refl}
use Rattle.sb_world.specs.declared.clock.Tick.TheVariants as tick
use Rattle.sb_crew.specs.Joins.{gains_join}
use Rattle.sb_crew.proofs.pauses.pause.Goals as goal

pub returns-then-after-now : goal.returns-then-after-now
returns-then-after-now g c = record {
  ticks = tick.Taken c.now-after.result ∷ tick.Paused c.args.millis ∷ [];
  gained = gains_join _ _ _ (tick.Paused c.args.millis ∷ []) (tick.Taken c.now-after.result ∷ []) c.pause.ensures.told
      c.now-after.ensures.told;
  ends = (c.now-after.result, refl, c.if-after-now.true, refl);
  next = tt;
  later = tt;
}
