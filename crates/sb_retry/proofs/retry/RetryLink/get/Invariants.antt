use Rattle.std.proofs.Common.{◌≡◌, IfSome}
use Rattle.sb_world.specs.declared.link.Call.TheVariants as call
use Rattle.sb_retry.specs.Schedules.{millis_left}
use Rattle.sb_retry.specs.Transient.{get_fault}
use Rattle.sb_retry.proofs.Loops.{Stands}
use Rattle.sb_retry.proofs.retry.RetryLink.get.Given as goal

-- each attempt so far failed in a way that may pass, and spared the buffer where a digest was given
abbrev pub invariant-attempts : goal.invariant-attempts
invariant-attempts g l = record {
  stands : Stands g.L.Link.log g.C.Clock.ticks g.L.Link.faults (call.Get l.fn.name l.fn.verify) get_fault l.fn.self
      l.self l.schedule;
  spared : IfSome l.fn.verify (λ digest. l.out ≡ l.fn.out);
}

-- fewer milliseconds of pauses are left
abbrev pub decreases-attempts : goal.decreases-attempts
decreases-attempts g l = millis_left l.schedule
