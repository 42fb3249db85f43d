use Rattle.sb_world.specs.declared.link.Call.TheVariants as call
use Rattle.sb_retry.specs.Schedules.{millis_left}
use Rattle.sb_retry.specs.Transient.{list_fault}
use Rattle.sb_retry.proofs.Loops.{Stands}
use Rattle.sb_retry.proofs.retry.RetryLink.list.Given as goal

-- each attempt so far failed in a way that may pass
abbrev pub invariant-attempts : goal.invariant-attempts
invariant-attempts g l =
    Stands g.L.Link.log g.C.Clock.ticks g.L.Link.faults (call.List l.fn.prefix l.fn.marker) list_fault l.fn.self l.self l.schedule

-- fewer milliseconds of pauses are left
abbrev pub decreases-attempts : goal.decreases-attempts
decreases-attempts g l = millis_left l.schedule
