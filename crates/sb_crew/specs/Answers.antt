-- What the answers of a link are to the core and to the caller.
use Rattle.std.specs.Prelude.{ℕ, List, Result, Ok, Err}
use Rattle.sb_base.specs.declared.entry.Shown.{Shown}
use Rattle.sb_base.specs.declared.entry.Shown.TheVariants as shown
use Rattle.sb_world.specs.declared.link.Got.{Got}
use Rattle.sb_world.specs.declared.link.Got.TheVariants as got
use Rattle.sb_world.specs.declared.link.LinkFault.{LinkFault}
use Rattle.sb_world.specs.declared.link.LinkFault.TheVariants as link
use Rattle.sb_crew.specs.declared.calls.CallFault.{CallFault}
use Rattle.sb_crew.specs.declared.calls.CallFault.TheVariants.{StoreFault, Memory, ClockStalled}
use Rattle.sb_crew.specs.declared.calls.FlushFault.{FlushFault}
use Rattle.sb_crew.specs.declared.calls.FlushFault.TheVariants as flush

-- what a GET showed, with the bytes in its buffer
abbrev pub shown_for : Result Got LinkFault → List ℕ → Shown
shown_for (Ok got.Absent) room = shown.Absent
shown_for (Ok got.Bytes) room = shown.Bytes room
shown_for (Ok got.Same) room = shown.Same
shown_for (Err fault) room = shown.Failed

-- the fault that a call of the disk answers for one of its link
abbrev pub fault_for : LinkFault → FlushFault
fault_for (link.Failed status) = flush.StoreFault status
fault_for link.Memory = flush.Memory

-- a fault of what reads nothing, as one of any call
abbrev pub call_fault : FlushFault → CallFault
call_fault (flush.StoreFault status) = StoreFault status
call_fault flush.Memory = Memory
call_fault (flush.ClockStalled before asked after) = ClockStalled before asked after

abbrev pub as_call : {T : Type 0} → Result T FlushFault → Result T CallFault
as_call (Ok value) = Ok value
as_call (Err fault) = Err (call_fault fault)

-- how a call goes on behind a put
abbrev pub put_result : Result Unit LinkFault → Result Unit FlushFault
put_result (Ok done) = Ok done
put_result (Err fault) = Err (fault_for fault)
