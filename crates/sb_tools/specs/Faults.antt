-- What the tools answer where a request failed.
use Rattle.std.specs.Prelude.{ℕ, Option, Some, None, Result, Ok, Err, IsErrOf}
use Rattle.sb_world.specs.declared.link.LinkFault.{LinkFault}
use Rattle.sb_world.specs.declared.link.LinkFault.TheVariants as link
use Rattle.sb_tools.specs.declared.fault.ToolFault.{ToolFault}
use Rattle.sb_tools.specs.declared.fault.ToolFault.TheVariants.{StoreFault, Memory}

-- the fault of a tool whose request failed so
abbrev pub fault_by : LinkFault → ToolFault
fault_by (link.Failed status) = StoreFault status
fault_by link.Memory = Memory

-- what a tool answers by the fault of its last request
abbrev pub answer_by : Option LinkFault → Result Unit ToolFault
answer_by None = Ok tt
answer_by (Some fault) = Err (fault_by fault)

-- the answer is that the store failed
abbrev pub IsStoreFault : {T : Type 0} → Result T ToolFault → Type 0
IsStoreFault result = (status : ℕ) × IsErrOf result (StoreFault status)
