-- What a link was asked for in a call.
use Rattle.std.specs.Prelude.{◌≡◌, ◌⊎◌, List, [], Option, Result, Err}
use Rattle.sb_world.specs.Told.{Gains}
use Rattle.sb_world.specs.declared.link.Call.{Call}
use Rattle.sb_tools.specs.declared.fault.ToolFault.{ToolFault}
use Rattle.sb_tools.specs.declared.fault.ToolFault.TheVariants.{Memory}

-- a link was asked for requests of this kind
pub record Asks (before now : Option (List Call)) (Are : List Call → Type 0) : Type 0 where
  pub calls : List Call
  pub gained : Gains before now calls
  pub are : Are calls

-- no request was made for want of memory
pub record LacksMemory {T : Type 0} (result : Result T ToolFault) (calls : List Call) : Type 0 where
  pub answer : result ≡ Err Memory
  pub none : calls ≡ []
