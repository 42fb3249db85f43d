-- A token is put after a look for it, unless something stands against it.
use Rattle.std.proofs.Common.{◌≡◌, List, [], ◌∷◌, Some, None, Ok, Err, refl, sym}
use Rattle.std.specs.Prelude.{Option, Result}
use Rattle.sb_world.specs.declared.link.Call.{Call}
use Rattle.sb_world.specs.declared.link.LinkFault.{LinkFault}
use Rattle.sb_tools.specs.declared.fault.ToolFault.{ToolFault}
use Rattle.sb_tools.specs.Faults.{answer_by}
use Rattle.sb_tools.specs.Tokens.{Follows, answer_against}

-- nothing stood against it
pub follows_free : (refusal : Option ToolFault) → Ok tt ≡ answer_against refusal → (asked : Call)
    (put : Option LinkFault → Call) (result : Result Unit ToolFault) (failure : Option LinkFault)
    → result ≡ answer_by failure → Follows refusal asked put result (put failure ∷ asked ∷ [])
follows_free None free asked put result failure answer = (failure, answer, refl)
follows_free (Some refusal) free asked put result failure answer = absurd (cc)

-- something did
pub follows_refused : (refusal : Option ToolFault) (fault : ToolFault) → Err fault ≡ answer_against refusal → (asked : Call)
    (put : Option LinkFault → Call) → Follows refusal asked put (Err fault) (asked ∷ [])
follows_refused None fault refused asked put = absurd (cc)
follows_refused (Some refusal) fault refused asked put = (refused, refl)
