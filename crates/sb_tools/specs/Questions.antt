-- The question before blocks are erased, and its answer.
use Rattle.std.specs.Prelude.{ℕ, ◌≡◌, ◌≢◌, ◌<◌, ◌||◌, ◌⊎◌, Bool, if◌then◌else◌, List, [], ◌∷◌, ◌++◌, length}
use Rattle.std.specs.Prelude.{slice_index, EachIndex, codes, Option, Some, None, Result, Ok, Err}
use Rattle.std.specs.Str.{bytes_eq}
use Rattle.sb_world.specs.Streams.{Takes, Holds, IsAtEnd}
use Rattle.sb_tools.specs.declared.fault.ToolFault.{ToolFault}
use Rattle.sb_tools.specs.declared.fault.ToolFault.TheVariants as fault

-- the question
abbrev pub question : List ℕ
question = codes "erase all blocks? [y/n] "

-- an answer that erases
abbrev pub is_yes : List ℕ → Bool
is_yes answer = bytes_eq answer (codes "y") || bytes_eq answer (codes "yes")

-- what an answer does
abbrev pub yes_or_no : List ℕ → Result Unit ToolFault
yes_or_no answer = if is_yes answer then Ok tt else Err fault.Declined

-- bytes without a line end
abbrev pub IsInLine : List ℕ → Type 0
IsInLine bytes = EachIndex bytes (λ k. slice_index bytes k ≢ 10)

-- an answer is the bytes up to a line end, to the end of the input, or to 16 bytes
abbrev pub EndsAnswer : List ℕ → List ℕ → Option (List ℕ) → Type 0
EndsAnswer answer taken now =
    ((length answer < 16) × (taken ≡ answer ++ 10 ∷ []))
    ⊎ (((length answer < 16) × (taken ≡ answer) × IsAtEnd now) ⊎ ((length answer ≡ 16) × (taken ≡ answer)))

-- an input gave this answer, and what is behind it is left
pub record GivesAnswer (before now : Option (List ℕ)) (answer : List ℕ) : Type 0 where
  pub taken : List ℕ
  pub took : Takes before now taken
  pub line : IsInLine answer
  pub ends : EndsAnswer answer taken now

-- an input failed before its answer had ended
pub record FailsToAnswer (before now : Option (List ℕ)) : Type 0 where
  pub taken : List ℕ
  pub took : Takes before now taken
  pub line : IsInLine taken
  pub short : length taken < 16

-- an input gave an answer that does this
pub record Answers (before now : Option (List ℕ)) (result : Result Unit ToolFault) : Type 0 where
  pub answer : List ℕ
  pub gives : GivesAnswer before now answer
  pub is : yes_or_no answer ≡ result

-- an input gave an answer, or failed before it
abbrev pub ReadsYes : Result Unit ToolFault → Option (List ℕ) → Option (List ℕ) → Type 0
ReadsYes (Ok done) before now = Answers before now (Ok tt)
ReadsYes (Err fault.Declined) before now = Answers before now (Err fault.Declined)
ReadsYes (Err fault.InputFault) before now = FailsToAnswer before now
ReadsYes (Err other) before now = ⊥

-- a byte was taken, or there was none
abbrev pub TakesByte : {E : Type 0} → Option (List ℕ) → Option (List ℕ) → Result (Option ℕ) E → Type 0
TakesByte before now (Ok None) = Takes before now [] × IsAtEnd now
TakesByte before now (Ok (Some byte)) = Takes before now (byte ∷ [])
TakesByte before now (Err failed) = Takes before now []

-- an input and an output, by what they tell
pub record Talk : Type 0 where
  pub left : Option (List ℕ)
  pub held : Option (List ℕ)

-- only a front of the question was written, and nothing was read
pub record FailsToAsk (before now : Talk) : Type 0 where
  pub unread : now.left ≡ before.left
  pub front : List ℕ
  pub behind : List ℕ
  pub cut : question ≡ front ++ behind
  pub wrote : Holds before.held now.held front

-- the question was written, and then an answer was read
pub record AsksFor (before now : Talk) (result : Result Unit ToolFault) : Type 0 where
  pub wrote : Holds before.held now.held question
  pub read : ReadsYes result before.left now.left

-- a question and its answer, where each of the ways in which that ends has its cause
abbrev pub Confirms : Result Unit ToolFault → Talk → Talk → Type 0
Confirms (Err fault.OutputFault) before now = FailsToAsk before now
Confirms result before now = AsksFor before now result
