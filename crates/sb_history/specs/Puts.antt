-- The puts of a block: each begin of one, with its end where it has one.
use Rattle.std.specs.Prelude.{ℕ, Bool, false, nat_eq, if◌then◌else◌, List, [], ◌∷◌, length, Option, Some, None, is_none}
use Rattle.sb_base.specs.declared.entry.EntryKind.{EntryKind}
use Rattle.sb_base.specs.declared.entry.EntryKind.TheVariants.{PutBegin, PutEnd}
use Rattle.sb_base.specs.declared.entry.Entry.{Entry}
use Rattle.sb_history.specs.Contents.{is_zeros}

-- how a put ended
pub record Ending : Type 0 where
  pub place : ℕ
  pub reading : ℕ
  pub ok : Bool

-- a put of a block: its content, and the pass, the place and the reading of its begin
pub record Put : Type 0 where
  pub content : List ℕ
  pub pass : ℕ
  pub place : ℕ
  pub reading : ℕ
  pub ending : Option Ending

-- the puts after the end of the newest one
abbrev pub ended : Ending → List Put → List Put
ended ending [] = []
ended ending (put ∷ puts) = record put { ending = Some ending } ∷ puts

-- the puts of a block after an entry of a pass, at a place and a reading
abbrev pub puts_after : ℕ → ℕ → ℕ → ℕ → EntryKind → List Put → List Put
puts_after block pass place reading (PutBegin of content) puts =
    if nat_eq of block
    then record { content = content; pass = pass; place = place; reading = reading; ending = None } ∷ puts else puts
puts_after block pass place reading (PutEnd of ok) puts =
    if nat_eq of block then ended (record { place = place; reading = reading; ok = ok }) puts else puts
puts_after block pass place reading kind puts = puts

-- the puts of a block, the newest first
abbrev pub puts_of : List Entry → ℕ → List Put
puts_of [] block = []
puts_of (entry ∷ past) block = puts_after block entry.pass (length past) entry.reading entry.kind (puts_of past block)

-- the newest put has not ended
abbrev pub newest_is_open : List Put → Bool
newest_is_open [] = false
newest_is_open (put ∷ puts) = is_none put.ending

-- a put of the block is open
abbrev pub put_open : List Entry → ℕ → Bool
put_open past block = newest_is_open (puts_of past block)

-- the newest put is one of zeros
abbrev pub newest_is_zeros : List Put → Bool
newest_is_zeros [] = false
newest_is_zeros (put ∷ puts) = is_zeros put.content

-- where the newest put began
abbrev pub newest_place : List Put → ℕ
newest_place [] = 0
newest_place (put ∷ puts) = put.place

-- a put has ended ok
abbrev pub is_acknowledged : Option Ending → Bool
is_acknowledged None = false
is_acknowledged (Some ending) = ending.ok
