-- How an event changes which blocks are known to be zeros.
use Rattle.std.specs.Prelude.{ℕ, ◌≡◌, Bool, true, false, nat_eq, if◌then◌else◌, None}
use Rattle.sb_base.specs.declared.entry.Shown.{Shown}
use Rattle.sb_history.specs.Cache.{zero_shown}

-- a block is marked or not from then on, and every other one as before
pub record SetsMark (old new : ℕ → Bool) (block : ℕ) (is : Bool) : Type 0 where
  pub here : new block ≡ is
  pub others : (other : ℕ) → nat_eq other block ≡ false → new other ≡ old other

-- the begin of a put leaves the mark only where it is one of zeros
abbrev pub begun_mark : Bool → Bool → Bool
begun_mark zeros before = if zeros then before else false

-- the ok end of a put of zeros marks
abbrev pub ended_mark : Bool → Bool → Bool → Bool
ended_mark zeros ok before = if ok then (if zeros then true else before) else before

-- a taken answer marks where it shows no object, and leaves the mark only where it shows zeros
abbrev pub shown_mark : ℕ → Shown → Bool → Bool → Bool
shown_mark block_size answer taken before = if taken then zero_shown block_size None answer before else before
