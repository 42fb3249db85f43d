-- When a put that has to wait may begin, where no put is open.
use Rattle.std.specs.Prelude.{ℕ, ◌≡◌, ◌≢◌, ◌<◌, ◌≤◌, true, false, is_some}
use Rattle.std.specs.FinMap.{get, len}
use Rattle.sb_window.specs.declared.window.PutWhen.{PutWhen}
use Rattle.sb_window.specs.declared.window.PutWhen.TheVariants.{Now, Busy, At, Full}
use Rattle.sb_window.specs.Windows.{WindowState, put_when, is_open}

-- no put is open
abbrev pub NoneOpen : WindowState → Type 0
NoneOpen window = (block : ℕ) → is_open (get window.puts block) ≡ false

-- the window has room for each block of a disk, this one among them, and puts of these alone
pub record HoldsEach (window : WindowState) (blocks block : ℕ) : Type 0 where
  pub enough : blocks ≤ window.md5_size
  pub on_disk : block < blocks
  pub others : (other : ℕ) → is_some (get window.puts other) ≡ true → other < blocks

-- a put of the block may begin from a reading on that lies ahead, if nothing else happens
pub record MayBeginFrom (window : WindowState) (block now until : ℕ) : Type 0 where
  pub ahead : now < until
  pub later : (reading : ℕ) → until ≤ reading → put_when window block reading ≡ Now

-- what is waited for comes by the time alone; the window is full only where puts are not kept for ever
abbrev pub EndsAhead : WindowState → ℕ → ℕ → PutWhen → Type 0
EndsAhead window block now Now = Unit {0}
EndsAhead window block now Busy = ⊥
EndsAhead window block now (At until) = MayBeginFrom window block now until
EndsAhead window block now (Full until) = (window.md5_time ≢ 0) × MayBeginFrom window block now until

-- where no put is open, a put that may not begin yet waits for a reading alone; where puts are kept for ever, the
-- window has room for each block
abbrev pub WaitsEnd : Type 0
WaitsEnd =
    (window : WindowState) (blocks block now : ℕ) → len window.puts ≤ window.md5_size → NoneOpen window
    → (window.md5_size ≢ 0 → window.md5_time ≡ 0 → HoldsEach window blocks block)
    → EndsAhead window block now (put_when window block now)
