-- The GET of a block that is open.
use Rattle.std.specs.Prelude.{ℕ, nat_eq, if◌then◌else◌, List, [], ◌∷◌, length, Option, Some, None}
use Rattle.sb_base.specs.declared.line.Expect.{Expect}
use Rattle.sb_base.specs.declared.entry.EntryKind.{EntryKind}
use Rattle.sb_base.specs.declared.entry.EntryKind.TheVariants.{GetBegin, GetEnd}
use Rattle.sb_base.specs.declared.entry.Entry.{Entry}

-- a GET that has begun: its pass, place and reading, the digest that it has to show, and the one that it asks about
pub record Fetch : Type 0 where
  pub pass : ℕ
  pub place : ℕ
  pub reading : ℕ
  pub expect : Option Expect
  pub verify : Option (List ℕ)

-- the GET of a block that is open after an entry of a pass, at a place and a reading
abbrev pub fetch_after : ℕ → ℕ → ℕ → ℕ → EntryKind → Option Fetch → Option Fetch
fetch_after block pass place reading (GetBegin of expect verify) before =
    if nat_eq of block
    then Some (record { pass = pass; place = place; reading = reading; expect = expect; verify = verify }) else before
fetch_after block pass place reading (GetEnd of answer verify taken) before = if nat_eq of block then None else before
fetch_after block pass place reading kind before = before

-- the GET of a block that is open
abbrev pub fetch_of : List Entry → ℕ → Option Fetch
fetch_of [] block = None
fetch_of (entry ∷ past) block =
    fetch_after block entry.pass (length past) entry.reading entry.kind (fetch_of past block)
