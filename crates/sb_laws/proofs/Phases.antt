-- The phases of a block, by what the history says of it.
use Rattle.std.proofs.Common.{ℕ, ◌≡◌, ◌<◌, ◌≤◌, Bool, true, false, nat_le, List, [], ◌∷◌, length, filter, Option, Some}
use Rattle.std.proofs.Common.{None}
use Rattle.md5.specs.Md5.{md5}
use Rattle.sb_base.specs.declared.settings.Settings.{Settings}
use Rattle.sb_history.specs.Contents.{zeros}
use Rattle.sb_history.specs.Puts.{Put, Ending}
use Rattle.sb_history.specs.Gets.{Fetch}
use Rattle.sb_history.specs.Visibility.{Delays}
use Rattle.sb_history.specs.Durability.{possible_of}
use Rattle.sb_history.specs.Writes.{is_nil}
use Rattle.sb_history.specs.Window.{expected}
use Rattle.sb_laws.proofs.Held.{Each, Had}
use Rattle.sb_laws.proofs.Order.{EndedBy, Ordered}

-- what is known of what a cache file had
abbrev pub Verifies : Option (List ℕ) → Option (List ℕ) → Type 0
Verifies found None = Unit {0}
Verifies found (Some digest) = (body : List ℕ) × (found ≡ Some body) × (md5 body ≡ digest)

-- the newest put ended ok, if it ended
abbrev pub EndedOk : Option Ending → Type 0
EndedOk None = Unit {0}
EndedOk (Some ending) = ending.ok ≡ true

abbrev pub NewestOk : List Put → Type 0
NewestOk [] = Unit {0}
NewestOk (put ∷ puts) = EndedOk put.ending

-- a put that is open
abbrev pub OpenPut : ℕ → Delays → ℕ → ℕ → (ℕ → List ℕ → Type 0) → List ℕ → List Put → Type 0
OpenPut block_size delay n r H owed [] = ⊥
OpenPut block_size delay n r H owed (put ∷ puts) =
    (put.ending ≡ None) × (put.place < n) × (put.reading ≤ r) × Ordered delay (put ∷ puts)
    × (length put.content ≡ block_size) × Had H n (filter (λ write. nat_le put.place write) owed) put.content

pub data Phase (block_size : ℕ) (settings : Settings) (delay : Delays) (found : Option (List ℕ)) (n r : ℕ)
    (known : Option (List ℕ)) (absent : Bool) (get : Option Fetch) (puts : List Put) (owed content : List ℕ)
    (H : ℕ → List ℕ → Type 0) : Type 0 where
  idle : known ≡ None → get ≡ None → EndedBy n r puts → Ordered delay puts → is_nil owed ≡ true
      → Phase block_size settings delay found n r known absent get puts owed content H
  getting : (fetch : Fetch) → known ≡ None → get ≡ Some fetch → absent ≡ false → fetch.place ≤ n → fetch.reading ≤ r
      → EndedBy fetch.place fetch.reading puts → Ordered delay puts → is_nil owed ≡ true
      → fetch.expect ≡ expected settings fetch.reading puts → Verifies found fetch.verify
      → Phase block_size settings delay found n r known absent get puts owed content H
  held : known ≡ Some content → get ≡ None → EndedBy n r puts → Ordered delay puts
      → Phase block_size settings delay found n r known absent get puts owed content H
  writing : known ≡ Some content → get ≡ None → is_nil owed ≡ false → OpenPut block_size delay n r H owed puts
      → Phase block_size settings delay found n r known absent get puts owed content H

-- a block's state: its phase; what is in the store it had since each place that no owed write stands before;
-- a block that is known to be zeros has nothing else in the store; one that owes nothing was acknowledged last
abbrev pub Holds :
    ℕ → Settings → Delays → Option (List ℕ) → List ℕ → ℕ → ℕ → Option (List ℕ) → Bool → Option Fetch → List Put → List ℕ
    → List ℕ → (ℕ → List ℕ → Type 0) → Type 0
Holds block_size settings delay found start n r known absent get puts owed content H =
    Phase block_size settings delay found n r known absent get puts owed content H
    × Each (Had H n owed) (possible_of start puts)
    × (absent ≡ true → Each (λ c. c ≡ zeros block_size) (possible_of start puts))
    × (absent ≡ false → is_nil owed ≡ true → NewestOk puts)

-- something is in the store
pub some_remains : (start : List ℕ) (puts : List Put) (P Q : List ℕ → Type 0) → Each P (possible_of start puts)
    → Each Q (possible_of start puts) → (x : List ℕ) × P x × Q x
some_remains start [] P Q a b = (start, a.0, b.0)
some_remains start (put ∷ puts) P Q a b = (put.content, a.0, b.0)
