-- Writes that came while a put was open, through the begins and ends of puts.
use Rattle.std.proofs.Common.{ℕ, zero, suc, ◌≡◌, ◌<◌, Bool, true, false, nat_le, if◌then◌else◌, List, [], ◌∷◌}
use Rattle.std.proofs.Common.{length, filter, Contains, Option, Some, None, refl, sym, ◌∙◌, subst, arith}
use Rattle.std.proofs.lemmas.Bool.{le-leb}
use Rattle.std.specs.Prelude.{slice_index_or}
use Rattle.sb_base.specs.declared.entry.Entry.{Entry}
use Rattle.sb_history.specs.Puts.{Ending, Put, puts_of, ended, newest_place}
use Rattle.sb_history.specs.Cache.{is_known_zero}
use Rattle.sb_history.specs.Writes.{unacked_writes}
use Rattle.sb_history.specs.CachePolicy.{CameDuring, WrittenDuringPut}
use Rattle.sb_blocks.specs.declared.cached.OpenPut.{OpenPut}
use Rattle.sb_blocks.specs.declared.cached.State.{State}
use Rattle.sb_blocks.specs.declared.cached.State.TheVariants.{Reading, Clean, Dirty, Writing, Writing2}
use Rattle.sb_blocks.specs.declared.cached.Cached.{Cached}
use Rattle.sb_core.specs.Represents.{nothing_found, open_put, WrittenSincePut, OwesZeros, OwesZerosIn}
use Rattle.sb_core.proofs.Histories.{AllBelow, NewestWithin}

-- lists that have an element
pub contains_head : {X : Type 0} (x : X) (xs : List X) → Contains (x ∷ xs) x
contains_head x xs = (0, omega arith, refl)

pub contains_tail : {X : Type 0} (x y : X) (xs : List X) → Contains xs x → Contains (y ∷ xs) x
contains_tail x y xs at = (suc at.0, omega (arith, at.1), at.2)

pub contained_below : (n x : ℕ) (xs : List ℕ) → AllBelow n xs → Contains xs x → x < n
contained_below n x [] below at = absurd (omega (arith, at.1))
contained_below n x (y ∷ ys) below at =
    by (λ k less is. contained_below n x ys below.1 (k, less, is)) at.0 at.1 at.2 where
      by : ((k : ℕ) → k < length ys → slice_index_or ys k x ≡ x → x < n) → (k : ℕ) → k < length (y ∷ ys)
          → slice_index_or (y ∷ ys) k x ≡ x → x < n
      by before zero less is = subst (λ z. z < n) is below.0
      by before (suc k) less is = before k (omega (arith, less)) is

pub contained_kept : (p : ℕ → Bool) (x : ℕ) (xs : List ℕ) → p x ≡ true → Contains xs x → Contains (filter p xs) x
contained_kept p x [] passes at = absurd (omega (arith, at.1))
contained_kept p x (y ∷ ys) passes at =
    by (λ k less is. contained_kept p x ys passes (k, less, is)) at.0 at.1 at.2 where
      either : (t : Bool) → Contains (filter p ys) x → Contains (if t then y ∷ filter p ys else filter p ys) x
      either true in_ = contains_tail x y (filter p ys) in_
      either false in_ = in_

      by : ((k : ℕ) → k < length ys → slice_index_or ys k x ≡ x → Contains (filter p ys) x) → (k : ℕ)
          → k < length (y ∷ ys) → slice_index_or (y ∷ ys) k x ≡ x
          → Contains (if p y then y ∷ filter p ys else filter p ys) x
      by before zero less is =
          subst (λ z. Contains (if p z then z ∷ filter p ys else filter p ys) x) (sym is)
          (subst (λ t. Contains (if t then x ∷ filter p ys else filter p ys) x) (sym passes)
          (contains_head x (filter p ys)))
      by before (suc k) less is = either (p y) (before k (omega (arith, less)) is)

-- one of these writes came while one of these puts was open, or since the newest began
abbrev pub DuringOne : List ℕ → List Put → Type 0
DuringOne writes puts =
    (write : ℕ) × (put : Put) × Contains writes write × Contains puts put × (put.place < write)
    × CameDuring put.ending write

abbrev pub SinceNewest : List ℕ → List Put → Type 0
SinceNewest writes puts = (write : ℕ) × Contains writes write × (newest_place puts < write)

-- a put begins
pub during_begun : (writes : List ℕ) (puts : List Put) (put : Put) → DuringOne writes puts → DuringOne writes (put ∷ puts)
during_begun writes puts put d = (d.0, d.1, d.2, contains_tail d.1 put puts d.3, d.4, d.5)

-- a put ends
pub during_ended : (writes : List ℕ) (puts : List Put) (ending : Ending) → AllBelow ending.place writes
    → DuringOne writes puts → DuringOne writes (ended ending puts)
during_ended writes [] ending below d = absurd (omega (arith, d.3.1))
during_ended writes (put ∷ puts) ending below d =
    by d.3.0 d.3.1 d.3.2 where
      by : (k : ℕ) → k < length (put ∷ puts) → slice_index_or (put ∷ puts) k d.1 ≡ d.1
          → DuringOne writes (ended ending (put ∷ puts))
      by zero less is = (
        d.0,
        record put { ending = Some ending },
        d.2,
        contains_head (record put { ending = Some ending }) puts,
        subst (λ (p : Put). p.place < d.0) (sym is) d.4,
        contained_below ending.place d.0 writes below d.2,
      )
      by (suc k) less is = (
        d.0,
        d.1,
        d.2,
        contains_tail d.1 (record put { ending = Some ending }) puts (k, omega (arith, less), is),
        d.4,
        d.5,
      )

-- the newest put ends
newest_ended : (writes : List ℕ) (puts : List Put) (of : OpenPut) (ending : Ending) (write : ℕ) → open_put puts ≡ Some of
    → AllBelow ending.place writes → Contains writes write → newest_place puts < write
    → DuringOne writes (ended ending puts)
newest_ended writes [] of ending write open_ below in_ less = absurd (cc)
newest_ended writes (put ∷ puts) of ending write open_ below in_ less = (
  write,
  record put { ending = Some ending },
  in_,
  contains_head (record put { ending = Some ending }) puts,
  less,
  contained_below ending.place write writes below in_,
)

pub since_ended : (writes : List ℕ) (puts : List Put) (of : OpenPut) (ending : Ending) → open_put puts ≡ Some of
    → AllBelow ending.place writes → SinceNewest writes puts → DuringOne writes (ended ending puts)
since_ended writes puts of ending open_ below since =
    newest_ended writes puts of ending since.0 open_ below since.1 since.2

-- and acknowledges what came before its begin
pub since_kept : (writes : List ℕ) (puts : List Put) → SinceNewest writes puts
    → SinceNewest (filter (λ write. nat_le (newest_place puts) write) writes) puts
since_kept writes puts since = (
  since.0,
  contained_kept (λ write. nat_le (newest_place puts) write) since.0 writes
      (le-leb (newest_place puts) since.0 (omega (arith, since.2))) since.1,
  since.2,
)

-- the newest put began in the history
pub newest_below : (n reading : ℕ) (puts : List Put) (of : OpenPut) → open_put puts ≡ Some of
    → NewestWithin n reading puts → newest_place puts < n
newest_below n reading [] of open_ within = absurd (cc)
newest_below n reading (put ∷ puts) of open_ within = within.0

-- an entry that changes none of it
module _ (size : ℕ) (past after : List Entry) (block : ℕ)
    (known : is_known_zero size nothing_found after block ≡ is_known_zero size nothing_found past block)
    (writes : unacked_writes size nothing_found after block ≡ unacked_writes size nothing_found past block)
    (puts : puts_of after block ≡ puts_of past block) where
  during_kept : WrittenDuringPut size nothing_found past block → WrittenDuringPut size nothing_found after block
  during_kept d =
      subst (λ ws. DuringOne ws (puts_of after block)) (sym writes)
      (subst (DuringOne (unacked_writes size nothing_found past block)) (sym puts) d)

  since_same : WrittenSincePut size past block → WrittenSincePut size after block
  since_same d =
      subst (λ ws. SinceNewest ws (puts_of after block)) (sym writes)
      (subst (SinceNewest (unacked_writes size nothing_found past block)) (sym puts) d)

  state_kept : (state : State) (body : List ℕ) → OwesZeros size past block state body
      → OwesZeros size after block state body
  state_kept (Reading get_) body owes = tt
  state_kept Clean body owes = tt
  state_kept (Dirty stamp since) body owes = λ is_zero marked. during_kept (owes is_zero (sym known ∙ marked))
  state_kept (Writing put stamp) body owes = λ marked. during_kept (owes (sym known ∙ marked))
  state_kept (Writing2 put stamp later since) body owes = since_same owes

  pub owes_kept : (held : Option Cached) → OwesZerosIn size past block held → OwesZerosIn size after block held
  owes_kept None owes = tt
  owes_kept (Some entry) owes = state_kept entry.state entry.body owes
