-- Where each change of a cache leads: what is open, and how many events are left.
use Rattle.std.proofs.Common.{ℕ, ◌≡◌, ◌<◌, ◌≤◌, Bool, true, false, nat_eq, Option, Some, None}
use Rattle.std.proofs.Common.{refl, sym, ◌∙◌, ap, subst, arith}
use Rattle.std.proofs.lemmas.Bool.{eqb-true}
use Rattle.std.specs.Cmp.{nat_cmp_total}
use Rattle.std.specs.FinMap.{get, insert, remove, same_map, nat_cmp-IsAntisymmetric}
use Rattle.sb_blocks.specs.declared.cached.OpenGet.{OpenGet}
use Rattle.sb_blocks.specs.declared.cached.OpenPut.{OpenPut}
use Rattle.sb_blocks.specs.declared.cached.State.{State}
use Rattle.sb_blocks.specs.declared.cached.State.TheVariants.{Reading, Clean, Dirty, Writing, Writing2}
use Rattle.sb_blocks.specs.declared.cached.Cached.{Cached}
use Rattle.sb_blocks.specs.Cached.{get_in, get_by, put_in, put_by, passes, is_dirty, is_clean}
use Rattle.sb_blocks.specs.Moves.{state_written, put_begun, put_ended, state_put_ended}
use Rattle.sb_blocks.specs.Caches.{CachedBlocks, CacheState, with_entry, without}
use Rattle.sb_core.specs.Progress.{events_until_clean, events_by_state, steps_left_in}
use Rattle.sb_core.specs.Leads.{is_idle_by, is_idle_in, AllIdle, OthersIdle, KeepsRequests}
use Rattle.sb_core.proofs.Maps.{inserted, removed, get_other, gone_same, gone_other}
use Rattle.sb_core.proofs.Progressing.{closer_held}

-- what is idle after an edit
pub idle_others : (m : CachedBlocks) (k : ℕ) → AllIdle m → OthersIdle k m
idle_others m k idle other apart = idle other

pub idle_set : (m : CachedBlocks) (k : ℕ) (entry : Cached) → is_idle_by entry.state ≡ true → OthersIdle k m
    → AllIdle (insert m k entry)
idle_set m k entry here there = inserted m k entry (λ b e. is_idle_in e ≡ true) here there

pub idle_gone : (m : CachedBlocks) (k : ℕ) → OthersIdle k m → AllIdle (remove m k)
idle_gone m k there = removed m k (λ b e. is_idle_in e ≡ true) refl there

pub idle_but : (m : CachedBlocks) (k : ℕ) (entry : Cached) → AllIdle m → OthersIdle k (insert m k entry)
idle_but m k entry idle other apart = ap is_idle_in (get_other m k other entry apart) ∙ idle other

-- what is open after an edit
pub keeps_same : (m : CachedBlocks) → KeepsRequests m m
keeps_same m = record { gets = λ block get_ is. is; puts = λ block put is. is }

pub keeps_set : (m : CachedBlocks) (k : ℕ) (entry : Cached)
    → ((get_ : OpenGet) → get_in (get m k) ≡ Some get_ → get_by entry.state ≡ Some get_)
    → ((put : OpenPut) → put_in (get m k) ≡ Some put → put_by entry.state ≡ Some put)
    → KeepsRequests m (insert m k entry)
keeps_set m k entry gets puts = record {
  gets = inserted m k entry (λ b e. (get_ : OpenGet) → get_in (get m b) ≡ Some get_ → get_in e ≡ Some get_) gets
      (λ b apart get_ is. is);
  puts = inserted m k entry (λ b e. (put : OpenPut) → put_in (get m b) ≡ Some put → put_in e ≡ Some put) puts
      (λ b apart put is. is);
}

never_some : {X : Type 0} (found : Option X) (x : X) → found ≡ None → found ≡ Some x → ⊥
never_some found x none some = cc

-- nothing of the block was open
pub keeps_fresh : (m : CachedBlocks) (k : ℕ) (entry : Cached) → get_in (get m k) ≡ None → put_in (get m k) ≡ None
    → KeepsRequests m (insert m k entry)
keeps_fresh m k entry no_get no_put =
    keeps_set m k entry (λ get_ is. absurd (never_some (get_in (get m k)) get_ no_get is))
    (λ put is. absurd (never_some (put_in (get m k)) put no_put is))

pub keeps_gone : (m : CachedBlocks) (k : ℕ) → get_in (get m k) ≡ None → put_in (get m k) ≡ None
    → KeepsRequests m (remove m k)
keeps_gone m k no_get no_put = record {
  gets = removed m k (λ b e. (get_ : OpenGet) → get_in (get m b) ≡ Some get_ → get_in e ≡ Some get_)
      (λ get_ is. absurd (never_some (get_in (get m k)) get_ no_get is)) (λ b apart get_ is. is);
  puts = removed m k (λ b e. (put : OpenPut) → put_in (get m b) ≡ Some put → put_in e ≡ Some put)
      (λ put is. absurd (never_some (put_in (get m k)) put no_put is)) (λ b apart put is. is);
}

-- the same request as before
pub keeps_held : (m : CachedBlocks) (k : ℕ) (before entry : Cached) → get m k ≡ Some before
    → get_by entry.state ≡ get_by before.state → put_by entry.state ≡ put_by before.state
    → KeepsRequests m (insert m k entry)
keeps_held m k before entry is same_get same_put =
    keeps_set m k entry (λ get_ was. same_get ∙ sym (ap get_in is) ∙ was) (λ put was. same_put ∙ sym (ap put_in is) ∙ was)

-- an entry that is added and taken out again
pub set_gone : (m : CachedBlocks) (k : ℕ) (entry : Cached) → get m k ≡ None → remove (insert m k entry) k ≡ m
set_gone m k entry missing =
    same_map nat_cmp_total nat_cmp-IsAntisymmetric (remove (insert m k entry) k) m (λ q. by q (nat_eq k q) refl) where
      by : (q : ℕ) (t : Bool) → nat_eq k q ≡ t → get (remove (insert m k entry) k) q ≡ get m q
      by q true same =
          subst (λ x. get (remove (insert m k entry) k) x ≡ get m x) (eqb-true k q same)
          (gone_same (insert m k entry) k ∙ sym missing)
      by q false other = gone_other (insert m k entry) k q other ∙ get_other m k q entry other

pub undone : (cache : CacheState) (k : ℕ) (entry : Cached) → get cache.cached k ≡ None
    → without (with_entry cache k entry) k ≡ cache
undone cache k entry missing =
    ap (λ (m : CachedBlocks). record cache { cached = m }) (set_gone cache.cached k entry missing)

-- what an entry says by its state
pub dirty_requests : (found : Option Cached) → passes is_dirty found ≡ true
    → (get_in found ≡ None) × (put_in found ≡ None)
dirty_requests None dirty = (refl, refl)
dirty_requests (Some entry) dirty = by entry.state dirty where
  by : (state : State) → is_dirty state ≡ true → (get_by state ≡ None) × (put_by state ≡ None)
  by (Reading get_) dirty = absurd (cc)
  by Clean dirty = (refl, refl)
  by (Dirty stamp since) dirty = (refl, refl)
  by (Writing put stamp) dirty = absurd (cc)
  by (Writing2 put stamp later since) dirty = absurd (cc)

pub clean_requests : (found : Option Cached) → passes is_clean found ≡ true
    → (get_in found ≡ None) × (put_in found ≡ None)
clean_requests None clean = (refl, refl)
clean_requests (Some entry) clean = by entry.state clean where
  by : (state : State) → is_clean state ≡ true → (get_by state ≡ None) × (put_by state ≡ None)
  by (Reading get_) clean = absurd (cc)
  by Clean clean = (refl, refl)
  by (Dirty stamp since) clean = (refl, refl)
  by (Writing put stamp) clean = absurd (cc)
  by (Writing2 put stamp later since) clean = absurd (cc)

-- a put that begins
pub begun_closer : (cache : CacheState) (k pass stamp since : ℕ) (entry : Cached) → get cache.cached k ≡ Some entry
    → entry.state ≡ Dirty stamp since → (block : ℕ)
    → steps_left_in (with_entry cache k (put_begun pass entry)) block < steps_left_in cache block
begun_closer cache k pass stamp since entry is dirty block =
    closer_held cache k entry (put_begun pass entry) is
    (subst (λ st. events_until_clean (put_begun pass (record entry { state = st })).state < events_until_clean st)
    (sym dirty) (omega arith))
    (subst (λ st. events_by_state (put_begun pass (record entry { state = st })).state ≤ events_by_state st)
    (sym dirty) (omega arith)) block

-- a put that ends ok
ended_less : (state : State) (now : ℕ) (put : OpenPut) → put_by state ≡ Some put
    → (events_until_clean (state_put_ended true now state) < events_until_clean state)
    × (events_by_state (state_put_ended true now state) ≤ events_by_state state)
ended_less (Reading get_) now put is = absurd (cc)
ended_less Clean now put is = absurd (cc)
ended_less (Dirty stamp since) now put is = absurd (cc)
ended_less (Writing of stamp) now put is = (omega arith, omega arith)
ended_less (Writing2 of stamp later since) now put is = (omega arith, omega arith)

pub ended_closer : (cache : CacheState) (k now : ℕ) (put : OpenPut) (entry : Cached) → get cache.cached k ≡ Some entry
    → put_by entry.state ≡ Some put → (block : ℕ)
    → steps_left_in (with_entry cache k (put_ended true now entry)) block < steps_left_in cache block
ended_closer cache k now put entry is opened block =
    let less = ended_less entry.state now put opened in
    closer_held cache k entry (put_ended true now entry) is less.0 less.1 block

-- after the end of a put nothing of the block is open
pub ended_idle : (ok : Bool) (state : State) (now : ℕ) (put : OpenPut) → put_by state ≡ Some put
    → is_idle_by (state_put_ended ok now state) ≡ true
ended_idle ok (Reading get_) now put is = absurd (cc)
ended_idle ok Clean now put is = absurd (cc)
ended_idle ok (Dirty stamp since) now put is = absurd (cc)
ended_idle true (Writing of stamp) now put is = refl
ended_idle false (Writing of stamp) now put is = refl
ended_idle true (Writing2 of stamp later since) now put is = refl
ended_idle false (Writing2 of stamp later since) now put is = refl

-- and where it failed the block is dirty
pub failed_dirty : (state : State) (now : ℕ) (put : OpenPut) → put_by state ≡ Some put
    → is_dirty (state_put_ended false now state) ≡ true
failed_dirty (Reading get_) now put is = absurd (cc)
failed_dirty Clean now put is = absurd (cc)
failed_dirty (Dirty stamp since) now put is = refl
failed_dirty (Writing of stamp) now put is = refl
failed_dirty (Writing2 of stamp later since) now put is = refl

-- a block that is held and idle is idle after a write
pub written_idle : (clears : Bool) (epoch now : ℕ) (state : State) → is_idle_by state ≡ true
    → is_idle_by (state_written clears epoch now state) ≡ true
written_idle clears epoch now (Reading get_) idle = absurd (cc)
written_idle true epoch now Clean idle = refl
written_idle false epoch now Clean idle = refl
written_idle true epoch now (Dirty stamp since) idle = refl
written_idle false epoch now (Dirty stamp since) idle = refl
written_idle clears epoch now (Writing put stamp) idle = absurd (cc)
written_idle clears epoch now (Writing2 put stamp later since) idle = absurd (cc)

pub written_requests : (clears : Bool) (epoch now : ℕ) (state : State)
    → (get_by (state_written clears epoch now state) ≡ get_by state)
    × (put_by (state_written clears epoch now state) ≡ put_by state)
written_requests clears epoch now (Reading get_) = (refl, refl)
written_requests true epoch now Clean = (refl, refl)
written_requests false epoch now Clean = (refl, refl)
written_requests true epoch now (Dirty stamp since) = (refl, refl)
written_requests false epoch now (Dirty stamp since) = (refl, refl)
written_requests clears epoch now (Writing put stamp) = (refl, refl)
written_requests clears epoch now (Writing2 put stamp later since) = (refl, refl)
