-- The states that a history gives go by the table.
use Rattle.std.proofs.Common.{ℕ, suc, ◌≡◌, ◌<◌, ◌⊎◌, Bool, true, false, not, ◌&&◌, if◌then◌else◌, nat_eq, nat_le, List}
use Rattle.std.proofs.Common.{[], ◌∷◌, length, filter, Option, Some, None, is_some, is_none, refl, ◌∙◌, subst, inl, inr}
use Rattle.std.proofs.Common.{arith, rules}
use Rattle.std.proofs.lemmas.Bool.{eqb-true, le-leb, lt-leb}
use Rattle.sb_base.specs.declared.geometry.Geometry.{Geometry}
use Rattle.sb_base.specs.declared.settings.Settings.{Settings}
use Rattle.sb_base.specs.declared.entry.EntryKind.{EntryKind}
use Rattle.sb_base.specs.declared.entry.EntryKind.TheVariants as kind
use Rattle.sb_base.specs.declared.entry.Entry.{Entry}
use Rattle.sb_history.specs.Contents.{is_zeros}
use Rattle.sb_history.specs.Puts.{Put, Ending, puts_of, ended, newest_is_open, newest_is_zeros, newest_place, put_open}
use Rattle.sb_history.specs.Gets.{Fetch, fetch_of}
use Rattle.sb_history.specs.Cache.{Found, outcome, cached_content, cached_after, cached_unless_zeros, zero_shown}
use Rattle.sb_history.specs.Cache.{answer_content, is_known_zero}
use Rattle.sb_history.specs.Writes.{is_nil, unacked_writes}
use Rattle.sb_history.specs.Eviction.{waits_unverified, is_clean, is_unverified}
use Rattle.sb_history.specs.AccessRules.{is_opening, is_opening_kind, EndsFetch, EndsPut, BeginsGet, BeginsPut}
use Rattle.sb_history.specs.AccessRules.{MayFollow, FollowsAccessRules}
use Rattle.sb_history.specs.CachePolicy.{FetchesUnknown, DropsVictim, PutsDirty, ObeysPolicy, FollowsCachePolicy}
use Rattle.sb_history.specs.States.{missing, clean, clean2, dirty, reading, reading2, writing, writing2, state_of}
use Rattle.sb_history.specs.States.{state_at, written, get_begun, get_ended, put_begun, put_ended, next_state}
use Rattle.sb_history.specs.Laws.{StatesGoByTable}
use Rattle.sb_laws.proofs.Ends.{both_true, ends_open, not_open_end, opening}
use Rattle.sb_laws.proofs.Held.{Each, Each-map}
use Rattle.sb_laws.proofs.Steps.{all_three, known_written, not_both, unknown_written, unknown_zeros}
use Rattle.sb_laws.proofs.Victims.{dirty_owes, not_true, unverified_unknown, victim_cases}

-- how the parts of a block's state fit together
pub data Shape (n : ℕ) (unverified : Bool) (known : Option (List ℕ)) (absent : Bool) (get : Option Fetch)
    (puts : List Put) (owed : List ℕ) : Type 0 where
  idle : known ≡ None → get ≡ None → newest_is_open puts ≡ false → is_nil owed ≡ true
      → (absent ≡ true → unverified ≡ false) → Shape n unverified known absent get puts owed
  getting : (fetch : Fetch) → known ≡ None → get ≡ Some fetch → absent ≡ false → newest_is_open puts ≡ false
      → is_nil owed ≡ true → Shape n unverified known absent get puts owed
  held : (content : List ℕ) → known ≡ Some content → get ≡ None → newest_is_open puts ≡ false → unverified ≡ false
      → Shape n unverified known absent get puts owed
  putting : (content : List ℕ) → known ≡ Some content → get ≡ None → newest_is_open puts ≡ true → newest_place puts < n
      → is_nil owed ≡ false → unverified ≡ false → Shape n unverified known absent get puts owed

-- with the places of the writes
abbrev Fits : ℕ → Bool → Option (List ℕ) → Bool → Option Fetch → List Put → List ℕ → Type 0
Fits n unverified known absent get puts owed = Shape n unverified known absent get puts owed × Each (λ w. w < n) owed

below_later : (n : ℕ) (owed : List ℕ) → Each (λ w. w < n) owed → Each (λ w. w < suc n) owed
below_later n owed all = Each-map (λ w. w < n) (λ w. w < suc n) owed (λ w less. omega (arith, less)) all

-- no write stands after a put that begins now
none_since : (n : ℕ) (owed : List ℕ) → Each (λ w. w < n) owed → is_nil (filter (λ write. nat_le n write) owed) ≡ true
none_since n [] all = refl
none_since n (w ∷ ws) all = let later = lt-leb n w all.0 in rw later (none_since n ws all.1)

filter_below :
    (n m : ℕ) (owed : List ℕ) → Each (λ w. w < n) owed → Each (λ w. w < n) (filter (λ write. nat_le m write) owed)
filter_below n m [] all = tt
filter_below n m (w ∷ ws) all = keep (nat_le m w) (filter_below n m ws all.1) where
  keep : (b : Bool) → Each (λ w. w < n) (filter (λ write. nat_le m write) ws)
      → Each (λ w. w < n) (if b then w ∷ filter (λ write. nat_le m write) ws else filter (λ write. nat_le m write) ws)
  keep true others = (all.0, others)
  keep false others = others

module _ (n : ℕ) (get : Option Fetch) (puts : List Put) (owed : List ℕ) where
  shape_later : (unverified absent : Bool) (known : Option (List ℕ)) → Shape n unverified known absent get puts owed
      → Shape (suc n) unverified known absent get puts owed
  shape_later unverified absent known (idle k g o d u) = idle k g o d u
  shape_later unverified absent known (getting fetch k g a o d) = getting fetch k g a o d
  shape_later unverified absent known (held content k g o u) = held content k g o u
  shape_later unverified absent known (putting content k g o p d u) = putting content k g o (omega (arith, p)) d u

  same : (unverified absent : Bool) (known : Option (List ℕ)) → Fits n unverified known absent get puts owed
      → Fits (suc n) unverified known absent get puts owed
  same unverified absent known p = (shape_later unverified absent known p.0, below_later n owed p.1)

  table_known_zero : (unverified absent : Bool) (known : Option (List ℕ)) (t : Bool)
      → (t ≡ true → (get ≡ None) × (puts ≡ []) × (known ≡ None)) → Fits n unverified known absent get puts owed
      → Fits (suc n) (if t then false else unverified) known (if t then true else absent) get puts owed
      × (state_of (if t then false else unverified) known get puts owed ≡
      (if t then missing else state_of unverified known get puts owed))
  table_known_zero unverified absent known false may p = (same unverified absent known p, refl)
  table_known_zero unverified absent known true may p =
      (by p.0, rw ((may refl).0, (may refl).1, (may refl).2) refl) where
        by : Shape n unverified known absent get puts owed → Fits (suc n) false known true get puts owed
        by (idle k g o d u) = (idle k g o d (λ is. refl), below_later n owed p.1)
        by (getting fetch k g a o d) = let none = (may refl).0 in absurd (cc)
        by (held content k g o u) = let none = (may refl).2 in absurd (cc)
        by (putting content k g o x d u) = let none = (may refl).2 in absurd (cc)

  table_drop : (unverified absent : Bool) (known : Option (List ℕ)) (t : Bool)
      → (t ≡ true → (get ≡ None) × (newest_is_open puts ≡ false) × (is_nil owed ≡ true))
      → Fits n unverified known absent get puts owed
      → Fits (suc n) (if t then false else unverified) (if t then None else known) absent get puts owed
      × (state_of (if t then false else unverified) (if t then None else known) get puts owed ≡
      (if t then missing else state_of unverified known get puts owed))
  table_drop unverified absent known false may p = (same unverified absent known p, refl)
  table_drop unverified absent known true may p =
      let m = may refl in ((idle refl m.0 m.1 m.2 (λ is. refl), below_later n owed p.1), rw (m.0, m.1) refl)

  table_get_begin : (unverified absent : Bool) (known : Option (List ℕ)) (fetch : Fetch) (t : Bool)
      → (t ≡ true → (known ≡ None) × (absent ≡ false) × (get ≡ None)) → Fits n unverified known absent get puts owed
      → Fits (suc n) unverified known absent (if t then Some fetch else get) puts owed
      × (state_of unverified known (if t then Some fetch else get) puts owed ≡
      (if t then get_begun (state_of unverified known get puts owed) else state_of unverified known get puts owed))
  table_get_begin unverified absent known fetch false may p = (same unverified absent known p, refl)
  table_get_begin unverified absent known fetch true may p = by p.0 where
    begun : (unverified : Bool)
        → (if unverified then reading2 else reading) ≡ get_begun (if unverified then clean2 else missing)
    begun true = refl
    begun false = refl

    by : Shape n unverified known absent get puts owed → Fits (suc n) unverified known absent (Some fetch) puts owed
        × ((if unverified then reading2 else reading) ≡ get_begun (state_of unverified known get puts owed))
    by (idle k g o d u) =
        ((getting fetch k refl (may refl).1 o d, below_later n owed p.1), rw (k, g, o) (begun unverified))
    by (getting other k g a o d) = let none = (may refl).2 in absurd (cc)
    by (held content k g o u) = let none = (may refl).0 in absurd (cc)
    by (putting content k g o x d u) = let none = (may refl).0 in absurd (cc)

  table_get_end : (unverified absent absent' : Bool) (known : Option (List ℕ)) (given : List ℕ) (t taken : Bool)
      → (t ≡ true → get ≡ None → ⊥) → Fits n unverified known absent get puts owed
      → Fits (suc n) (if t then (if taken then false else unverified) else unverified)
      (if t then (if taken then Some given else known) else known)
      (if t then (if taken then absent' else absent) else absent) (if t then None else get) puts owed
      × (state_of (if t then (if taken then false else unverified) else unverified)
      (if t then (if taken then Some given else known) else known) (if t then None else get) puts owed ≡
      (if t then get_ended taken (state_of unverified known get puts owed) else state_of unverified known get puts
      owed))
  table_get_end unverified absent absent' known given false taken may p = (same unverified absent known p, refl)
  table_get_end unverified absent absent' known given true taken may p = by taken p.0 where
    ends : (unverified : Bool)
        → (if unverified then clean2 else missing) ≡ get_ended false (if unverified then reading2 else reading)
    ends true = refl
    ends false = refl

    by : (taken : Bool) → Shape n unverified known absent get puts owed → Fits (suc n)
        (if taken then false else unverified) (if taken then Some given else known)
        (if taken then absent' else absent) None puts owed
        × (state_of (if taken then false else unverified) (if taken then Some given else known) None puts owed
        ≡ get_ended taken (state_of unverified known get puts owed))
    by taken (idle k g o d u) = absurd (may refl g)
    by taken (held content k g o u) = absurd (may refl g)
    by taken (putting content k g o x d u) = absurd (may refl g)
    by true (getting fetch k g a o d) = ((held given refl refl o refl, below_later n owed p.1), rw (o, d) refl)
    by false (getting fetch k g a o d) =
        ((idle k refl o d (λ is. absurd (cc)), below_later n owed p.1), rw (k, g, o) (ends unverified))

  table_put_begin :
      (unverified absent absent' : Bool) (known : Option (List ℕ)) (put : Put) (t : Bool) → put.ending ≡ None
      → put.place ≡ n → (t ≡ true → (known ≡ Some put.content) × (newest_is_open puts ≡ false) × (is_nil owed ≡ false))
      → Fits n unverified known absent get puts owed
      → Fits (suc n) unverified known (if t then absent' else absent) get (if t then put ∷ puts else puts) owed
      × (state_of unverified known get (if t then put ∷ puts else puts) owed ≡
      (if t then put_begun (state_of unverified known get puts owed) else state_of unverified known get puts owed))
  table_put_begin unverified absent absent' known put false none here may p = (same unverified absent known p, refl)
  table_put_begin unverified absent absent' known put true none here may p = by p.0 where
    by : Shape n unverified known absent get puts owed → Fits (suc n) unverified known absent' get (put ∷ puts) owed
        × (state_of unverified known get (put ∷ puts) owed ≡ put_begun (state_of unverified known get puts owed))
    by (idle k g o d u) = let some = (may refl).0 in absurd (cc)
    by (getting fetch k g a o d) = let some = (may refl).0 in absurd (cc)
    by (putting content k g o x d u) = let shut = (may refl).1 in absurd (cc)
    by (held content k g o u) =
        let m = may refl in
        let since = none_since n owed p.1 in (
          (putting content k g (rw none refl) (omega (arith, here)) m.2 u, below_later n owed p.1),
          rw (k, g, o, m.2, none, here, since) refl,
        )

  table_put_end : (unverified absent absent' : Bool) (known : Option (List ℕ)) (ending : Ending) (t ok : Bool)
      → (t ≡ true → newest_is_open puts ≡ true) → Fits n unverified known absent get puts owed
      → Fits (suc n) unverified known (if t then absent' else absent) get (if t then ended ending puts else puts)
      (if t then (if ok then filter (λ write. nat_le (newest_place puts) write) owed else owed) else owed)
      × (state_of unverified known get (if t then ended ending puts else puts)
      (if t then (if ok then filter (λ write. nat_le (newest_place puts) write) owed else owed) else owed) ≡
      (if t then put_ended ok (state_of unverified known get puts owed) else state_of unverified known get puts owed))
  table_put_end unverified absent absent' known ending false ok may p = (same unverified absent known p, refl)
  table_put_end unverified absent absent' known ending true ok may p = by ok p.0 where
    shut : (puts : List Put) → newest_is_open puts ≡ true → newest_is_open (ended ending puts) ≡ false
    shut [] o = absurd (cc)
    shut (put ∷ puts) o = refl

    after_ok : (b : Bool) → (if b then clean else dirty) ≡ put_ended true (if b then writing else writing2)
    after_ok true = refl
    after_ok false = refl

    after_failed : (b : Bool) → dirty ≡ put_ended false (if b then writing else writing2)
    after_failed true = refl
    after_failed false = refl

    by : (ok : Bool) → Shape n unverified known absent get puts owed → Fits (suc n) unverified known absent' get
        (ended ending puts) (if ok then filter (λ write. nat_le (newest_place puts) write) owed else owed)
        × (state_of unverified known get (ended ending puts)
        (if ok then filter (λ write. nat_le (newest_place puts) write) owed else owed) ≡ put_ended ok
        (state_of unverified known get puts owed))
    by ok (idle k g o d u) = let is = may refl in absurd (cc)
    by ok (getting fetch k g a o d) = let is = may refl in absurd (cc)
    by ok (held content k g o u) = let is = may refl in absurd (cc)
    by true (putting content k g o x d u) =
        let closed = shut puts o in (
          (held content k g closed u, filter_below (suc n) (newest_place puts) owed (below_later n owed p.1)),
          rw (k, g, o, closed) (after_ok (is_nil (filter (λ write. nat_le (newest_place puts) write) owed))),
        )
    by false (putting content k g o x d u) =
        let closed = shut puts o in (
          (held content k g closed u, below_later n owed p.1),
          rw (k, g, o, closed, d) (after_failed (is_nil (filter (λ write. nat_le (newest_place puts) write) owed))),
        )

  table_write : (unverified absent : Bool) (known : Option (List ℕ)) (out : List ℕ) (t : Bool) → (t ≡ true → get ≡ None)
      → Fits n unverified known absent get puts owed
      → Fits (suc n) (if t then false else unverified) (if t then cached_unless_zeros absent known out else known)
      absent get puts
      (if t then (if (absent && not (newest_is_open puts)) && is_zeros out then [] else n ∷ owed) else owed)
      × (state_of (if t then false else unverified) (if t then cached_unless_zeros absent known out else known) get
      puts (if t then (if (absent && not (newest_is_open puts)) && is_zeros out then [] else n ∷ owed) else owed)
      ≡ (if t then written ((absent && not (newest_is_open puts)) && is_zeros out)
      (state_of unverified known get puts owed) else state_of unverified known get puts owed))
  table_write unverified absent known out false may p = (same unverified absent known p, refl)
  table_write unverified absent known out true may p =
      by p.0 ((absent && not (newest_is_open puts)) && is_zeros out) refl where
        new_clean2 : (u : Bool) → dirty ≡ written false (if u then clean2 else missing)
        new_clean2 true = refl
        new_clean2 false = refl

        new_dirty : (d : Bool) → dirty ≡ written false (if d then clean else dirty)
        new_dirty true = refl
        new_dirty false = refl

        now_clean : (d : Bool) → clean ≡ written true (if d then clean else dirty)
        now_clean true = refl
        now_clean false = refl

        now_written : (d : Bool) → writing2 ≡ written false (if d then writing else writing2)
        now_written true = refl
        now_written false = refl

        by : Shape n unverified known absent get puts owed → (c : Bool)
            → ((absent && not (newest_is_open puts)) && is_zeros out) ≡ c
            → Fits (suc n) false (cached_unless_zeros absent known out) absent get puts (if c then [] else n ∷ owed)
            × (state_of false (cached_unless_zeros absent known out) get puts (if c then [] else n ∷ owed) ≡ written c
            (state_of unverified known get puts owed))
        by (getting fetch k g a o d) c is = let none = may refl in absurd (cc)
        by (idle k g o d u) true is =
            let three = all_three absent (newest_is_open puts) (is_zeros out) is in
            let none = unknown_zeros absent known out k three.0 three.2 in
            let verified = u three.0 in
            ((idle none g o refl (λ x. refl), tt), rw (none, k, g, o, verified) refl)
        by (idle k g o d u) false is =
            let some = unknown_written absent known out k (not_both absent (newest_is_open puts) (is_zeros out) o is) in (
              (held out some g o refl, (omega arith, below_later n owed p.1)),
              rw (some, k, g, o) (new_clean2 unverified),
            )
        by (held content k g o u) true is =
            let some = known_written absent known out content k in
            ((held out some g o refl, tt), rw (some, k, g, o) (now_clean (is_nil owed)))
        by (held content k g o u) false is =
            let some = known_written absent known out content k in (
              (held out some g o refl, (omega arith, below_later n owed p.1)),
              rw (some, k, g, o) (new_dirty (is_nil owed)),
            )
        by (putting content k g o x d u) true is = let shut =
            (all_three absent (newest_is_open puts) (is_zeros out) is).1
            in absurd (cc)
        by (putting content k g o x d u) false is =
            let some = known_written absent known out content k in
            let since = le-leb (newest_place puts) n (omega (arith, x)) in (
              (putting out some g o (omega (arith, x)) refl refl, (omega arith, below_later n owed p.1)),
              rw (some, k, g, o, since) (now_written (is_nil (filter
                  (λ write. nat_le (newest_place puts) write) owed))),
            )

-- in the opening nothing is cached
opening_entry :
    (block_size block : ℕ) (found : Option (List ℕ)) (known_zero : Bool) (e : EntryKind) (cached : Option (List ℕ))
    → is_opening_kind e ≡ true → cached_after block_size block found known_zero e cached ≡ cached
opening_entry block_size block found known_zero (kind.KnownZero of) cached is = refl
opening_entry block_size block found known_zero (kind.Write part bytes) cached is = absurd (cc)
opening_entry block_size block found known_zero (kind.GetEnd of answer verify taken) cached is = absurd (cc)
opening_entry block_size block found known_zero (kind.Dropped of) cached is = absurd (cc)
opening_entry block_size block found known_zero e cached is = refl

opening_unknown : (block_size : ℕ) (found : Found) (past : List Entry) (block : ℕ) → is_opening past ≡ true
    → cached_content block_size found past block ≡ None
opening_unknown block_size found [] block is = refl
opening_unknown block_size found (entry ∷ past) block is =
    let both = both_true (is_opening_kind entry.kind) (is_opening past) is in
    opening_entry block_size block (found.body block) (is_known_zero block_size found past block) entry.kind
    (cached_content block_size found past block) both.0 ∙ opening_unknown block_size found past block both.1

none_of : (get : Option Fetch) → is_none get ≡ true → get ≡ None
none_of None is = refl
none_of (Some fetch) is = absurd (cc)

-- what a block is that may be dropped
drop_facts :
    (n : ℕ) (unverified absent : Bool) (known : Option (List ℕ)) (get : Option Fetch) (puts : List Put) (owed : List ℕ)
    → Shape n unverified known absent get puts owed
    → ((known ≡ None) × (get ≡ None)) ⊎ ((is_some known ≡ true) × (is_nil owed ≡ true) × (newest_is_open puts ≡ false))
    → (get ≡ None) × (newest_is_open puts ≡ false) × (is_nil owed ≡ true)
drop_facts n unverified absent known get puts owed (idle k g o d u) why = (g, o, d)
drop_facts n unverified absent known get puts owed (getting fetch k g a o d) (inl none) =
    let wrong = none.1 in absurd (cc)
drop_facts n unverified absent known get puts owed (getting fetch k g a o d) (inr clean_block) =
    let wrong = rw k at clean_block.0 in absurd (cc)
drop_facts n unverified absent known get puts owed (held content k g o u) (inl none) = let wrong = none.0 in absurd (cc)
drop_facts n unverified absent known get puts owed (held content k g o u) (inr clean_block) = (g, o, clean_block.1)
drop_facts n unverified absent known get puts owed (putting content k g o x d u) (inl none) =
    let wrong = none.0 in absurd (cc)
drop_facts n unverified absent known get puts owed (putting content k g o x d u) (inr clean_block) =
    let wrong = clean_block.2 in absurd (cc)

abbrev FitsAt : ℕ → Found → List Entry → ℕ → Type 0
FitsAt block_size found past block =
    Fits (length past) (is_unverified found past block) (cached_content block_size found past block)
    (is_known_zero block_size found past block) (fetch_of past block) (puts_of past block)
    (unacked_writes block_size found past block)

victim_shape : (block_size blocks : ℕ) (found : Found) (past : List Entry) (block : ℕ)
    → (waits_unverified found past block ≡ true) ⊎ (is_clean block_size found past block ≡ true)
    → ((cached_content block_size found past block ≡ None) × (fetch_of past block ≡ None))
    ⊎ ((is_some (cached_content block_size found past block) ≡ true)
    × (is_nil (unacked_writes block_size found past block) ≡ true) × (newest_is_open (puts_of past block) ≡ false))
victim_shape block_size blocks found past block (inl waits) =
    let both = both_true (is_unverified found past block) (is_none (fetch_of past block)) waits in
    inl (unverified_unknown block_size found past block both.0, none_of (fetch_of past block) both.1)
victim_shape block_size blocks found past block (inr clean_block) =
    let one = both_true (is_some (cached_content block_size found past block)) _ clean_block in
    let two = both_true (is_nil (unacked_writes block_size found past block)) _ one.1 in
    inr (one.0, two.0, not_true (put_open past block) two.1)

step :
    (geometry : Geometry) (settings : Settings) (found : Found) (past : List Entry) (block pass now : ℕ) (e : EntryKind)
    → MayFollow geometry settings found past pass now e → ObeysPolicy geometry settings found past now e
    → FitsAt geometry.block_size found past block
    → FitsAt geometry.block_size found (record { pass = pass; reading = now; kind = e } ∷ past) block
    × (state_at geometry.block_size found (record { pass = pass; reading = now; kind = e } ∷ past) block
    ≡ next_state geometry.block_size block (is_known_zero geometry.block_size found past block)
    (cached_content geometry.block_size found past block) (puts_of past block) e
    (state_at geometry.block_size found past block))
step geometry settings found past block pass now (kind.KnownZero of) may obeys p =
    table_known_zero (length past) (fetch_of past block) (puts_of past block)
    (unacked_writes geometry.block_size found past block) (is_unverified found past block)
    (is_known_zero geometry.block_size found past block)
    (cached_content geometry.block_size found past block) (nat_eq of block)
    (λ t. let before = opening past block may.0 in (
      before.1,
      before.0,
      opening_unknown geometry.block_size found past block may.0,
    )) p
step geometry settings found past block pass now (kind.Write part bytes) may obeys p =
    table_write (length past) (fetch_of past block) (puts_of past block)
    (unacked_writes geometry.block_size found past block) (is_unverified found past block)
    (is_known_zero geometry.block_size found past block) (cached_content geometry.block_size found past block)
    (outcome geometry.block_size (cached_content geometry.block_size found past block) part bytes)
    (nat_eq part.block block) (λ t. subst (λ b. fetch_of past b ≡ None) (eqb-true part.block block t) may.no_get) p
step geometry settings found past block pass now (kind.GetBegin of expect verify) may obeys p =
    table_get_begin (length past) (fetch_of past block) (puts_of past block)
    (unacked_writes geometry.block_size found past block) (is_unverified found past block)
    (is_known_zero geometry.block_size found past block) (cached_content geometry.block_size found past block)
    (record { pass = pass; place = length past; reading = now; expect = expect; verify = verify }) (nat_eq of block)
    (λ t.
    let f = subst (λ b. BeginsGet settings past now b expect) (eqb-true of block t) may in
    let g = subst (λ b. FetchesUnknown geometry.block_size found past b verify) (eqb-true of block t) obeys in
    (g.unknown, g.not_zero, f.idle_block.0)) p
step geometry settings found past block pass now (kind.GetEnd of answer verify taken) may obeys p =
    table_get_end (length past) (fetch_of past block) (puts_of past block)
    (unacked_writes geometry.block_size found past block) (is_unverified found past block)
    (is_known_zero geometry.block_size found past block)
    (zero_shown geometry.block_size (found.body block) answer
    (is_known_zero geometry.block_size found past block)) (cached_content geometry.block_size found past block)
    (answer_content geometry.block_size (found.body block) answer) (nat_eq of block) taken
    (λ t is. not_open_end geometry.block_size (fetch_of past block) pass answer verify taken
    (subst (λ b. EndsFetch geometry.block_size (fetch_of past b) pass answer verify taken)
    (eqb-true of block t) may) is) p
step geometry settings found past block pass now (kind.PutBegin of content) may obeys p =
    table_put_begin (length past) (fetch_of past block) (puts_of past block)
    (unacked_writes geometry.block_size found past block) (is_unverified found past block)
    (is_known_zero geometry.block_size found past block)
    (if is_zeros content then is_known_zero geometry.block_size found past block else false)
    (cached_content geometry.block_size found past block)
    (record { content = content; pass = pass; place = length past; reading = now; ending = None }) (nat_eq of block)
    refl refl
    (λ t.
    let f = subst (λ b. BeginsPut geometry settings found past now b content) (eqb-true of block t) may in
    let g = subst (λ b. PutsDirty geometry settings found past now b content) (eqb-true of block t) obeys in
    (f.cached, f.idle_block.1, dirty_owes geometry.block_size found past block g.dirty)) p
step geometry settings found past block pass now (kind.PutEnd of ok) may obeys p =
    table_put_end (length past) (fetch_of past block) (puts_of past block)
    (unacked_writes geometry.block_size found past block) (is_unverified found past block)
    (is_known_zero geometry.block_size found past block)
    (if ok then (if newest_is_zeros (puts_of past block) then true else is_known_zero geometry.block_size found
    past block) else is_known_zero geometry.block_size found past block)
    (cached_content geometry.block_size found past block)
    (record { place = length past; reading = now; ok = ok }) (nat_eq of block) ok
    (λ t. ends_open (puts_of past block) pass (subst (λ b. EndsPut (puts_of past b) pass) (eqb-true of block t) may))
    p
step geometry settings found past block pass now (kind.Dropped of) may obeys p =
    table_drop (length past) (fetch_of past block) (puts_of past block)
    (unacked_writes geometry.block_size found past block) (is_unverified found past block)
    (is_known_zero geometry.block_size found past block) (cached_content geometry.block_size found past block)
    (nat_eq of block)
    (λ t.
    let g = subst (λ b. DropsVictim geometry settings found past now b) (eqb-true of block t) obeys in
    drop_facts (length past) (is_unverified found past block) (is_known_zero geometry.block_size found past block)
    (cached_content geometry.block_size found past block) (fetch_of past block) (puts_of past block)
    (unacked_writes geometry.block_size found past block) p.0
    (victim_shape geometry.block_size geometry.blocks found past block
    (victim_cases geometry.block_size geometry.blocks found past block g.is_victim))) p
step geometry settings found past block pass now e may obeys p = (
  same (length past) (fetch_of past block) (puts_of past block)
      (unacked_writes geometry.block_size found past block) (is_unverified found past block)
      (is_known_zero geometry.block_size found past block) (cached_content geometry.block_size found past block) p,
  refl,
)

fits : (geometry : Geometry) (settings : Settings) (found : Found) (past : List Entry)
    → FollowsAccessRules geometry settings found past → FollowsCachePolicy geometry settings found past → (block : ℕ)
    → FitsAt geometry.block_size found past block
fits geometry settings found [] rules policy block = (idle refl refl refl refl (λ is. absurd (cc)), tt)
fits geometry settings found (entry ∷ past) rules policy block =
    (step geometry settings found past block entry.pass entry.reading entry.kind rules.0 policy.0
    (fits geometry settings found past rules.2 policy.2 block)).0

pub states_go_by_table : StatesGoByTable
states_go_by_table geometry settings found entry past rules policy block =
    (step geometry settings found past block entry.pass entry.reading entry.kind rules.0 policy.0
    (fits geometry settings found past rules.2 policy.2 block)).1
