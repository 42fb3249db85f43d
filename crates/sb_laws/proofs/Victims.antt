-- The victim owes nothing, and no put of it is open.
use Rattle.std.proofs.Common.{ℕ, suc, ◌≡◌, ◌⊎◌, Bool, true, false, not, if◌then◌else◌, nat_eq, nat_lt, List, [], ◌∷◌}
use Rattle.std.proofs.Common.{Option, Some, None, zero, refl, subst, inl, inr}
use Rattle.sb_base.specs.declared.entry.EntryKind.{EntryKind}
use Rattle.sb_base.specs.declared.entry.EntryKind.TheVariants as kind
use Rattle.sb_base.specs.declared.entry.Entry.{Entry}
use Rattle.sb_history.specs.Puts.{puts_of, newest_is_open, put_open}
use Rattle.sb_history.specs.Cache.{Found, cached_content, cached_after, cached_unless_zeros, is_known_zero, outcome}
use Rattle.sb_history.specs.Cache.{answer_content}
use Rattle.sb_history.specs.Writes.{is_nil, unacked_writes, is_dirty}
use Rattle.sb_history.specs.Eviction.{is_unverified, unverified_after, lowest, lighter, lightest, first_of}
use Rattle.sb_history.specs.Eviction.{waits_unverified, is_clean, victim_of, last_use}
use Rattle.sb_laws.proofs.Ends.{both_true}

-- what is found passes the test
found_test : (test : ℕ → Bool) (n x : ℕ) (b : Bool) (below : Option ℕ) → test n ≡ b → (below ≡ Some x → test x ≡ true)
    → first_of below (if b then Some n else None) ≡ Some x → test x ≡ true
found_test test n x b (Some y) is before found = before found
found_test test n x true None is before found = subst (λ y. test y ≡ true) (some_is n x found) is where
  some_is : (n x : ℕ) → Some n ≡ Some x → n ≡ x
  some_is n x same = cc
found_test test n x false None is before found = absurd (cc)

lowest_test : (test : ℕ → Bool) (n x : ℕ) → lowest test n ≡ Some x → test x ≡ true
lowest_test test zero x found = absurd (cc)
lowest_test test (suc n) x found = found_test test n x (test n) (lowest test n) refl (lowest_test test n x) found

lighter_test :
    (test : ℕ → Bool) (weight : ℕ → ℕ) (n x : ℕ) (best : Option ℕ) → test n ≡ true → (best ≡ Some x → test x ≡ true)
    → lighter weight best n ≡ Some x → test x ≡ true
lighter_test test weight n x None is before found = let same : n ≡ x = cc in subst (λ y. test y ≡ true) same is
lighter_test test weight n x (Some best) is before found = either (nat_lt (weight n) (weight best)) found where
  either : (b : Bool) → (if b then Some n else Some best) ≡ Some x → test x ≡ true
  either true found = let same : n ≡ x = cc in subst (λ y. test y ≡ true) same is
  either false found = before found

lightest_test : (test : ℕ → Bool) (weight : ℕ → ℕ) (n x : ℕ) → lightest test weight n ≡ Some x → test x ≡ true
lightest_test test weight zero x found = absurd (cc)
lightest_test test weight (suc n) x found = either (test n) refl (lightest_test test weight n x) found where
  either : (b : Bool) → test n ≡ b → (lightest test weight n ≡ Some x → test x ≡ true)
      → (if b then lighter weight (lightest test weight n) n else lightest test weight n) ≡ Some x → test x ≡ true
  either true is before found = lighter_test test weight n x (lightest test weight n) is before found
  either false is before found = before found

first_of_cases : (a b : Option ℕ) (x : ℕ) → first_of a b ≡ Some x → (a ≡ Some x) ⊎ (b ≡ Some x)
first_of_cases None b x is = inr is
first_of_cases (Some y) b x is = inl is

-- the victim waits to be verified, or is clean
pub victim_cases : (block_size blocks : ℕ) (found : Found) (past : List Entry) (block : ℕ)
    → victim_of block_size blocks found past ≡ Some block
    → (waits_unverified found past block ≡ true) ⊎ (is_clean block_size found past block ≡ true)
victim_cases block_size blocks found past block is =
    by (first_of_cases (lowest (waits_unverified found past) blocks)
    (lightest (is_clean block_size found past) (λ other. (last_use past other).place) blocks) block is) where
      by : (lowest (waits_unverified found past) blocks ≡ Some block) ⊎
          (lightest (is_clean block_size found past) (λ other. (last_use past other).place) blocks ≡ Some block) →
          (waits_unverified found past block ≡ true) ⊎ (is_clean block_size found past block ≡ true)
      by (inl low) = inl (lowest_test (waits_unverified found past) blocks block low)
      by (inr light) = inr
          (lightest_test (is_clean block_size found past) (λ other. (last_use past other).place) blocks block light)

-- of a block that waits to be verified nothing is cached
unverified_step : (block_size block : ℕ) (found : Option (List ℕ)) (known_zero : Bool) (e : EntryKind) (before : Bool)
    (cached : Option (List ℕ)) → (before ≡ true → cached ≡ None) → unverified_after block e before ≡ true →
    cached_after block_size block found known_zero e cached ≡ None
unverified_step block_size block found known_zero (kind.KnownZero of) before cached none is =
    none (kept (nat_eq of block) is) where
      kept : (t : Bool) → (if t then false else before) ≡ true → before ≡ true
      kept true is = absurd (cc)
      kept false is = is
unverified_step block_size block found known_zero (kind.Write part bytes) before cached none is =
    by (nat_eq part.block block) is where
      by : (t : Bool) → (if t then false else before) ≡ true
          → (if t then cached_unless_zeros known_zero cached (outcome block_size cached part bytes) else cached) ≡ None
      by true is = absurd (cc)
      by false is = none is
unverified_step block_size block found known_zero (kind.GetEnd of answer verify taken) before cached none is =
    by (nat_eq of block) taken is where
      by : (t taken : Bool) → (if t then (if taken then false else before) else before) ≡ true
          → (if t then (if taken then Some (answer_content block_size found answer) else cached) else cached) ≡ None
      by true true is = absurd (cc)
      by true false is = none is
      by false taken is = none is
unverified_step block_size block found known_zero (kind.Dropped of) before cached none is =
    by (nat_eq of block) is where
      by : (t : Bool) → (if t then false else before) ≡ true → (if t then None else cached) ≡ None
      by true is = refl
      by false is = none is
unverified_step block_size block found known_zero e before cached none is = none is

pub unverified_unknown :
    (block_size : ℕ) (found : Found) (past : List Entry) (block : ℕ) → is_unverified found past block ≡ true
    → cached_content block_size found past block ≡ None
unverified_unknown block_size found [] block is = refl
unverified_unknown block_size found (entry ∷ past) block is =
    unverified_step block_size block (found.body block) (is_known_zero block_size found past block) entry.kind
    (is_unverified found past block) (cached_content block_size found past block)
    (unverified_unknown block_size found past block) is

pub not_true : (b : Bool) → not b ≡ true → b ≡ false
not_true true is = absurd (cc)
not_true false is = refl

-- the victim owes nothing and has no put open
pub victim_is : (block_size blocks : ℕ) (found : Found) (past : List Entry) (block : ℕ)
    → victim_of block_size blocks found past ≡ Some block
    → (cached_content block_size found past block ≡ None)
    ⊎ ((newest_is_open (puts_of past block) ≡ false) × (is_nil (unacked_writes block_size found past block) ≡ true))
victim_is block_size blocks found past block is = by (victim_cases block_size blocks found past block is) where
  by : (waits_unverified found past block ≡ true)
      ⊎ (is_clean block_size found past block ≡ true) → (cached_content block_size found past block ≡ None)
      ⊎ ((newest_is_open (puts_of past block) ≡ false) × (is_nil (unacked_writes block_size found past block) ≡ true))
  by (inl waits) =
      inl (unverified_unknown block_size found past block (both_true (is_unverified found past block) _ waits).0)
  by (inr clean) =
      let owes = both_true (is_nil (unacked_writes block_size found past block)) (not (put_open past block))
      (both_true _ _ clean).1 in
      inr (not_true (put_open past block) owes.1, owes.0)

pub dirty_owes :
    (block_size : ℕ) (found : Found) (past : List Entry) (block : ℕ) → is_dirty block_size found past block ≡ true
    → is_nil (unacked_writes block_size found past block) ≡ false
dirty_owes block_size found past block is =
    not_true (is_nil (unacked_writes block_size found past block))
    (both_true (not (is_nil (unacked_writes block_size found past block))) _ is).0
