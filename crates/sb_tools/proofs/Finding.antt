-- The block that a name is that of.
use Rattle.std.proofs.Common.{ℕ, zero, suc, ◌≡◌, ◌≢◌, ◌<◌, ◌≤◌, ◌^◌, Bool, true, false, List, Some, None, refl, sym, subst, ap, ◌∙◌, arith}
use Rattle.std.specs.Prelude.{◌↔◌, ◌⊎◌, Option, if◌then◌else◌}
use Rattle.std.specs.Str.{bytes_eq}
use Rattle.std.proofs.lemmas.Slice.Eq.{bytes_eq-Decides}
use Rattle.sb_names.specs.Names.{object_name_of, IsNameOf, NamesDiffer}
use Rattle.sb_tools.specs.Blocks.{greatest_below, block_of, ReadsNames}

meets_step : (bound : ℕ) (test : ℕ → Bool) (block : ℕ) (holds : Bool) (behind : Option ℕ) → test bound ≡ holds
    → (behind ≡ Some block → (block < bound) × (test block ≡ true))
    → (if holds then Some bound else behind) ≡ Some block → (block < suc bound) × (test block ≡ true)
meets_step bound test block true behind is rest e =
    let same : bound ≡ block = cc in
    (omega arith, ap test (sym same) ∙ is)
meets_step bound test block false behind is rest e =
    let found = rest e in
    (omega arith, found.1)

-- what the search gives is below the bound, and the test holds of it
pub greatest_below-meets : (bound : ℕ) (test : ℕ → Bool) (block : ℕ) → greatest_below bound test ≡ Some block
    → (block < bound) × (test block ≡ true)
unfolding greatest_below
greatest_below-meets zero test block e = absurd (cc)
greatest_below-meets (suc bound) test block e =
    meets_step bound test block (test bound) (greatest_below bound test) refl (greatest_below-meets bound test block) e

finds_step : (bound : ℕ) (test : ℕ → Bool) (block : ℕ) (holds : Bool) (behind : Option ℕ) → test bound ≡ holds
    → ((other : ℕ) → other < suc bound → test other ≡ true → other ≡ block) → test block ≡ true → block < suc bound
    → (block < bound → behind ≡ Some block) → (if holds then Some bound else behind) ≡ Some block
finds_step bound test block true behind is only found within rest = ap Some (only bound (omega arith) is)
finds_step bound test block false behind is only found within rest =
    let other : bound ≢ block = λ e. cc (is, found, ap test e) in
    rest (omega arith)

-- the search gives the one number below the bound of which the test holds
pub greatest_below-finds : (bound : ℕ) (test : ℕ → Bool) (block : ℕ)
    → ((other : ℕ) → other < bound → test other ≡ true → other ≡ block)
    → test block ≡ true → block < bound → greatest_below bound test ≡ Some block
unfolding greatest_below
greatest_below-finds zero test block only found within = absurd (omega arith)
greatest_below-finds (suc bound) test block only found within =
    finds_step bound test block (test bound) (greatest_below bound test) refl only found within
    (λ below. greatest_below-finds bound test block (λ other h. only other (omega arith)) found below)

-- a name, compared with the name of a block's object
tests_name : List ℕ → Bool → List ℕ → ℕ → Bool
tests_name prefix hashed name block = bytes_eq name (object_name_of prefix block hashed)

-- a block is read from its own name alone
pub reads_names : NamesDiffer → ReadsNames
unfolding block_of tests_name
reads_names differ prefix hashed name block =
    let same = λ (other : ℕ). bytes_eq-Decides name (object_name_of prefix other hashed) in (
      λ e.
          let found = greatest_below-meets (2 ^ 32) (tests_name prefix hashed name) block e in
          record { number = found.0; text = (same block).0 found.1 },
      λ is.
          greatest_below-finds (2 ^ 32) (tests_name prefix hashed name) block
          (λ other h e. differ prefix hashed name other block (record { number = h; text = (same other).0 e }) is)
          ((same block).1 is.text) is.number,
    )

-- nothing, where no value is given
none_of : (read : Option ℕ) (given : Option ℕ) → read ≡ given → ((block : ℕ) → read ≡ Some block → None ≡ Some block)
    → None ≡ read
none_of read None e none = sym e
none_of read (Some block) e none = none block e ∙ sym e

-- a reading that is exact is this one
pub is_block_of : ReadsNames → (prefix : List ℕ) (hashed : Bool) (name : List ℕ) (read : Option ℕ)
    → ((block : ℕ) → (read ≡ Some block) ↔ IsNameOf prefix hashed name block) → read ≡ block_of prefix hashed name
is_block_of reads prefix hashed name (Some block) exact =
    sym ((reads prefix hashed name block).1 ((exact block).0 refl))
is_block_of reads prefix hashed name None exact = none_of (block_of prefix hashed name) (block_of prefix hashed name) refl
    (λ block e. (exact block).1 ((reads prefix hashed name block).0 e))
