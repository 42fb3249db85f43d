-- One bit among words.
use Rattle.std.proofs.Common.{ℕ, ◌≡◌, ◌≢◌, ◌<◌, ◌/◌, ◌%◌, ◌+◌, Bool, true, false, nat_eq, List, length, get_or}
use Rattle.std.proofs.Common.{set, refl, sym, ◌∙◌, ap, arith}
use Rattle.std.specs.Int.{bit_at}
use Rattle.std.proofs.lemmas.Bool.{eqb-true}
use Rattle.std.proofs.lemmas.Bool.Decides.{nat_tests}
use Rattle.std.proofs.lemmas.List.{get_or-set_same, get_or-set_other}
use Rattle.std.proofs.lemmas.Nat.Bits.{bit_at_ones, bit_at-zero}
use Rattle.sb_history.specs.Eviction.{count}
use Rattle.sb_zero.specs.Marks.{is_set, SetsBit}
use Rattle.sb_zero.proofs.Counts.{count_more}

abbrev bit_test : ℕ → ℕ → Bool
bit_test word bit = nat_eq (bit_at word bit) 1

pub other_place : (a b : ℕ) → nat_eq a b ≡ false → a ≢ b
other_place a b is same = absurd (grind (arith, nat_tests))

-- the bit of the block
pub set_here : (words : List ℕ) (block word is : ℕ) → block / 64 < length words
    → SetsBit (get_or words (block / 64) 0) word (block % 64) is
    → is_set (set words (block / 64) word) block ≡ nat_eq is 1
set_here words block word is within sets =
    ap (λ (w : ℕ). bit_test w (block % 64)) (get_or-set_same words (block / 64) word 0 within)
    ∙ ap (λ (n : ℕ). nat_eq n 1) sets.here

-- the bits of the others
pub set_others : (words : List ℕ) (block word is : ℕ) → block / 64 < length words
    → SetsBit (get_or words (block / 64) 0) word (block % 64) is → (other : ℕ) → nat_eq other block ≡ false
    → is_set (set words (block / 64) word) other ≡ is_set words other
set_others words block word is within sets other differs = by (nat_eq (other / 64) (block / 64)) refl where
  by : (t : Bool) → nat_eq (other / 64) (block / 64) ≡ t
      → is_set (set words (block / 64) word) other ≡ is_set words other
  by true same =
      let at_ = eqb-true (other / 64) (block / 64) same in
      let apart : nat_eq (other % 64) (block % 64) ≡ false = grind (arith, nat_tests) in
      let small : other % 64 < 64 = omega (arith) in
      ap (λ (p : ℕ). bit_test (get_or (set words (block / 64) word) p 0) (other % 64)) at_
      ∙ ap (λ (w : ℕ). bit_test w (other % 64)) (get_or-set_same words (block / 64) word 0 within)
      ∙ ap (λ (n : ℕ). nat_eq n 1) (sets.others (other % 64) small apart)
      ∙ ap (λ (p : ℕ). bit_test (get_or words p 0) (other % 64)) (sym at_)
  by false apart =
      ap (λ (w : ℕ). bit_test w (other % 64))
      (get_or-set_other words (block / 64) (other / 64) word 0 (other_place (other / 64) (block / 64) apart))

-- a block more is known to be zeros
pub one_more : (words : List ℕ) (block word blocks : ℕ) → block < blocks → block / 64 < length words
    → SetsBit (get_or words (block / 64) 0) word (block % 64) 1 → is_set words block ≡ false
    → count (is_set (set words (block / 64) word)) blocks ≡ count (is_set words) blocks + 1
one_more words block word blocks less within sets was =
    count_more (is_set words) (is_set (set words (block / 64) word)) block blocks less was
    (set_here words block word 1 within sets) (set_others words block word 1 within sets)

-- a block less
pub one_less : (words : List ℕ) (block word blocks : ℕ) → block < blocks → block / 64 < length words
    → SetsBit (get_or words (block / 64) 0) word (block % 64) 0 → is_set words block ≡ true
    → count (is_set words) blocks ≡ count (is_set (set words (block / 64) word)) blocks + 1
one_less words block word blocks less within sets was =
    count_more (is_set (set words (block / 64) word)) (is_set words) block blocks less
    (set_here words block word 0 within sets) was
    (λ other apart. sym (set_others words block word 0 within sets other apart))

-- the word of a block is there
pub has_word : (words : List ℕ) (block blocks : ℕ) → length words ≡ blocks / 64 + 1 → block < blocks
    → block / 64 < length words
has_word words block blocks sized less = omega (arith, sized, less)

-- all bits are set, or none
pub all_set : (words : List ℕ) (block : ℕ) → get_or words (block / 64) 0 ≡ 18446744073709551615 → is_set words block ≡ true
all_set words block is =
    ap (λ (w : ℕ). bit_test w (block % 64)) is
    ∙ ap (λ (n : ℕ). nat_eq n 1) (bit_at_ones 64 (block % 64) (omega (arith)))

pub none_set : (words : List ℕ) (block : ℕ) → get_or words (block / 64) 0 ≡ 0 → is_set words block ≡ false
none_set words block is =
    ap (λ (w : ℕ). bit_test w (block % 64)) is ∙ ap (λ (n : ℕ). nat_eq n 1) (bit_at-zero (block % 64))
