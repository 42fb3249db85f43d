-- A history of three entries.
use Rattle.std.proofs.Common.{◌≡◌, ℕ, ◌+◌, ◌<◌, ◌≢◌, List, [], ◌∷◌, ◌++◌, length, cond, sym, refl, ap, ◌∙◌, subst}
use Rattle.std.proofs.Common.{arith, eqb, eq-eqb, ne_eqb}
use mathlib.Core.Logic.{dite}
use native.Mathlib.Decide.{ℕ_discrete}
use Rattle.std.specs.Prelude.{None}
use Rattle.sb_turn.specs.declared.view.View.{View}
use Rattle.sb_turn.specs.Histories.{entries_of_pass}
use Rattle.sb_turn.specs.Views.{one_if, times, count, accounts, reserved_account, AccountsMatch, IsConsistent, IsWhole}

module _ {E : Type 0} where
  entries_head : (k : ℕ) (x : ℕ × E) (xs : List (ℕ × E)) → x.0 ≡ k
      → entries_of_pass k (x ∷ xs) ≡ x ∷ entries_of_pass k xs
  entries_head k x xs e = ap (λ b. cond b (x ∷ entries_of_pass k xs) (entries_of_pass k xs)) (eq-eqb x.0 k e)

  entries_skip : (k : ℕ) (x : ℕ × E) (xs : List (ℕ × E)) → x.0 ≢ k → entries_of_pass k (x ∷ xs) ≡ entries_of_pass k xs
  entries_skip k x xs e = ap (λ b. cond b (x ∷ entries_of_pass k xs) (entries_of_pass k xs)) (ne_eqb x.0 k e)

  -- a list without an entry of a third number
  pub two_numbers : (m n : ℕ) → m ≢ n → (xs : List (ℕ × E)) → ((k : ℕ) → k ≢ m → k ≢ n → entries_of_pass k xs ≡ [])
      → length xs ≡ length (entries_of_pass m xs) + length (entries_of_pass n xs)
  two_numbers m n apart [] h = omega arith
  two_numbers m n apart (x ∷ xs) h =
      let more : ((k : ℕ) → k ≢ m → k ≢ n → entries_of_pass k xs ≡ [])
      → length xs ≡ length (entries_of_pass m xs) + length (entries_of_pass n xs) = two_numbers m n apart xs in
      dite (ℕ_discrete x.0 m)
      (λ e. let a = ap length (entries_head m x xs e) in let b = ap length
      (entries_skip n x xs (λ z. apart (sym e ∙ z))) in
      let c = more (λ k p q. sym (entries_skip k x xs (λ z. p (sym z ∙ e))) ∙ h k p q) in omega arith)
      (λ e. dite (ℕ_discrete x.0 n)
      (λ f. let a = ap length (entries_skip m x xs e) in let b = ap length (entries_head n x xs f) in
      let c = more (λ k p q. sym (entries_skip k x xs (λ z. q (sym z ∙ f))) ∙ h k p q) in omega arith)
      (λ f. let a : length (x ∷ entries_of_pass x.0 xs) ≡ 0 = ap length
      (sym (entries_head x.0 x xs refl) ∙ h x.0 e f) in absurd (omega arith)))

module _ (d : View ℕ (Unit {0})) (n : ℕ) (more : 1 < n) (consistent : IsConsistent d) (number : d.number ≡ 1)
    (reserved : d.reserved ≡ None) (opened : d.opening ≡ []) (mine : d.mine ≡ (1, 4) ∷ (1, 3) ∷ [])
    (joined : d.joined ≡ (n, (n, 4) ∷ []) ∷ []) (handed : d.handed_out ≡ n ∷ []) where
  is_whole : IsWhole d
  is_whole = record {
    is_first = number;
    none_reserved = reserved;
    all_back = λ k pos. ap (count k) joined
        ∙ sym (ap (times k) handed);
  }

  counted : (k : ℕ) → count k (accounts d) ≡ one_if (eqb 1 k) + (one_if (eqb n k) + 0)
  counted k i = one_if (eqb (number i) k) + count k (reserved_account (reserved i) ++ joined i)

  other : (k : ℕ) → k ≢ 1 → k ≢ n → entries_of_pass k d.seen ≡ []
  other k a b = dite (ℕ_discrete k 0) (λ e. ap (λ (z : ℕ). entries_of_pass z d.seen) e ∙ (consistent.opened ∙ opened))
      (λ e. consistent.no_other is_whole k (omega arith)
      (counted k ∙ (λ i. ap one_if (ne_eqb 1 k (λ z. a (sym z))) i +
      (ap one_if (ne_eqb n k (λ z. b (sym z))) i + 0))))

  of_one : entries_of_pass 1 d.seen ≡ (1, 4) ∷ (1, 3) ∷ []
  of_one = subst (λ (z : ℕ). entries_of_pass z d.seen ≡ d.mine) number ((consistent.exact.0 (omega arith)).0) ∙ mine

  of_n : entries_of_pass n d.seen ≡ (n, 4) ∷ []
  of_n = let all : AccountsMatch d.seen d.seen ((n, (n, 4) ∷ []) ∷ []) =
      subst (AccountsMatch d.seen d.seen) (λ i. reserved_account (reserved i) ++ joined i) consistent.exact.1 in
      (all.0 (omega arith)).0

  pub three : length d.seen ≡ 3
  three = two_numbers 1 n (λ e. omega arith) d.seen other ∙ (λ i. length (of_one i) + length (of_n i))
