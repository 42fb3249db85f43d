-- The entries of one pass in a history, and accounts.
use Rattle.std.proofs.Common.{inl, inr, ◌⊎◌, ◌≡◌, ℕ, ◌+◌, ◌<◌, ◌≤◌, ◌≢◌, List, [], ◌∷◌, ◌++◌, length, Bool, true, false}
use Rattle.std.proofs.Common.{cond, sym, refl, ap, ◌∙◌, subst, arith, eqb, eq-eqb, ne_eqb, length-append, append_assoc}
use Rattle.std.specs.Prelude.{nat_lt}
use mathlib.Core.Logic.{dite}
use native.Mathlib.Decide.{ℕ_discrete}
use Rattle.std.proofs.lemmas.Bool.{ltb-true, ltb-false}
use Rattle.sb_turn.specs.Histories.{entries_of_pass, IsPast, IsEntryOf, longer}
use Rattle.sb_turn.specs.Views.{Account, count, AccountsMatch}
use Rattle.sb_turn.proofs.Sums.{one_if_same, one_if_other}

module _ {E : Type 0} where
  entries_cond : (b : Bool) (x : ℕ × E) (xs ys zs : List (ℕ × E)) → zs ≡ xs ++ ys
      → cond b (x ∷ zs) zs ≡ cond b (x ∷ xs) xs ++ ys
  entries_cond true x xs ys zs e = ap (λ l. x ∷ l) e
  entries_cond false x xs ys zs e = e

  pub entries-append : (n : ℕ) (xs ys : List (ℕ × E))
      → entries_of_pass n (xs ++ ys) ≡ entries_of_pass n xs ++ entries_of_pass n ys
  entries-append n [] ys = refl
  entries-append n (x ∷ xs) ys = entries_cond (eqb x.0 n) x (entries_of_pass n xs) (entries_of_pass n ys)
      (entries_of_pass n (xs ++ ys)) (entries-append n xs ys)

  -- what is not of the number n leaves n's entries as they are
  pub entries_other : (n : ℕ) (xs ys : List (ℕ × E)) → entries_of_pass n xs ≡ []
      → entries_of_pass n (xs ++ ys) ≡ entries_of_pass n ys
  entries_other n xs ys none = entries-append n xs ys ∙ ap (λ l. l ++ entries_of_pass n ys) none

  pub own_same : (n : ℕ) (xs : List (ℕ × E)) → IsEntryOf n xs → entries_of_pass n xs ≡ xs
  own_same n xs p = ap (entries_of_pass n) p.1 ∙ (ap (λ b. cond b ((n, p.0) ∷ []) []) (eq-eqb n n refl) ∙ sym p.1)

  pub own_other : (n k : ℕ) (xs : List (ℕ × E)) → k ≢ n → IsEntryOf n xs → entries_of_pass k xs ≡ []
  own_other n k xs ne p = ap (entries_of_pass k) p.1
      ∙ ap (λ b. cond b ((n, p.0) ∷ []) []) (ne_eqb n k (λ e. ne (sym e)))

  pub own_one : (n : ℕ) (xs : List (ℕ × E)) → IsEntryOf n xs → length xs ≡ 1
  own_one n xs p = ap length p.1

  nil_length : (xs : List (ℕ × E)) → length xs ≡ 0 → xs ≡ []
  nil_length [] e = refl
  nil_length (x ∷ xs) e = absurd (omega arith)

  nil_right : (a b : List (ℕ × E)) → a ++ b ≡ [] → b ≡ []
  nil_right a b e = nil_length b (let l : length (a ++ b) ≡ 0 = ap length e in let s = length-append a b in omega arith)

  pub count_append : (k : ℕ) (cs bs : List (Account E)) → count k (cs ++ bs) ≡ count k cs + count k bs
  count_append k [] bs = omega arith
  count_append k (x ∷ cs) bs = let more = count_append k cs bs in omega arith

  pub all_append : (history seen : List (ℕ × E)) (cs bs : List (Account E)) → AccountsMatch history seen cs
      → AccountsMatch history seen bs → AccountsMatch history seen (cs ++ bs)
  all_append history seen [] bs p q = q
  all_append history seen (x ∷ cs) bs p q = (p.0, all_append history seen cs bs p.1 q)

  -- entries of the number n alone came
  pub changed : (n : ℕ) (history seen history' seen' : List (ℕ × E))
      → ((k : ℕ) → k ≢ n → (entries_of_pass k history' ≡ entries_of_pass k history)
      × (entries_of_pass k seen' ≡ entries_of_pass k seen))
      → (cs : List (Account E)) → count n cs ≡ 0 → AccountsMatch history seen cs → AccountsMatch history' seen' cs
  changed n history seen history' seen' same [] none p = tt
  changed n history seen history' seen' same (x ∷ cs) none p = let ne : x.0 ≢ n = λ e. let one =
      one_if_same x.0 n e in absurd (omega arith) in (
        (λ pos. let q = p.0 pos in let is = same x.0 ne in (is.0 ∙ q.0, is.1 ∙ q.1)),
        changed n history seen history' seen' same cs (omega arith) p.1,
      )

  -- the whole history matches too, and what was seen matches itself
  pub all_whole : (history seen : List (ℕ × E)) (cs : List (Account E)) → AccountsMatch history seen cs
      → AccountsMatch history history cs
  all_whole history seen [] p = tt
  all_whole history seen (x ∷ cs) p = ((λ pos. let q = p.0 pos in (q.0, q.0)), all_whole history seen cs p.1)

  pub all_seen : (history seen : List (ℕ × E)) (cs : List (Account E)) → AccountsMatch history seen cs
      → AccountsMatch seen seen cs
  all_seen history seen [] p = tt
  all_seen history seen (x ∷ cs) p = ((λ pos. let q = p.0 pos in (q.1, q.1)), all_seen history seen cs p.1)

  pub all_first : (history seen : List (ℕ × E)) (cs bs : List (Account E)) → AccountsMatch history seen (cs ++ bs)
      → AccountsMatch history seen cs
  all_first history seen [] bs p = tt
  all_first history seen (x ∷ cs) bs p = (p.0, all_first history seen cs bs p.1)

  pub all_last : (history seen : List (ℕ × E)) (cs bs : List (Account E)) → AccountsMatch history seen (cs ++ bs)
      → AccountsMatch history seen bs
  all_last history seen [] bs p = p
  all_last history seen (x ∷ cs) bs p = all_last history seen cs bs p.1

  squeezed : (m a b : List (ℕ × E)) → m ≡ a ++ (b ++ m) → b ≡ []
  squeezed m a b e = nil_length b (let l = ap length e in let s = length-append a
      (b ++ m) in let t = length-append b m in omega arith)

  -- what a history and a past of it have alike of a number, each list between them has too
  pub middle : (k : ℕ) (history l seen : List (ℕ × E)) → IsPast l history → IsPast seen l → (m : List (ℕ × E))
      → entries_of_pass k history ≡ m → entries_of_pass k seen ≡ m → entries_of_pass k l ≡ m
  middle k history l seen a b m all some =
      let whole : entries_of_pass k history ≡ entries_of_pass k a.0 ++
      (entries_of_pass k b.0 ++ entries_of_pass k seen) =
      ap (entries_of_pass k) a.1 ∙ (entries-append k a.0 l
      ∙ ap (λ z. entries_of_pass k a.0 ++ z) (ap (entries_of_pass k) b.1 ∙ entries-append k b.0 seen)) in
      let none : entries_of_pass k b.0 ≡ [] = squeezed (entries_of_pass k seen) (entries_of_pass k a.0)
      (entries_of_pass k b.0) (some ∙ (sym all ∙ whole)) in
      ap (entries_of_pass k) b.1 ∙ (entries_other k b.0 seen none ∙ some)

  pub between : (history l seen : List (ℕ × E)) → IsPast l history → IsPast seen l → (cs : List (Account E))
      → AccountsMatch history seen cs → AccountsMatch history l cs
  between history l seen a b [] p = tt
  between history l seen a b (x ∷ cs) p = (
    (λ pos. let q = p.0 pos in
        (q.0, middle x.0 history l seen a b x.1 q.0 q.1)),
    between history l seen a b cs p.1,
  )

  pub none_seen : (n : ℕ) (history seen : List (ℕ × E)) → IsPast seen history → entries_of_pass n history ≡ []
      → entries_of_pass n seen ≡ []
  none_seen n history seen p e = nil_right (entries_of_pass n p.0) (entries_of_pass n seen)
      (sym (entries-append n p.0 seen) ∙ (ap (entries_of_pass n) (sym p.1) ∙ e))

  abbrev tail_of : List (ℕ × E) → List (ℕ × E)
  tail_of [] = []
  tail_of (x ∷ xs) = xs

  -- of two pasts of one history, the shorter is a past of the other
  reaches : (p q a b : List (ℕ × E)) → p ++ a ≡ q ++ b → length b ≤ length a → IsPast b a
  reaches [] q a b e le = (q, e)
  reaches (x ∷ p) [] a b e le = absurd (let l = ap length e in let s = length-append p a in omega arith)
  reaches (x ∷ p) (y ∷ q) a b e le = reaches p q a b (ap tail_of e) le

  pub IsPast-refl : (a : List (ℕ × E)) → IsPast a a
  IsPast-refl a = ([], refl)

  pub IsPast-trans : (a b c : List (ℕ × E)) → IsPast a b → IsPast b c → IsPast a c
  IsPast-trans a b c p q = (q.0 ++ p.0, q.1 ∙ (ap (λ z. q.0 ++ z) p.1 ∙ sym (append_assoc q.0 p.0 a)))

  -- a past stays one when entries are made
  pub IsPast-append : (past history made : List (ℕ × E)) → IsPast past history → IsPast past (made ++ history)
  IsPast-append past history made p = (made ++ p.0, ap (λ z. made ++ z) p.1 ∙ sym (append_assoc made p.0 past))

  longest_by : (c : Bool) (history a b : List (ℕ × E)) → nat_lt (length a) (length b) ≡ c → IsPast a history
      → IsPast b history
      → IsPast (cond c b a) history × IsPast a (cond c b a) × IsPast b (cond c b a)
  longest_by true history a b is p q = (
    q,
    reaches q.0 p.0 b a (sym q.1 ∙ p.1)
        (let le = ltb-true (length a) (length b) is in omega arith),
    IsPast-refl b,
  )
  longest_by false history a b is p q = (
    p,
    IsPast-refl a,
    reaches p.0 q.0 a b (sym p.1 ∙ q.1) (ltb-false (length a) (length b) is),
  )

  -- the longer is a past of the history too, and both are pasts of it
  pub longest : (history a b : List (ℕ × E)) → IsPast a history → IsPast b history
      → IsPast (longer a b) history × IsPast a (longer a b) × IsPast b (longer a b)
  longest history a b p q = longest_by (nat_lt (length a) (length b)) history a b refl p q

  longer_by : (c : Bool) (a b : List (ℕ × E)) → (cond c b a ≡ a) ⊎ (cond c b a ≡ b)
  longer_by true a b = inr refl
  longer_by false a b = inl refl

  -- it is one of the two
  pub longer_is : (a b : List (ℕ × E)) → (longer a b ≡ a) ⊎ (longer a b ≡ b)
  longer_is a b = longer_by (nat_lt (length a) (length b)) a b

  cons_length : (x : ℕ × E) (xs : List (ℕ × E)) → x ∷ xs ≡ [] → ⊥
  cons_length x xs e = let l : length (x ∷ xs) ≡ 0 = ap length e in absurd (omega arith)

  entries_head : (k : ℕ) (x : ℕ × E) (xs : List (ℕ × E)) → x.0 ≡ k
      → entries_of_pass k (x ∷ xs) ≡ x ∷ entries_of_pass k xs
  entries_head k x xs e = ap (λ b. cond b (x ∷ entries_of_pass k xs) (entries_of_pass k xs)) (eq-eqb x.0 k e)

  entries_skip : (k : ℕ) (x : ℕ × E) (xs : List (ℕ × E)) → x.0 ≢ k → entries_of_pass k (x ∷ xs) ≡ entries_of_pass k xs
  entries_skip k x xs e = ap (λ b. cond b (x ∷ entries_of_pass k xs) (entries_of_pass k xs)) (ne_eqb x.0 k e)

  -- a list without an entry of any number is empty
  nothing : (xs : List (ℕ × E)) → ((k : ℕ) → entries_of_pass k xs ≡ []) → xs ≡ []
  nothing [] h = refl
  nothing (x ∷ xs) h = absurd (cons_length x (entries_of_pass x.0 xs) (sym (entries_head x.0 x xs refl) ∙ h x.0))

  -- a list whose entries all have the number 0
  pub all_zero : (xs : List (ℕ × E)) → ((k : ℕ) → 0 < k → entries_of_pass k xs ≡ []) → entries_of_pass 0 xs ≡ xs
  all_zero [] h = refl
  all_zero (x ∷ xs) h = dite (ℕ_discrete x.0 0)
      (λ e. entries_head 0 x xs e ∙ ap (λ z. x ∷ z) (all_zero xs
      (λ k pos. sym (entries_skip k x xs (λ y. omega arith)) ∙ h k pos)))
      (λ e. absurd (cons_length x (entries_of_pass x.0 xs) (sym (entries_head x.0 x xs refl) ∙ h x.0 (omega arith))))

  -- what a history has of a number that is accounted for was seen
  pub agree : (history seen : List (ℕ × E)) (cs : List (Account E)) (k : ℕ) → AccountsMatch history seen cs → 0 < k
      → 0 < count k cs → entries_of_pass k history ≡ entries_of_pass k seen
  agree history seen [] k p pos some = absurd (omega arith)
  agree history seen (x ∷ cs) k p pos some = dite (ℕ_discrete x.0 k)
      (λ e. let q = p.0 (subst (λ (z : ℕ). 0 < z) (sym e) pos) in subst
      (λ (z : ℕ). entries_of_pass z history ≡ entries_of_pass z seen) e (q.0 ∙ sym q.1))
      (λ e. let z = one_if_other x.0 k e in agree history seen cs k p.1 pos (omega arith))

  -- where a history and its past have the same of each number, they are one
  pub same_list : (history seen : List (ℕ × E)) → IsPast seen history
      → ((k : ℕ) → entries_of_pass k history ≡ entries_of_pass k seen) → history ≡ seen
  same_list history seen p same =
      let none : p.0 ≡ [] = nothing p.0 (λ k. squeezed (entries_of_pass k seen) [] (entries_of_pass k p.0)
      (sym (same k) ∙ (ap (entries_of_pass k) p.1 ∙ entries-append k p.0 seen))) in
      p.1 ∙ ap (λ z. z ++ seen) none
