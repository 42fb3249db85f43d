-- Contents that a block had since a place, in steps.
use Rattle.std.proofs.Common.{ℕ, suc, ◌≡◌, ◌<◌, ◌≤◌, ◌⊎◌, true, false, nat_le, List, [], ◌∷◌, inl, inr, arith}
use Rattle.std.proofs.lemmas.Bool.Decides.{leb_tells}
use Rattle.sb_history.specs.Writes.{is_nil}

-- each of a list
abbrev pub Each : {X : Type 0} → (X → Type 0) → List X → Type 0
Each Q [] = Unit {0}
Each Q (x ∷ xs) = Q x × Each Q xs

pub Each-map : {X : Type 0} → (P Q : X → Type 0) (xs : List X) → ((x : X) → P x → Q x) → Each P xs → Each Q xs
Each-map P Q [] f all = tt
Each-map P Q (x ∷ xs) f all = (f x all.0, Each-map P Q xs f all.1)

-- all places are at least p
abbrev pub From : ℕ → List ℕ → Type 0
From p [] = Unit {0}
From p (w ∷ ws) = (p ≤ w) × From p ws

pub From-weaker : (p q : ℕ) (ws : List ℕ) → p ≤ q → From q ws → From p ws
From-weaker p q [] le all = tt
From-weaker p q (w ∷ ws) le all = (omega (arith, le, all.0), From-weaker p q ws le all.1)

pub From-nil : (p : ℕ) (ws : List ℕ) → is_nil ws ≡ true → From p ws
From-nil p [] nil = tt
From-nil p (w ∷ ws) nil = absurd (cc)

-- what a block had since a place, with one entry more
abbrev pub Since : ℕ → List ℕ → (ℕ → List ℕ → Type 0) → ℕ → List ℕ → Type 0
Since n content H p c = (c ≡ content) ⊎ ((p ≤ n) × H p c)

-- the block had c since each place that no owed write stands before
abbrev pub Had : (ℕ → List ℕ → Type 0) → ℕ → List ℕ → List ℕ → Type 0
Had H n owed c = (p : ℕ) → p ≤ n → From p owed → H p c

module _ (H : ℕ → List ℕ → Type 0) (n : ℕ) (content : List ℕ) (now : (x : List ℕ) → H n x → x ≡ content) where
  pub had_same : (owed c : List ℕ) → Had H n owed c → Had (Since n content H) (suc n) owed c
  had_same owed c had p below all = by_place (leb_tells p n) where
    by_place : ((nat_le p n ≡ true) × (p ≤ n)) ⊎ ((nat_le p n ≡ false) × (n < p)) → Since n content H p c
    by_place (inl before) = inr (before.1, had p before.1 all)
    by_place (inr after) = inl (now c (had n (omega arith) (From-weaker n p owed (omega (arith, after.1)) all)))

  pub had_write : (content' owed c : List ℕ) → Had H n owed c → Had (Since n content' H) (suc n) (n ∷ owed) c
  had_write content' owed c had p below all = inr (all.0, had p all.0 all.1)

  pub had_is : (owed c : List ℕ) → is_nil owed ≡ true → Had H n owed c → c ≡ content
  had_is owed c nil had = now c (had n (omega arith) (From-nil n owed nil))

pub had_now :
    (H : ℕ → List ℕ → Type 0) (n : ℕ) (content owed c : List ℕ) → c ≡ content → Had (Since n content H) (suc n) owed c
had_now H n content owed c is p below all = inl is
