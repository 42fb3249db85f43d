-- The same bytes end a line in one way.
use Rattle.std.proofs.Common.{ℕ, ◌≡◌, ◌≤◌, ◌<◌, ◌⊎◌, ◌∙◌, List, [], ◌∷◌, ◌++◌, length, fold, ap, sym, subst, refl, arith}
use Rattle.std.proofs.Common.{inl, inr, append-nil, append_assoc, length-append}
use Rattle.sb_http.specs.declared.line.Line.{Line}
use Rattle.sb_http.specs.declared.line.Step.{Step}
use Rattle.sb_http.specs.declared.line.Step.TheVariants.{More, Done, Bad}
use Rattle.sb_http.specs.Lines.{IsBadLine, IsCutLine, IsLine, IsOpen, IsStuck, read_from, stepped}
use Rattle.sb_http.proofs.Fronts.{same_front, shorter_front}

bad_stays : (bytes : List ℕ) → fold stepped Bad bytes ≡ Bad
bad_stays [] = refl
bad_stays (b ∷ bytes) = bad_stays bytes

read_on : (step : Step) (a x : List ℕ) → fold stepped step (a ++ x) ≡ fold stepped (fold stepped step a) x
read_on step [] x = refl
read_on step (b ∷ a) x = read_on (stepped step b) a x

open_begins : (step : Step) (x : List ℕ) → IsOpen (fold stepped step x) → IsOpen step
open_begins (More line) x o = tt
open_begins (Done size) [] o = o
open_begins (Done size) (b ∷ x) o = subst IsOpen (bad_stays x) o
open_begins Bad x o = subst IsOpen (bad_stays x) o

-- a front of what is open is open
pub open_front : (line : Line) (a x b : List ℕ) → b ≡ a ++ x → IsOpen (read_from line b) → IsOpen (read_from line a)
open_front line a x b e o =
    open_begins (read_from line a) x (subst IsOpen (ap (λ xs. read_from line xs) e ∙ read_on (More line) a x) o)

not_bad_and_done : (size : ℕ) → Bad ≡ Done size → ⊥
not_bad_and_done size e = cc e

done_begins : (step : Step) (b : ℕ) (x : List ℕ) (size : ℕ) → fold stepped step (b ∷ x) ≡ Done size → IsOpen step
done_begins (More line) b x size e = tt
done_begins (Done n) b x size e = absurd (not_bad_and_done size (sym (bad_stays x) ∙ e))
done_begins Bad b x size e = absurd (not_bad_and_done size (sym (bad_stays x) ∙ e))

-- a front of a whole line that isn't all of it is open
done_front : (line : Line) (a : List ℕ) (b : ℕ) (x c : List ℕ) (size : ℕ) → c ≡ a ++ (b ∷ x)
    → read_from line c ≡ Done size → IsOpen (read_from line a)
done_front line a b x c size e d =
    done_begins (read_from line a) b x size (sym (read_on (More line) a (b ∷ x)) ∙ ap (λ xs. read_from line xs) (sym e) ∙ d)

pub open_is_not_done : (step : Step) (size : ℕ) → IsOpen step → step ≡ Done size → ⊥
open_is_not_done step size o e = subst IsOpen e o

open_is_not_bad : (step : Step) → IsOpen step → step ≡ Bad → ⊥
open_is_not_bad step o e = subst IsOpen e o

longer_is_open : (line : Line) (a b r q : List ℕ) (n : ℕ) → IsLine line b n → a ++ r ≡ b ++ q → length a < length b
    → IsOpen (read_from line a)
longer_is_open line a b r q n is e less = by part.0 part.1 where
  part : (x : List ℕ) × (b ≡ a ++ x) × (r ≡ x ++ q)
  part = shorter_front a b r q (omega (arith, less)) e

  by : (x : List ℕ) → b ≡ a ++ x → IsOpen (read_from line a)
  by [] same = absurd (omega (arith, less, ap (λ (xs : List ℕ). length xs) (same ∙ append-nil a)))
  by (y ∷ x) same = done_front line a y x b n same is.0

-- two whole lines at the front are one
pub same_line : (line : Line) (a b r q : List ℕ) (n m : ℕ) → IsLine line a n → IsLine line b m → a ++ r ≡ b ++ q
    → (a ≡ b) × (n ≡ m) × (r ≡ q)
same_line line a b r q n m is other e = by (grind arith) where
  by : (length a < length b) ⊎ ((length b < length a) ⊎ (length a ≡ length b)) → (a ≡ b) × (n ≡ m) × (r ≡ q)
  by (inl less) = absurd (open_is_not_done _ n (longer_is_open line a b r q m other e less) is.0)
  by (inr (inl more)) = absurd (open_is_not_done _ m (longer_is_open line b a q r n is (sym e) more) other.0)
  by (inr (inr same)) =
      let both = same_front a b r q same e in
      let sizes : Done n ≡ Done m = sym is.0 ∙ ap (λ xs. read_from line xs) both.0 ∙ other.0 in
      (both.0, cc sizes, both.1)

-- what is whole isn't cut
pub whole_not_cut : (line : Line) (a b r q : List ℕ) (n : ℕ) → IsLine line a n → IsCutLine line b → q ≡ []
    → a ++ r ≡ b ++ q → ⊥
whole_not_cut line a b r q n is cut none e =
    open_is_not_done _ n (open_front line a r b (sym (e ∙ ap (λ xs. b ++ xs) none ∙ append-nil b)) cut.1) is.0

-- what is whole isn't bad
pub whole_not_bad : (line : Line) (a b r q : List ℕ) (n : ℕ) → IsLine line a n → IsBadLine line b → a ++ r ≡ b ++ q → ⊥
whole_not_bad line a b r q n is bad e = by bad.1 where
  stuck : (front : List ℕ) (byte : ℕ) → b ≡ front ++ byte ∷ [] → IsOpen (read_from line front)
      → read_from line b ≡ Bad → (length a ≤ length front) ⊎ (length b ≤ length a) → ⊥
  stuck front byte is_b o is_bad (inl less) =
      let joined : a ++ r ≡ front ++ (byte ∷ q) = e ∙ ap (λ xs. xs ++ q) is_b ∙ append_assoc front (byte ∷ []) q in
      let part = shorter_front a front r (byte ∷ q) less joined in
      open_is_not_done _ n (open_front line a part.0 front part.1 o) is.0
  stuck front byte is_b o is_bad (inr more) =
      let part = shorter_front b a q r more (sym e) in
      let end : read_from line a ≡ Bad =
      ap (λ xs. read_from line xs) part.1 ∙ read_on (More line) b part.0
      ∙ ap (λ s. fold stepped s part.0) is_bad ∙ bad_stays part.0 in
      not_bad_and_done n (sym end ∙ is.0)

  by : IsStuck line b ⊎ ((length b ≡ 16384) × IsOpen (read_from line b)) → ⊥
  by (inl at) =
      let len = ap (λ (xs : List ℕ). length xs) at.2 in
      stuck at.0 at.1 at.2 at.3 at.4 (grind (arith, len, length-append at.0 (at.1 ∷ [])))
  by (inr long) =
      let part = shorter_front a b r q (omega (arith, is.1, long.0)) e in
      open_is_not_done _ n (open_front line a part.0 b part.1 long.1) is.0

-- what is bad isn't cut
pub bad_not_cut : (line : Line) (a b r q : List ℕ) → IsBadLine line a → IsCutLine line b → q ≡ [] → a ++ r ≡ b ++ q → ⊥
bad_not_cut line a b r q bad cut none e = by bad.1 where
  whole : b ≡ a ++ r
  whole = sym (e ∙ ap (λ xs. b ++ xs) none ∙ append-nil b)

  by : IsStuck line a ⊎ ((length a ≡ 16384) × IsOpen (read_from line a)) → ⊥
  by (inl at) = open_is_not_bad _ (open_front line a r b whole cut.1) at.4
  by (inr long) = omega (arith, long.0, cut.0, ap (λ (xs : List ℕ). length xs) whole, length-append a r)
