-- What the tests on contents decide.
use Rattle.std.proofs.Common.{◌≡◌, ◌≢◌, ℕ, zero, suc, ◌<◌, Bool, true, false, ◌&&◌, List, [], ◌∷◌, length, get_or}
use Rattle.std.proofs.Common.{replicate, Option, Some, None, refl, ap, ◌∙◌}
use Rattle.std.specs.Prelude.{Decides, nat_eq, Contains}
use Rattle.std.specs.List.{list_any, HoldsAt}
use Rattle.std.specs.Str.{bytes_eq}
use Rattle.std.proofs.lemmas.Bool.Decides.{Decides-by_or, Decides-like, Decides-eqb}
use Rattle.std.proofs.lemmas.List.{length-replicate}
use Rattle.std.proofs.lemmas.List.Elements.{Decides-contains, Contains-get_or, at_from_Contains}
use Rattle.std.proofs.lemmas.Slice.Eq.{bytes_eq-Decides}
use Rattle.md5.specs.Md5.{md5}
use Rattle.sb_base.specs.declared.entry.Shown.{Shown}
use Rattle.sb_base.specs.declared.entry.Shown.TheVariants as shown
use Rattle.sb_history.specs.Contents.{zeros, is_zeros}
use Rattle.sb_history.specs.Visibility.{ShowsOneOf}
use Rattle.sb_staleness.specs.Showing.{shows}

both_true : (b c : Bool) → (b && c) ≡ true → (b ≡ true) × (c ≡ true)
both_true true c is = (refl, is)
both_true false c is = cc

true_both : (b c : Bool) → b ≡ true → c ≡ true → (b && c) ≡ true
true_both true c is same = same
true_both false c is same = cc

zeros_of : (content : List ℕ) → is_zeros content ≡ true → content ≡ replicate (length content) 0
zeros_of [] is = refl
zeros_of (byte ∷ content) is =
    let parts = both_true (nat_eq byte 0) (is_zeros content) is in
    let head : byte ≡ 0 = (Decides-eqb byte 0).0 parts.0 in
    let tail = zeros_of content parts.1 in
    ap (λ b. b ∷ content) head ∙ ap (λ xs. 0 ∷ xs) tail

all_zeros : (n : ℕ) → is_zeros (zeros n) ≡ true
all_zeros zero = refl
all_zeros (suc n) = all_zeros n

-- a block of zeros
pub decides_zeros : (n : ℕ) (content : List ℕ)
    → Decides (nat_eq (length content) n && is_zeros content) (content ≡ zeros n)
decides_zeros n content =
    let to : (nat_eq (length content) n && is_zeros content) ≡ true → content ≡ zeros n =
    λ is. let parts = both_true (nat_eq (length content) n) (is_zeros content) is in
    zeros_of content parts.1 ∙ ap zeros ((Decides-eqb (length content) n).0 parts.0) in
    let from : content ≡ zeros n → (nat_eq (length content) n && is_zeros content) ≡ true =
    λ is. true_both (nat_eq (length content) n) (is_zeros content)
    ((Decides-eqb (length content) n).1 (ap length is ∙ length-replicate n 0))
    (ap is_zeros is ∙ all_zeros n) in
    (to, from)

any_contained : (test : List ℕ → Bool) (content : List ℕ) → ((other : List ℕ) → Decides (test other) (other ≡ content))
    → (contents : List (List ℕ)) → Decides (list_any test contents) (Contains contents content)
any_contained test content each contents =
    Decides-contains contents content (list_any test contents)
    (Decides-by_or test (λ other. other ≡ content) (list_any test) each refl (λ _ _. refl) contents)

any_digest : (digest : List ℕ) (contents : List (List ℕ))
    → Decides (list_any (λ content. bytes_eq (md5 content) digest) contents)
    ((content : List ℕ) × Contains contents content × (md5 content ≡ digest))
any_digest digest contents =
    let HasDigest : List ℕ → Type 0 = λ content. md5 content ≡ digest in
    let test : List ℕ → Bool = λ content. bytes_eq (md5 content) digest in
    Decides-like (list_any test contents)
    (λ (at : (k : ℕ) × (k < length contents) × HoldsAt HasDigest contents k).
    (get_or contents at.0 [], Contains-get_or contents at.0 [] at.1, at.2 []))
    (λ (found : (content : List ℕ) × Contains contents content × (md5 content ≡ digest)).
    let at = at_from_Contains contents found.0 found.1 in
    (at.0, at.1, λ d. ap md5 (at.2 d) ∙ found.2))
    (Decides-by_or test HasDigest (list_any test) (λ content. bytes_eq-Decides (md5 content) digest) refl (λ _ _. refl)
    contents)

none_shown : (contents : List (List ℕ)) → list_any (λ content. false) contents ≡ false
none_shown [] = refl
none_shown (content ∷ contents) = none_shown contents

-- an answer that is no failure
pub decides_shown : (block_size : ℕ) (contents : List (List ℕ)) (verify : Option (List ℕ)) (answer : Shown)
    → answer ≢ shown.Failed
    → Decides (list_any (shows block_size verify answer) contents) (ShowsOneOf block_size contents verify answer)
decides_shown block_size contents verify shown.Absent other =
    any_contained (shows block_size verify shown.Absent) (zeros block_size) (decides_zeros block_size) contents
decides_shown block_size contents verify (shown.Bytes bytes) other =
    any_contained (shows block_size verify (shown.Bytes bytes)) bytes (λ content. bytes_eq-Decides content bytes)
    contents
decides_shown block_size contents (Some digest) shown.Same other = any_digest digest contents
decides_shown block_size contents None shown.Same other =
    let none = none_shown contents in (λ is. cc, λ bad. absurd bad)
decides_shown block_size contents verify shown.Failed other = absurd (other refl)
