-- An option has one answer.
use Rattle.std.proofs.Common.{ℕ, ◌≡◌, ◌≢◌, ◌<◌, ◌+◌, ◌^◌, ◌∙◌, ◌⊎◌, List, [], ◌∷◌, ◌++◌, length, ap, sym, refl, arith, inl, inr}
use Rattle.std.proofs.Common.{nat_eq, if◌then◌else◌, Bool, true, false}
use Rattle.std.proofs.Common.{Result, Ok, Err}
use Rattle.std.specs.Int.{w16, w32, to_be_bytes}
use Rattle.std.specs.List.{AllByRecursion}
use Rattle.sb_nbd.specs.declared.info.Details.{Details}
use Rattle.sb_nbd.specs.declared.info.OptionRefusal.{OptionRefusal}
use Rattle.sb_nbd.specs.declared.info.OptionRefusal.TheVariants.{Unsupported, Policy, Invalid, Unknown}
use Rattle.sb_nbd.specs.declared.answer.OptionAnswer.{OptionAnswer}
use Rattle.sb_nbd.specs.declared.answer.OptionAnswer.TheVariants as answer
use Rattle.sb_nbd.specs.InfoRequests.{InfoRequest, IsInfoRequest, kinds_bytes, info_bytes, details_of, ReadsInfo}
use Rattle.sb_nbd.specs.Options as options
use Rattle.sb_nbd.specs.OptionAnswers.{IsInfo, IsOther, IsRefused, HasAnswer}
use Rattle.std.proofs.lemmas.Bool.Decides.{nat_tests, eqb_tells}
use Rattle.sb_nbd.specs.Numbers.{export_name, abort, list, starttls, info, go}
use Rattle.sb_nbd.proofs.OneForm.{split_same, same_2, same_4}

same_kinds : (xs ys : List ℕ) → length xs ≡ length ys → AllByRecursion (λ kind. kind < 2 ^ 16) xs
    → AllByRecursion (λ kind. kind < 2 ^ 16) ys → kinds_bytes xs ≡ kinds_bytes ys → xs ≡ ys
same_kinds [] [] len fx fy e = refl
same_kinds [] (y ∷ ys) len fx fy e = absurd (omega (arith, len))
same_kinds (x ∷ xs) [] len fx fy e = absurd (omega (arith, len))
same_kinds (x ∷ xs) (y ∷ ys) len fx fy e =
    let split = split_same (to_be_bytes w16 x) (to_be_bytes w16 y) (kinds_bytes xs) (kinds_bytes ys) refl e in
    ap (λ z. z ∷ xs) (same_2 x y fx.0 fy.0 split.0)
    ∙ ap (λ zs. y ∷ zs) (same_kinds xs ys (omega (arith, len)) fx.1 fy.1 split.1)

-- what INFO and GO carry spells one name and one list of kinds
same_info : (q r : InfoRequest) → IsInfoRequest q → IsInfoRequest r → info_bytes q ≡ info_bytes r
    → (q.name ≡ r.name) × (q.kinds ≡ r.kinds)
same_info q r is_q is_r e =
    let first = split_same (to_be_bytes w32 (length q.name)) (to_be_bytes w32 (length r.name)) _ _ refl e in
    let name = split_same q.name r.name _ _ (same_4 (length q.name) (length r.name) is_q.name is_r.name first.0) first.1 in
    let count = split_same (to_be_bytes w16 (length q.kinds)) (to_be_bytes w16 (length r.kinds)) _ _ refl name.1 in (
      name.0,
      same_kinds q.kinds r.kinds (same_2 (length q.kinds) (length r.kinds) is_q.count is_r.count count.0)
          is_q.kinds is_r.kinds count.1,
    )

-- a name is empty or not
not_both : (q r : InfoRequest) → IsInfoRequest q → IsInfoRequest r → info_bytes q ≡ info_bytes r → q.name ≡ []
    → 0 < length r.name → ⊥
not_both q r is_q is_r e empty some = omega (arith, some, ap length (same_info q r is_q is_r e).0, ap length empty)

-- it is read in one way
one_reading : (bytes : List ℕ) (x y : Result Details OptionRefusal) → ReadsInfo bytes x → ReadsInfo bytes y → x ≡ y
one_reading bytes (Ok d) (Ok e) x y = ap Ok (x.4 ∙ ap details_of (same_info x.0 y.0 x.1 y.1
    (sym x.2 ∙ y.2)).1 ∙ sym y.4)
one_reading bytes (Ok d) (Err Invalid) x y = absurd (y x.0 x.1 x.2)
one_reading bytes (Ok d) (Err Unknown) x y = absurd (not_both x.0 y.0 x.1 y.1 (sym x.2 ∙ y.2) x.3 y.3)
one_reading bytes (Ok d) (Err Unsupported) x y = absurd y
one_reading bytes (Ok d) (Err Policy) x y = absurd y
one_reading bytes (Err Invalid) (Ok e) x y = absurd (x y.0 y.1 y.2)
one_reading bytes (Err Invalid) (Err Invalid) x y = refl
one_reading bytes (Err Invalid) (Err Unknown) x y = absurd (x y.0 y.1 y.2)
one_reading bytes (Err Invalid) (Err Unsupported) x y = absurd y
one_reading bytes (Err Invalid) (Err Policy) x y = absurd y
one_reading bytes (Err Unknown) (Ok e) x y = absurd (not_both y.0 x.0 y.1 x.1 (sym y.2 ∙ x.2) y.3 x.3)
one_reading bytes (Err Unknown) (Err Invalid) x y = absurd (y x.0 x.1 x.2)
one_reading bytes (Err Unknown) (Err Unknown) x y = refl
one_reading bytes (Err Unknown) (Err Unsupported) x y = absurd y
one_reading bytes (Err Unknown) (Err Policy) x y = absurd y
one_reading bytes (Err Unsupported) z x y = absurd x
one_reading bytes (Err Policy) z x y = absurd x

-- the answer that what INFO and GO carry leads to
abbrev answer_of : Result Details OptionRefusal → OptionAnswer
answer_of (Ok details) = answer.Details details
answer_of (Err refusal) = answer.Refused refusal

-- an answer to INFO and GO is by what they carry
by_reading : (o : options.Option) (a : OptionAnswer) → IsInfo o.asked.option → HasAnswer o a
    → (x : Result Details OptionRefusal) × ReadsInfo o.payload x × (a ≡ answer_of x)
by_reading o answer.Export is has = absurd (grind (arith, is, has))
by_reading o answer.NoSuchExport is has = absurd (grind (arith, is, has))
by_reading o answer.Abort is has = absurd (grind (arith, is, has))
by_reading o answer.List is has = absurd (grind (arith, is, has))
by_reading o (answer.Details details) is has = (Ok details, has.1, refl)
by_reading o (answer.Refused Unsupported) is has = absurd (grind (arith, is, has.not_info, has.not_go))
by_reading o (answer.Refused Policy) is has = absurd (grind (arith, is, has))
by_reading o (answer.Refused Invalid) is (inl list) = absurd (grind (arith, is, list))
by_reading o (answer.Refused Invalid) is (inr reads) = (Err Invalid, reads.1, refl)
by_reading o (answer.Refused Unknown) is has = (Err Unknown, has.1, refl)

-- the answer to each other option
abbrev plain : ℕ → ℕ → OptionAnswer
plain option length =
    if nat_eq option export_name then if nat_eq length 0 then answer.Export else answer.NoSuchExport
    else if nat_eq option abort then answer.Abort
    else if nat_eq option list then if nat_eq length 0 then answer.List else answer.Refused Invalid
    else if nat_eq option starttls then answer.Refused Policy
    else answer.Refused Unsupported

-- each other answer is by the option and by how much it carries
by_option : (o : options.Option) (a : OptionAnswer) → (IsInfo o.asked.option → ⊥) → HasAnswer o a
    → a ≡ plain o.asked.option o.asked.length
by_option o answer.Export not has = grind (arith, nat_tests, has.0, has.1)
by_option o answer.NoSuchExport not has = grind (arith, nat_tests, has.0, has.1)
by_option o answer.Abort not has = grind (arith, nat_tests, has)
by_option o answer.List not has = grind (arith, nat_tests, has.0, has.1)
by_option o (answer.Details details) not has = absurd (not has.0)
by_option o (answer.Refused Unsupported) not has =
    grind (arith, nat_tests, has.not_export_name, has.not_abort, has.not_list, has.not_starttls)
by_option o (answer.Refused Policy) not has = grind (arith, nat_tests, has)
by_option o (answer.Refused Invalid) not (inl some) = grind (arith, nat_tests, some.0, some.1)
by_option o (answer.Refused Invalid) not (inr reads) = absurd (not reads.0)
by_option o (answer.Refused Unknown) not has = absurd (not has.0)

neither : (option : ℕ) → option ≢ info → option ≢ go → IsInfo option → ⊥
neither option not_info not_go (inl is) = not_info is
neither option not_info not_go (inr is) = not_go is

info_or_not : (option : ℕ) → IsInfo option ⊎ (IsInfo option → ⊥)
info_or_not option = by (eqb_tells option info) (eqb_tells option go) where
  by : ((nat_eq option info ≡ true) × (option ≡ info)) ⊎ ((nat_eq option info ≡ false) × (option ≢ info))
      → ((nat_eq option go ≡ true) × (option ≡ go)) ⊎ ((nat_eq option go ≡ false) × (option ≢ go))
      → IsInfo option ⊎ (IsInfo option → ⊥)
  by (inl is) y = inl (inl is.1)
  by (inr other) (inl is) = inl (inr is.1)
  by (inr other) (inr another) = inr (neither option other.1 another.1)

pub one_answer : (o : options.Option) (a b : OptionAnswer) → HasAnswer o a → HasAnswer o b → a ≡ b
one_answer o a b has_a has_b = joined (info_or_not o.asked.option) where
  joined : IsInfo o.asked.option ⊎ (IsInfo o.asked.option → ⊥) → a ≡ b
  joined (inl is) =
      let x = by_reading o a is has_a in
      let y = by_reading o b is has_b in
      x.2 ∙ ap answer_of (one_reading o.payload x.0 y.0 x.1 y.1) ∙ sym y.2
  joined (inr not) = by_option o a not has_a ∙ sym (by_option o b not has_b)
