-- How the parts of what INFO and GO carry join, and what is no such thing.
use Rattle.std.proofs.Common.{ℕ, ◌≡◌, ◌≢◌, ◌<◌, ◌+◌, ◌*◌, ◌^◌, ◌∙◌, nat_eq, Bool, true, false, if◌then◌else◌}
use Rattle.std.proofs.Common.{List, [], ◌∷◌, ◌++◌, length, ap, sym, refl, arith, Err, append-nil}
use Rattle.std.proofs.Common.{append_assoc}
use Rattle.std.specs.Int.{w16, w32, to_be_bytes}
use Rattle.std.specs.List.{AllByRecursion}
use Rattle.std.proofs.lemmas.List.{length-append}
use Rattle.sb_nbd.specs.declared.info.Details.{Details}
use Rattle.sb_nbd.specs.declared.info.Details.TheVariants.{Export, ExportAndBlockSize}
use Rattle.sb_nbd.specs.declared.info.OptionRefusal.TheVariants.{Invalid}
use Rattle.sb_nbd.specs.Numbers.{block_size_kind}
use Rattle.sb_nbd.specs.InfoRequests.{InfoRequest, IsInfoRequest, kinds_bytes, info_bytes, with_kind, details_of}
use Rattle.sb_nbd.specs.InfoRequests.{ReadsKinds, ReadsInfo}
use Rattle.sb_nbd.proofs.OneForm.{split_same, same_2, same_4}

kinds_bytes-append : (xs : List ℕ) (k : ℕ) → kinds_bytes (xs ++ k ∷ []) ≡ kinds_bytes xs ++ to_be_bytes w16 k
kinds_bytes-append [] k = append-nil (to_be_bytes w16 k)
kinds_bytes-append (x ∷ xs) k = ap (λ bytes. to_be_bytes w16 x ++ bytes) (kinds_bytes-append xs k)
    ∙ sym (append_assoc (to_be_bytes w16 x) (kinds_bytes xs) (to_be_bytes w16 k))

length_kinds : (xs : List ℕ) → length (kinds_bytes xs) ≡ 2 * length xs
length_kinds [] = refl
length_kinds (x ∷ xs) = omega (arith, length-append (to_be_bytes w16 x) (kinds_bytes xs), length_kinds xs)

swapped : (d : Details) (p q : Bool) → (if p then ExportAndBlockSize else if q then ExportAndBlockSize else d)
    ≡ (if q then ExportAndBlockSize else if p then ExportAndBlockSize else d)
swapped d true true = refl
swapped d true false = refl
swapped d false true = refl
swapped d false false = refl

details_of-append : (xs : List ℕ) (k : ℕ) → details_of (xs ++ k ∷ []) ≡ with_kind (details_of xs) k
details_of-append [] k = refl
details_of-append (x ∷ xs) k = ap (λ wanted. with_kind wanted x) (details_of-append xs k)
    ∙ swapped (details_of xs) (nat_eq x block_size_kind) (nat_eq k block_size_kind)

fit_more : (xs : List ℕ) (k : ℕ) → AllByRecursion (λ kind. kind < 2 ^ 16) xs → k < 2 ^ 16
    → AllByRecursion (λ kind. kind < 2 ^ 16) (xs ++ k ∷ [])
fit_more [] k all fits = (fits, tt)
fit_more (x ∷ xs) k all fits = (all.0, fit_more xs k all.1 fits)

pub nothing_in : (xs : List ℕ) → length xs ≡ 0 → xs ≡ []
nothing_in [] e = refl
nothing_in (x ∷ xs) e = absurd (omega (arith, e))

-- no kinds
pub no_kinds : ReadsKinds [] 0 Export
no_kinds = record { kinds = []; spelled = refl; count_is = refl; fit = tt; wanted_is = refl }

-- some kinds, and one more
pub one_kind_more : (bytes more all : List ℕ) (i n : ℕ) (wanted result : Details) → n < 2 ^ 16
    → to_be_bytes w16 n ≡ more → all ≡ bytes ++ more → result ≡ with_kind wanted n → ReadsKinds bytes i wanted
    → ReadsKinds all (i + 1) result
one_kind_more bytes more all i n wanted result fits is whole more_is before = record {
  kinds = before.kinds ++ n ∷ [];
  spelled = whole ∙ ap (λ xs. xs ++ more) before.spelled ∙ ap (λ xs. kinds_bytes before.kinds ++ xs) (sym is)
      ∙ sym (kinds_bytes-append before.kinds n);
  count_is = omega (arith, length-append before.kinds (n ∷ []), before.count_is);
  fit = fit_more before.kinds n before.fit fits;
  wanted_is = more_is ∙ ap (λ d. with_kind d n) before.wanted_is ∙ sym (details_of-append before.kinds n);
}

-- a name and kinds, as they are read
pub spelled : (name bytes : List ℕ) (count : ℕ) (wanted : Details) → length name < 2 ^ 32 → count < 2 ^ 16
    → ReadsKinds bytes count wanted
    → (q : InfoRequest) × IsInfoRequest q × (to_be_bytes w32 (length name) ++ (name ++ (to_be_bytes w16
    count ++ bytes)) ≡ info_bytes q) × (q.name ≡ name) × (wanted ≡ details_of q.kinds)
spelled name bytes count wanted fits few read = (
  record { name = name; kinds = read.kinds },
  record { name = fits; count = omega (arith, few, read.count_is); kinds = read.fit },
  ap (λ n. to_be_bytes w32 (length name) ++ (name ++ (to_be_bytes w16 n ++ bytes))) (sym read.count_is)
      ∙ ap (λ xs. to_be_bytes w32 (length name) ++ (name ++ (to_be_bytes w16 (length read.kinds) ++ xs))) read.spelled,
  refl,
  read.wanted_is,
)

-- too few bytes for the two counts
pub too_short : (bytes : List ℕ) → length bytes < 6 → ReadsInfo bytes (Err Invalid)
too_short bytes short q is e = omega (
  arith,
  short,
  ap length e,
  length-append (to_be_bytes w32 (length q.name)) (q.name ++ (to_be_bytes w16 (length q.kinds) ++ kinds_bytes q.kinds)),
  length-append q.name (to_be_bytes w16 (length q.kinds) ++ kinds_bytes q.kinds),
  length-append (to_be_bytes w16 (length q.kinds)) (kinds_bytes q.kinds),
)

-- the length of the name, and too few bytes for it and a count
pub name_too_long : (n : ℕ) (bytes : List ℕ) → n < 2 ^ 32 → length bytes < n + 2
    → ReadsInfo (to_be_bytes w32 n ++ bytes) (Err Invalid)
name_too_long n bytes fits short q is e =
    let split = split_same (to_be_bytes w32 n) (to_be_bytes w32 (length q.name)) bytes _ refl e in
    omega (
      arith,
      short,
      same_4 n (length q.name) fits is.name split.0,
      ap length split.1,
      length-append q.name (to_be_bytes w16 (length q.kinds) ++ kinds_bytes q.kinds),
      length-append (to_be_bytes w16 (length q.kinds)) (kinds_bytes q.kinds),
    )

-- a name, and a count that isn't that of the kinds
pub other_count : (name kinds : List ℕ) (count : ℕ) → length name < 2 ^ 32 → count < 2 ^ 16
    → length kinds ≢ 2 * count
    → ReadsInfo (to_be_bytes w32 (length name) ++ (name ++ (to_be_bytes w16 count ++ kinds))) (Err Invalid)
other_count name kinds count fits few other q is e =
    let first = split_same (to_be_bytes w32 (length name)) (to_be_bytes w32 (length q.name)) _ _ refl e in
    let second = split_same name q.name _ _ (same_4 (length name) (length q.name) fits is.name first.0) first.1 in
    let third = split_same (to_be_bytes w16 count) (to_be_bytes w16 (length q.kinds)) kinds _ refl second.1 in
    absurd (omega (
      arith,
      other,
      same_2 count (length q.kinds) few is.count third.0,
      ap length third.1,
      length_kinds q.kinds,
    ))
