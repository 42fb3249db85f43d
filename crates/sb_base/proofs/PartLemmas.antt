-- The first part of a range, and the rest.
use Rattle.std.proofs.Common.{ℕ, zero, suc, ◌≡◌, ◌<◌, ◌≤◌, ◌+◌, ◌-◌, ◌*◌, ◌/◌, ◌%◌, ◌⊎◌, min, max, Bool, List, [], ◌∷◌}
use Rattle.std.proofs.Common.{refl, sym, ◌∙◌, ap, inl, inr, arith, if◌then◌else◌, sum_by, All, subst, mul_comm}
use Rattle.std.proofs.lemmas.Nat.{div_below, le-div, mul-le, div-mul-add, div-add-mod', mod_below}
use Rattle.std.proofs.Math.Nat.{add-mul, one-mul, add-zero}
use Rattle.std.proofs.lemmas.List.Sums.{sum_by-cons}
use Rattle.std.proofs.lemmas.List.Elements.{All-cons}
use Rattle.std.proofs.lemmas.Bool.{lt-ltb, le-ltb, cases_lt}
use Rattle.sb_base.specs.declared.geometry.Geometry.{Geometry}
use Rattle.sb_base.specs.declared.part.Part.{Part}
use Rattle.sb_base.specs.Ranges.{IsPart, IsRange, start_in, stop_in, part_in, parts_in, parts_of}

-- a range that isn't empty has a part in each block from that of its first byte to that of its last
parts_of-some : (size at end n : ℕ) → at < end → (end - 1) / size + 1 - at / size ≡ n
    → parts_of size at end ≡ parts_in size at end (at / size) n
parts_of-some size at end n some count =
    ap (λ (t : Bool). if t then parts_in size at end (at / size) ((end - 1) / size + 1 - at / size) else [])
    (lt-ltb at end some)
    ∙ ap (λ (m : ℕ). parts_in size at end (at / size) m) count

parts_of-none : (size at end : ℕ) → end ≤ at → parts_of size at end ≡ []
parts_of-none size at end none =
    ap (λ (t : Bool). if t then parts_in size at end (at / size) ((end - 1) / size + 1 - at / size) else [])
    (le-ltb at end none)

-- a range that begins later has the same parts in the blocks behind its begin
part_in-later : (size at later end block : ℕ) → at ≤ block * size → later ≤ block * size
    → part_in size at end block ≡ part_in size later end block
part_in-later size at later end block before after =
    let same : max at (block * size) ≡ max later (block * size) = omega arith in
    ap (λ (start : ℕ). record {
      block = block;
      offset = start - block * size;
      length = stop_in size end block - start;
    }) same

parts_in-later : (size at later end block n : ℕ) → at ≤ block * size → later ≤ block * size
    → parts_in size at end block n ≡ parts_in size later end block n
parts_in-later size at later end block zero before after = refl
parts_in-later size at later end block (suc n) before after =
    let next : block * size ≤ (block + 1) * size = mul-le block size (block + 1) size (omega arith) (omega arith) in
    let here = part_in-later size at later end block before after in
    let others = parts_in-later size at later end (block + 1) n (omega arith) (omega arith) in
    ap (λ (p : Part). p ∷ parts_in size at end (block + 1) n) here
    ∙ ap (λ (ps : List Part). part_in size later end block ∷ ps) others

-- where the places of a block lie
pub block_of : (size at : ℕ) → 0 < size → (at / size * size ≤ at) × (at < (at / size + 1) * size)
    × (at % size ≡ at - at / size * size)
block_of size at some =
    let split = div-add-mod' at size in
    let below = mod_below at size some in
    let next : (at / size + 1) * size ≡ at / size * size + size = add-mul (at / size) 1 size
    ∙ ap (λ (n : ℕ). at / size * size + n) (one-mul size) in
    (omega arith, omega arith, omega arith)

-- the first part
part_in-first : (size at end : ℕ) → 0 < size → at < end
    → part_in size at end (at / size) ≡ record {
      block = at / size;
      offset = at % size;
      length = min (size - at % size) (end - at);
    }
part_in-first size at end some within =
    let places = block_of size at some in
    let next : (at / size + 1) * size ≡ at / size * size + size = add-mul (at / size) 1 size
    ∙ ap (λ (n : ℕ). at / size * size + n) (one-mul size) in
    let offset : max at (at / size * size) - at / size * size ≡ at % size =
    omega (arith, places.0, places.1, places.2) in
    let length : min end ((at / size + 1) * size) - max at (at / size * size) ≡ min (size - at % size) (end - at) =
    omega (arith, places.0, places.1, places.2) in
    ap (λ (n : ℕ). record {
      block = at / size;
      offset = n;
      length = stop_in size end (at / size) - start_in size at (at / size);
    }) offset
    ∙ ap (λ (n : ℕ). record { block = at / size; offset = at % size; length = n }) length

-- a range within one block has no part behind its first
parts_of-one : (size at end : ℕ) → 0 < size → at < end → end ≤ (at / size + 1) * size
    → parts_of size at end ≡ part_in size at end (at / size) ∷ []
parts_of-one size at end some within last =
    let places = block_of size at some in
    let low : at / size ≤ (end - 1) / size = le-div (at / size) (end - 1) size some (omega (arith, places.0)) in
    let high : (end - 1) / size < at / size + 1 = div_below (end - 1) size (at / size + 1) some (omega arith) in
    parts_of-some size at end 1 within (omega arith)

-- a range that goes on behind its first block has the parts of what is left
parts_of-more : (size at end : ℕ) → 0 < size → (at / size + 1) * size < end
    → parts_of size at end ≡ part_in size at end (at / size) ∷ parts_of size ((at / size + 1) * size) end
parts_of-more size at end some more =
    let places = block_of size at some in
    let border = (at / size + 1) * size in
    let begins : border / size ≡ at / size + 1 = ap (λ (n : ℕ). n / size) (sym (add-zero border))
    ∙ div-mul-add (at / size + 1) size 0 some in
    let low : at / size + 1 ≤ (end - 1) / size = le-div (at / size + 1) (end - 1) size some (omega arith) in
    let n = (end - 1) / size - at / size in
    let all : parts_of size at end ≡ parts_in size at end (at / size) (suc n) =
    parts_of-some size at end (suc n) (omega (arith, places.1)) (omega arith) in
    let others : parts_in size at end (at / size + 1) n ≡ parts_in size border end (at / size + 1) n =
    parts_in-later size at border end (at / size + 1) n (omega (arith, places.1)) (omega arith) in
    let behind : parts_of size border end ≡ parts_in size border end (border / size) n =
    parts_of-some size border end n more (rw begins (omega arith)) in
    let same : parts_in size border end (border / size) n ≡ parts_in size border end (at / size + 1) n =
    ap (λ (block : ℕ). parts_in size border end block n) begins in
    all ∙ ap (λ (ps : List Part). part_in size at end (at / size) ∷ ps) (others ∙ sym (behind ∙ same))

-- a range is its first part and the rest
pub parts_of-first : (size at end length : ℕ) → 0 < size → at < end → length ≡ min (size - at % size) (end - at)
    → parts_of size at end ≡ record { block = at / size; offset = at % size; length = length } ∷ parts_of size
    (at + length) end
parts_of-first size at end length some within is =
    let places = block_of size at some in
    let next : (at / size + 1) * size ≡ at / size * size + size = add-mul (at / size) 1 size
    ∙ ap (λ (n : ℕ). at / size * size + n) (one-mul size) in
    let first : part_in size at end (at / size) ≡ record { block = at / size; offset = at % size; length = length } =
    part_in-first size at end some within ∙ ap (λ (n : ℕ). record {
      block = at / size;
      offset = at % size;
      length = n;
    }) (sym is) in
    elim (cases_lt ((at / size + 1) * size) end) [
      | inl more ↦
          (let here : at + length ≡ (at / size + 1) * size = omega (arith, places.0, places.1, places.2) in
          parts_of-more size at end some more ∙ ap (λ (p : Part). p ∷ parts_of size ((at / size + 1) * size) end) first
          ∙ ap (λ (n : ℕ). record { block = at / size; offset = at % size; length = length } ∷ parts_of size n end)
          (sym here))
      | inr last ↦
          (let none : end ≤ at + length = omega (arith, places.0, places.1, places.2) in
          parts_of-one size at end some within last ∙ ap (λ (p : Part). p ∷ []) first
          ∙ ap (λ (ps : List Part). record { block = at / size; offset = at % size; length = length } ∷ ps)
          (sym (parts_of-none size (at + length) end none)))
    ]

-- how many bytes a part has
abbrev length_of : Part → ℕ
length_of part = part.length

-- what is left behind the first part is shorter
first_is_short : (size at end : ℕ) → 0 < size → at < end
    → (0 < min (size - at % size) (end - at)) × (at + min (size - at % size) (end - at) ≤ end)
first_is_short size at end some within =
    let below = mod_below at size some in
    (omega arith, omega arith)

-- the length of the first part
abbrev first_length : ℕ → ℕ → ℕ → ℕ
first_length size at end = min (size - at % size) (end - at)

-- the parts have all bytes of a range, if those of what is left behind the first do
whole_by : (size at end : ℕ) → 0 < size → at ≤ end
    → (at < end → sum_by length_of (parts_of size (at + first_length size at end) end) ≡ end -
    (at + first_length size at end))
    → (at < end) ⊎ (end ≤ at) → sum_by length_of (parts_of size at end) ≡ end - at
whole_by size at end some ordered others (inr none) = rw (parts_of-none size at end none) (omega arith)
whole_by size at end some ordered others (inl more) =
    let step = first_is_short size at end some more in
    rw (parts_of-first size at end (first_length size at end) some more refl)
    (sum_by-cons length_of (record { block = at / size; offset = at % size; length = first_length size at end })
    (parts_of size (at + first_length size at end) end) ∙ omega (arith, others more, step.0, step.1))

-- the parts have all bytes of the range
pub parts_of-whole : (fuel size at end : ℕ) → end ≤ at + fuel → 0 < size → at ≤ end
    → sum_by (λ (part : Part). part.length) (parts_of size at end) ≡ end - at
parts_of-whole zero size at end short some ordered = rw (parts_of-none size at end (omega arith)) (omega arith)
parts_of-whole (suc fuel) size at end short some ordered =
    whole_by size at end some ordered (λ more. let step = first_is_short size at end some more in parts_of-whole fuel
    size (at + first_length size at end) end (omega (arith, step.0)) some step.1) (cases_lt at end)

-- the first part is one of the disk
first_is_part : (geometry : Geometry) (at end : ℕ) → 0 < geometry.block_size → IsRange geometry at end → at < end
    → IsPart geometry (record {
      block = at / geometry.block_size;
      offset = at % geometry.block_size;
      length = min (geometry.block_size - at % geometry.block_size) (end - at);
    })
first_is_part geometry at end some range more =
    let below = mod_below at geometry.block_size some in
    let step = first_is_short geometry.block_size at end some more in
    let block = div_below at geometry.block_size geometry.blocks some
    (rw (mul_comm geometry.blocks geometry.block_size) (omega (arith, range.within))) in
    record { block = block; within = omega arith; some = step.0 }

-- each part is one of the disk, if each behind the first is
each_by : (geometry : Geometry) (at end : ℕ) → 0 < geometry.block_size → IsRange geometry at end
    → (at < end → All (IsPart geometry) (parts_of geometry.block_size
    (at + first_length geometry.block_size at end) end)) → (at < end) ⊎ (end ≤ at)
    → All (IsPart geometry) (parts_of geometry.block_size at end)
each_by geometry at end some range others (inr none) =
    let P : List Part → Type 0 = λ ps. All (IsPart geometry) ps in
    subst P (sym (parts_of-none geometry.block_size at end none)) (λ k d within. absurd (omega arith))
each_by geometry at end some range others (inl more) =
    let P : List Part → Type 0 = λ ps. All (IsPart geometry) ps in
    let size = geometry.block_size in
    let first : Part = record { block = at / size; offset = at % size; length = first_length size at end } in
    subst P (sym (parts_of-first size at end (first_length size at end) some more refl))
    (All-cons (IsPart geometry) first (parts_of size (at + first_length size at end) end)
    (first_is_part geometry at end some range more) (others more))

-- each part is one of the disk
pub parts_of-each : (geometry : Geometry) (fuel at end : ℕ) → end ≤ at + fuel → 0 < geometry.block_size
    → IsRange geometry at end → All (IsPart geometry) (parts_of geometry.block_size at end)
parts_of-each geometry zero at end short some range =
    let P : List Part → Type 0 = λ ps. All (IsPart geometry) ps in
    subst P (sym (parts_of-none geometry.block_size at end (omega arith))) (λ k d within. absurd (omega arith))
parts_of-each geometry (suc fuel) at end short some range =
    each_by geometry at end some range
    (λ more. let step = first_is_short geometry.block_size at end some more in parts_of-each geometry fuel
    (at + first_length geometry.block_size at end) end (omega (arith, step.0)) some
    (record { ordered = step.1; within = range.within }))
    (cases_lt at end)
