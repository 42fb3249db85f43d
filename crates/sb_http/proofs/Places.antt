-- The same bytes end a body in chunks at one place.
use Rattle.std.proofs.Common.{ℕ, ◌≡◌, ◌≤◌, ◌+◌, ◌∙◌, List, [], ◌++◌, length, ap, sym, refl, arith}
use Rattle.std.proofs.Common.{append_assoc, length-append}
use Rattle.sb_http.specs.declared.line.Line.{Line}
use Rattle.sb_http.specs.declared.line.Line.TheVariants.{Size, ChunkEnd, TrailerLine}
use Rattle.sb_http.specs.Lines.{IsBadLine, IsCutLine, IsLine}
use Rattle.sb_http.specs.Chunks.{Chunk, IsChunk, IsPlace, IsAtEnd, IsBad, IsCut, IsOver, Place, in_size, in_content}
use Rattle.sb_http.specs.Chunks.{in_end, in_trailer, content_at, print_chunk, print_place}
use Rattle.sb_http.proofs.Fronts.{same_front}
use Rattle.sb_http.proofs.LineEnds.{bad_not_cut, same_line, whole_not_bad, whole_not_cut}

-- how a reading ends
pub data Kind : Type 0 where
  at_end bad cut over : Kind

-- the reading ends so at the place, behind so much of the body, with these bytes behind it
abbrev pub EndsAt : Kind → ℕ → ℕ → Place → List ℕ → Type 0
EndsAt at_end limit got place behind = IsAtEnd place
EndsAt bad limit got place behind = IsBad place
EndsAt cut limit got place behind = IsCut place × (behind ≡ [])
EndsAt over limit got place behind = IsOver limit got place

-- a line ends so
abbrev LineEnds : Kind → Line → List ℕ → List ℕ → Type 0
LineEnds at_end line bytes behind = (size : ℕ) × IsLine line bytes size
LineEnds bad line bytes behind = IsBadLine line bytes
LineEnds cut line bytes behind = IsCutLine line bytes × (behind ≡ [])
LineEnds over line bytes behind = ⊥

one_end : (line : Line) (a b r q : List ℕ) (k l : Kind) → LineEnds k line a r → LineEnds l line b q
    → a ++ r ≡ b ++ q → k ≡ l
one_end line a b r q over l h i e = absurd h
one_end line a b r q k over h i e = absurd i
one_end line a b r q at_end at_end h i e = refl
one_end line a b r q at_end bad h i e = absurd (whole_not_bad line a b r q h.0 h.1 i e)
one_end line a b r q at_end cut h i e = absurd (whole_not_cut line a b r q h.0 h.1 i.0 i.1 e)
one_end line a b r q bad at_end h i e = absurd (whole_not_bad line b a q r i.0 i.1 h (sym e))
one_end line a b r q bad bad h i e = refl
one_end line a b r q bad cut h i e = absurd (bad_not_cut line a b r q h i.0 i.1 e)
one_end line a b r q cut at_end h i e = absurd (whole_not_cut line b a q r i.0 i.1 h.0 h.1 (sym e))
one_end line a b r q cut bad h i e = absurd (bad_not_cut line b a q r i h.0 h.1 (sym e))
one_end line a b r q cut cut h i e = refl

-- where the size line is whole and within the limit, the reading doesn't end in it
size_passes : (k : Kind) (limit n size : ℕ) (a b r q : List ℕ) → EndsAt k limit n (in_size a) r → IsLine Size b size
    → n + size ≤ limit → a ++ r ≡ b ++ q → ⊥
size_passes at_end limit n size a b r q h is fits e = h
size_passes bad limit n size a b r q h is fits e = whole_not_bad Size b a q r size is h (sym e)
size_passes cut limit n size a b r q h is fits e = whole_not_cut Size b a q r size is h.0 h.1 (sym e)
size_passes over limit n size a b r q h is fits e =
    let same = same_line Size a b r q h.0 size h.1 is e in
    omega (arith, same.1, h.2, fits)

-- where a chunk's line end is whole, the reading doesn't end in it
end_passes : (k : Kind) (limit n size : ℕ) (line content a b r q : List ℕ) → EndsAt k limit n (in_end line content a) r
    → IsLine ChunkEnd b size → a ++ r ≡ b ++ q → ⊥
end_passes at_end limit n size line content a b r q h is e = h
end_passes bad limit n size line content a b r q h is e = whole_not_bad ChunkEnd b a q r size is h (sym e)
end_passes cut limit n size line content a b r q h is e = whole_not_cut ChunkEnd b a q r size is h.0 h.1 (sym e)
end_passes over limit n size line content a b r q h is e = h

-- where all of a chunk came, the reading doesn't end in what it carries
content_passes : (k : Kind) (limit n size : ℕ) (line a b r q : List ℕ) → EndsAt k limit n (in_content line size a) r
    → length b ≡ size → a ++ r ≡ b ++ q → ⊥
content_passes at_end limit n size line a b r q h len e = h
content_passes bad limit n size line a b r q h len e = h
content_passes cut limit n size line a b r q h len e =
    let sizes = ap (λ (xs : List ℕ). length xs) e in
    omega (arith, h.0, ap (λ (xs : List ℕ). length xs) h.1, sizes, length-append a r, length-append b q, len)
content_passes over limit n size line a b r q h len e = h

-- a size line and what is behind it
behind_line : (line a r : List ℕ) → (line ++ a) ++ r ≡ line ++ (a ++ r)
behind_line line a r = append_assoc line a r

end_bytes : (line content a r : List ℕ) → (line ++ (content ++ a)) ++ r ≡ line ++ (content ++ (a ++ r))
end_bytes line content a r =
    append_assoc line (content ++ a) r ∙ ap (λ xs. line ++ xs) (append_assoc content a r)

-- where a whole chunk within the limit stands there, the reading doesn't end before its end
pub chunk_passes : (place : Place) (k : Kind) (limit n : ℕ) (r : List ℕ) (chunk : Chunk) (q : List ℕ)
    → IsPlace limit n place → EndsAt k limit n place r → IsChunk chunk → n + length chunk.content ≤ limit
    → print_place place ++ r ≡ print_chunk chunk ++ q → ⊥
chunk_passes (in_size a) k limit n r chunk q at h is fits e =
    size_passes k limit n (length chunk.content) a chunk.line r ((chunk.content ++ chunk.end) ++ q) h is.line fits
    (e ∙ append_assoc chunk.line (chunk.content ++ chunk.end) q)
chunk_passes (in_content line size a) k limit n r chunk q at h is fits e =
    let joined = sym (behind_line line a r) ∙ e ∙ end_bytes chunk.line chunk.content chunk.end q in
    let same = same_line Size line chunk.line (a ++ r) (chunk.content ++ (chunk.end ++ q)) size _ at.0 is.line joined in
    content_passes k limit n size line a chunk.content r (chunk.end ++ q) h (sym same.1) same.2
chunk_passes (in_end line content a) k limit n r chunk q at h is fits e =
    let joined = sym (end_bytes line content a r) ∙ e ∙ end_bytes chunk.line chunk.content chunk.end q in
    let same = same_line Size line chunk.line (content ++ (a ++ r)) (chunk.content ++ (chunk.end ++ q)) _ _ at.0 is.line joined in
    let both = same_front content chunk.content (a ++ r) (chunk.end ++ q) same.1 same.2 in
    end_passes k limit n is.end.0 line content a chunk.end r q h is.end.1 both.1
chunk_passes (in_trailer line a) k limit n r chunk q at h is fits e =
    let joined = sym (behind_line line a r) ∙ e ∙ end_bytes chunk.line chunk.content chunk.end q in
    let same = same_line Size line chunk.line (a ++ r) (chunk.content ++ (chunk.end ++ q)) 0 _ at is.line joined in
    omega (arith, same.1, is.some)

-- two whole chunks at the front are one
pub same_chunk : (one other : Chunk) (r q : List ℕ) → IsChunk one → IsChunk other
    → print_chunk one ++ r ≡ print_chunk other ++ q → (one.content ≡ other.content) × (r ≡ q)
same_chunk one other r q is also e =
    let joined = sym (end_bytes one.line one.content one.end r) ∙ e ∙ end_bytes other.line other.content other.end q in
    let same = same_line Size one.line other.line (one.content ++ (one.end ++ r)) (other.content ++ (other.end ++ q)) _ _ is.line also.line joined in
    let both = same_front one.content other.content (one.end ++ r) (other.end ++ q) same.1 same.2 in
    let ends = same_line ChunkEnd one.end other.end r q _ _ is.end.1 also.end.1 both.1 in
    (both.0, ends.2)

size_ends : (k l : Kind) (limit n m : ℕ) (a b r q : List ℕ) → n ≤ limit → n ≡ m → EndsAt k limit n (in_size a) r
    → EndsAt l limit m (in_size b) q → a ++ r ≡ b ++ q → k ≡ l
size_ends at_end l limit n m a b r q few same h i e = absurd h
size_ends k at_end limit n m a b r q few same h i e = absurd i
size_ends over over limit n m a b r q few same h i e = refl
size_ends over bad limit n m a b r q few same h i e = absurd (whole_not_bad Size a b r q h.0 h.1 i e)
size_ends over cut limit n m a b r q few same h i e = absurd (whole_not_cut Size a b r q h.0 h.1 i.0 i.1 e)
size_ends bad over limit n m a b r q few same h i e = absurd (whole_not_bad Size b a q r i.0 i.1 h (sym e))
size_ends cut over limit n m a b r q few same h i e = absurd (whole_not_cut Size b a q r i.0 i.1 h.0 h.1 (sym e))
size_ends bad bad limit n m a b r q few same h i e = refl
size_ends cut cut limit n m a b r q few same h i e = refl
size_ends bad cut limit n m a b r q few same h i e = absurd (bad_not_cut Size a b r q h i.0 i.1 e)
size_ends cut bad limit n m a b r q few same h i e = absurd (bad_not_cut Size b a q r i h.0 h.1 (sym e))

as_end : (k : Kind) (limit n : ℕ) (line content a r : List ℕ) → EndsAt k limit n (in_end line content a) r
    → LineEnds k ChunkEnd a r
as_end at_end limit n line content a r h = absurd h
as_end bad limit n line content a r h = h
as_end cut limit n line content a r h = h
as_end over limit n line content a r h = h

as_trailer : (k : Kind) (limit n : ℕ) (line a r : List ℕ) → EndsAt k limit n (in_trailer line a) r
    → LineEnds k TrailerLine a r
as_trailer at_end limit n line a r h = h
as_trailer bad limit n line a r h = h
as_trailer cut limit n line a r h = h
as_trailer over limit n line a r h = h

content_is_cut : (k : Kind) (limit n size : ℕ) (line a r : List ℕ) → EndsAt k limit n (in_content line size a) r
    → (k ≡ cut) × (r ≡ [])
content_is_cut at_end limit n size line a r h = absurd h
content_is_cut bad limit n size line a r h = absurd h
content_is_cut cut limit n size line a r h = (refl, h.1)
content_is_cut over limit n size line a r h = absurd h

-- two places behind the same chunks
pub same_place : (place other : Place) (k l : Kind) (limit n m : ℕ) (r q : List ℕ)
    → n ≤ limit → n ≡ m → IsPlace limit n place → IsPlace limit m other → EndsAt k limit n place r
    → EndsAt l limit m other q → print_place place ++ r ≡ print_place other ++ q
    → (k ≡ l) × (content_at place ≡ content_at other)
same_place (in_size a) (in_size b) k l limit n m r q few same at also h i e =
    (size_ends k l limit n m a b r q few same h i e, refl)
same_place (in_size a) (in_content line size b) k l limit n m r q few same at also h i e =
    absurd (size_passes k limit n size a line r (b ++ q) h also.0 (omega (arith, same, also.2)) (e ∙ behind_line line b q))
same_place (in_size a) (in_end line content b) k l limit n m r q few same at also h i e =
    absurd (size_passes k limit n (length content) a line r (content ++ (b ++ q)) h also.0 (omega (arith, same, also.2))
    (e ∙ end_bytes line content b q))
same_place (in_size a) (in_trailer line b) k l limit n m r q few same at also h i e =
    absurd (size_passes k limit n 0 a line r (b ++ q) h also (omega (arith, few)) (e ∙ behind_line line b q))
same_place (in_content line size a) (in_size b) k l limit n m r q few same at also h i e =
    absurd (size_passes l limit m size b line q (a ++ r) i at.0 (omega (arith, same, at.2)) (sym e ∙ behind_line line a r))
same_place (in_content line size a) (in_content next other b) k l limit n m r q few same at also h i e =
    let lines = same_line Size line next (a ++ r) (b ++ q) size other at.0 also.0 (sym (behind_line line a r) ∙ e ∙ behind_line next b q) in
    let one = content_is_cut k limit n size line a r h in
    let two = content_is_cut l limit m other next b q i in
    let len : length a + length r ≡ length b + length q = sym (length-append a r) ∙ ap (λ (xs : List ℕ). length xs) lines.2 ∙ length-append b q in
    let none = ap (λ (xs : List ℕ). length xs) one.1 in
    let also_none = ap (λ (xs : List ℕ). length xs) two.1 in
    (one.0 ∙ sym two.0, (same_front a b r q (omega (arith, len, none, also_none)) lines.2).0)
same_place (in_content line size a) (in_end next content b) k l limit n m r q few same at also h i e =
    let lines = same_line Size line next (a ++ r) (content ++ (b ++ q)) size _ at.0 also.0 (sym (behind_line line a r) ∙ e ∙ end_bytes next content b q) in
    absurd (content_passes k limit n size line a content r (b ++ q) h (sym lines.1) lines.2)
same_place (in_content line size a) (in_trailer next b) k l limit n m r q few same at also h i e =
    let lines = same_line Size line next (a ++ r) (b ++ q) size 0 at.0 also (sym (behind_line line a r) ∙ e ∙ behind_line next b q) in
    absurd (omega (arith, lines.1, at.1))
same_place (in_end line content a) (in_size b) k l limit n m r q few same at also h i e =
    absurd (size_passes l limit m (length content) b line q (content ++ (a ++ r)) i at.0 (omega (arith, same, at.2))
    (sym e ∙ end_bytes line content a r))
same_place (in_end line content a) (in_content next size b) k l limit n m r q few same at also h i e =
    let lines = same_line Size next line (b ++ q) (content ++ (a ++ r)) size _ also.0 at.0 (sym (behind_line next b q) ∙ sym e ∙ end_bytes line content a r) in
    absurd (content_passes l limit m size next b content q (a ++ r) i (sym lines.1) lines.2)
same_place (in_end line content a) (in_end next carried b) k l limit n m r q few same at also h i e =
    let lines = same_line Size line next (content ++ (a ++ r)) (carried ++ (b ++ q)) _ _ at.0 also.0 (sym (end_bytes line content a r) ∙ e ∙ end_bytes next carried b q) in
    let both = same_front content carried (a ++ r) (b ++ q) lines.1 lines.2 in
    (one_end ChunkEnd a b r q k l (as_end k limit n line content a r h) (as_end l limit m next carried b q i) both.1, both.0)
same_place (in_end line content a) (in_trailer next b) k l limit n m r q few same at also h i e =
    let lines = same_line Size line next (content ++ (a ++ r)) (b ++ q) _ 0 at.0 also (sym (end_bytes line content a r) ∙ e ∙ behind_line next b q) in
    absurd (omega (arith, lines.1, at.1))
same_place (in_trailer line a) (in_size b) k l limit n m r q few same at also h i e =
    absurd (size_passes l limit m 0 b line q (a ++ r) i at (omega (arith, few, same)) (sym e ∙ behind_line line a r))
same_place (in_trailer line a) (in_content next size b) k l limit n m r q few same at also h i e =
    let lines = same_line Size line next (a ++ r) (b ++ q) 0 size at also.0 (sym (behind_line line a r) ∙ e ∙ behind_line next b q) in
    absurd (omega (arith, lines.1, also.1))
same_place (in_trailer line a) (in_end next content b) k l limit n m r q few same at also h i e =
    let lines = same_line Size line next (a ++ r) (content ++ (b ++ q)) 0 _ at also.0 (sym (behind_line line a r) ∙ e ∙ end_bytes next content b q) in
    absurd (omega (arith, lines.1, also.1))
same_place (in_trailer line a) (in_trailer next b) k l limit n m r q few same at also h i e =
    let lines = same_line Size line next (a ++ r) (b ++ q) 0 0 at also (sym (behind_line line a r) ∙ e ∙ behind_line next b q) in
    (one_end TrailerLine a b r q k l (as_trailer k limit n line a r h) (as_trailer l limit m next b q i) lines.2, refl)
