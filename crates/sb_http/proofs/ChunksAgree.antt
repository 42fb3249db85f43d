-- The same bytes are chunks in one way.
use Rattle.std.proofs.Common.{ℕ, ◌≡◌, ◌≤◌, ◌+◌, ◌∙◌, All, List, [], ◌∷◌, ◌++◌, length, ap, sym, refl, arith}
use Rattle.std.proofs.Common.{append_assoc, length-append}
use Rattle.std.proofs.lemmas.List.Elements.{All-head, All-tail}
use Rattle.sb_http.specs.Chunks.{Chunk, IsChunk, IsPlace, Place, content_at, content_of, print_chunk, print_chunks}
use Rattle.sb_http.specs.Chunks.{print_place}
use Rattle.sb_http.proofs.Places.{EndsAt, Kind, chunk_passes, same_chunk, same_place}

-- the reading ended so at a place behind chunks, within the limit
pub record Ended (limit got count : ℕ) (bytes : List ℕ) (chunks : List Chunk) (place : Place) (k : Kind)
    (behind : List ℕ) : Type 0 where
  pub all : All IsChunk chunks
  pub counts : count ≡ got + length (content_of chunks)
  pub fits : count ≤ limit
  pub at : IsPlace limit count place
  pub ends : EndsAt k limit count place behind
  pub parts : bytes ≡ print_chunks chunks ++ (print_place place ++ behind)

chunk_first : (chunk : Chunk) (chunks : List Chunk) (tail : List ℕ)
    → print_chunks (chunk ∷ chunks) ++ tail ≡ print_chunk chunk ++ (print_chunks chunks ++ tail)
chunk_first chunk chunks tail = append_assoc (print_chunk chunk) (print_chunks chunks) tail

counts_more : (got count : ℕ) (chunk : Chunk) (chunks : List Chunk) → count ≡ got + length (content_of (chunk ∷ chunks))
    → count ≡ got + length chunk.content + length (content_of chunks)
counts_more got count chunk chunks e = omega (arith, e, length-append chunk.content (content_of chunks))

not_first : (limit got n m : ℕ) (bytes : List ℕ) (place : Place) (k : Kind) (r : List ℕ) (chunk : Chunk)
    (chunks : List Chunk) (other : Place) (l : Kind) (q : List ℕ)
    → Ended limit got n bytes [] place k r → Ended limit got m bytes (chunk ∷ chunks) other l q → ⊥
not_first limit got n m bytes place k r chunk chunks other l q one two =
    chunk_passes place k limit n r chunk (print_chunks chunks ++ (print_place other ++ q)) one.at one.ends
    (All-head IsChunk chunk chunks two.all)
    (omega (arith, one.counts, counts_more got m chunk chunks two.counts, two.fits))
    (sym one.parts ∙ two.parts ∙ chunk_first chunk chunks (print_place other ++ q))

-- the same bytes are the same chunks, and end at the same place
pub chunks_agree : (limit got n m : ℕ) (bytes : List ℕ) (xs ys : List Chunk) (place other : Place) (k l : Kind)
    (r q : List ℕ) → Ended limit got n bytes xs place k r → Ended limit got m bytes ys other l q
    → (k ≡ l) × (content_of xs ++ content_at place ≡ content_of ys ++ content_at other)
chunks_agree limit got n m bytes [] [] place other k l r q one two =
    same_place place other k l limit n m r q one.fits (one.counts ∙ sym two.counts) one.at two.at one.ends two.ends
    (sym one.parts ∙ two.parts)
chunks_agree limit got n m bytes [] (y ∷ ys) place other k l r q one two =
    absurd (not_first limit got n m bytes place k r y ys other l q one two)
chunks_agree limit got n m bytes (x ∷ xs) [] place other k l r q one two =
    absurd (not_first limit got m n bytes other l q x xs place k r two one)
chunks_agree limit got n m bytes (x ∷ xs) (y ∷ ys) place other k l r q one two =
    let tail = print_chunks xs ++ (print_place place ++ r) in
    let more = print_chunks ys ++ (print_place other ++ q) in
    let first = same_chunk x y tail more (All-head IsChunk x xs one.all) (All-head IsChunk y ys two.all)
    (sym (chunk_first x xs (print_place place ++ r)) ∙ sym one.parts ∙ two.parts ∙ chunk_first y ys (print_place other ++ q)) in
    let len = ap (λ (zs : List ℕ). length zs) first.0 in
    let rest = chunks_agree limit (got + length x.content) n m tail xs ys place other k l r q
    (record {
      all = All-tail IsChunk x xs one.all;
      counts = counts_more got n x xs one.counts;
      fits = one.fits;
      at = one.at;
      ends = one.ends;
      parts = refl;
    })
    (record {
      all = All-tail IsChunk y ys two.all;
      counts = omega (arith, counts_more got m y ys two.counts, len);
      fits = two.fits;
      at = two.at;
      ends = two.ends;
      parts = first.1;
    }) in (
      rest.0,
      append_assoc x.content (content_of xs) (content_at place) ∙ ap (λ zs. zs ++ (content_of xs ++ content_at place)) first.0
          ∙ ap (λ zs. y.content ++ zs) rest.1 ∙ sym (append_assoc y.content (content_of ys) (content_at other)),
    )
