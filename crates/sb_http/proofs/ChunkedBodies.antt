-- How chunks join to a body.
use Rattle.std.proofs.Common.{ℕ, ◌≡◌, ◌≤◌, ◌+◌, ◌∙◌, false, All, List, [], ◌∷◌, ◌++◌, length, Option, Some, None, Ok}
use Rattle.std.proofs.Common.{Err, ap, sym, subst, refl, arith, append-nil, append_assoc, length-append, add-zero}
use Rattle.std.proofs.lemmas.Grind.{flat_map-append}
use Rattle.std.proofs.lemmas.List.Elements.{All-append, All-cons, All-nil}
use Rattle.sb_world.specs.declared.wire.Connection.{Connection}
use Rattle.sb_http.specs.declared.line.Line.TheVariants.{TrailerLine}
use Rattle.sb_http.specs.declared.framing.Framing.TheVariants.{Chunked}
use Rattle.sb_http.specs.declared.fault.HttpFault.{HttpFault}
use Rattle.sb_http.specs.Lines.{ReadsLine}
use Rattle.sb_http.specs.Takings.{Takes}
use Rattle.sb_http.specs.Chunks.{Chunk, IsChunk, content_of, content_at, print_chunk, print_chunks, print_place}
use Rattle.sb_http.specs.Chunks.{in_trailer, ReadsChunk, StopsAt, IsPlace, EndsChunks}
use Rattle.sb_http.specs.Bodies.{ReadsBody}
use Rattle.sb_http.proofs.TakingsJoined.{takes_both}
use Rattle.sb_http.proofs.ChunksRead.{line_ends}

-- whole chunks were read behind the old bytes
pub record Reads (a b : Option (List Connection)) (p q old mid : List ℕ) (limit got : ℕ)
    (chunks : List Chunk) : Type 0 where
  pub all : All IsChunk chunks
  pub count : length (content_of chunks) ≡ got
  pub fits : got ≤ limit
  pub room : mid ≡ old ++ content_of chunks
  pub takes : Takes a b p q (print_chunks chunks) false

pub content_more : (chunks : List Chunk) (chunk : Chunk)
    → content_of (chunks ++ chunk ∷ []) ≡ content_of chunks ++ chunk.content
content_more chunks chunk = flat_map-append (λ c. c.content) chunks (chunk ∷ []) ∙ ap (λ ys. content_of chunks ++ ys)
    (append-nil chunk.content)

pub print_more : (chunks : List Chunk) (chunk : Chunk)
    → print_chunks (chunks ++ chunk ∷ []) ≡ print_chunks chunks ++ print_chunk chunk
print_more chunks chunk = flat_map-append print_chunk chunks (chunk ∷ []) ∙ ap (λ ys. print_chunks chunks ++ ys)
    (append-nil (print_chunk chunk))

-- one chunk more
pub one_more : (a b c : Option (List Connection)) (p q r old mid new : List ℕ) (limit got size : ℕ)
    (chunks : List Chunk)
    → Reads a b p q old mid limit got chunks → ReadsChunk b c q r mid new limit got (Ok (Some size))
    → (more : List Chunk) × Reads a c p r old new limit (got + size) more
one_more a b c p q r old mid new limit got size chunks before told =
    let chunk = told.0 in (
      chunks ++ chunk ∷ [],
      record {
        all = All-append IsChunk chunks (chunk ∷ []) before.all (All-cons IsChunk chunk [] told.1 (All-nil IsChunk));
        count = ap (λ (xs : List ℕ). length xs)
            (content_more chunks chunk)
            ∙ omega (arith, length-append (content_of chunks) chunk.content, before.count, told.2);
        fits = told.3;
        room = told.5 ∙ ap (λ xs. xs ++ chunk.content) before.room ∙ append_assoc old (content_of chunks) chunk.content
            ∙ ap (λ xs. old ++ xs) (sym (content_more chunks chunk));
        takes = subst (λ bytes. Takes a c p r bytes false) (sym (print_more chunks chunk))
            (takes_both before.takes told.4);
      },
    )

-- the reading ended in the next chunk
pub next_stops : (a b c : Option (List Connection)) (p q old mid new : List ℕ) (limit got : ℕ) (chunks : List Chunk)
    (fault : HttpFault)
    → Reads a b p q old mid limit got chunks → StopsAt b c q mid new limit got (Err fault)
    → ReadsBody Chunked limit a c p old new (Err fault)
next_stops a b c p q old mid new limit got chunks fault before stop = record {
  taken = print_chunks chunks ++ print_place stop.place;
  content = content_of chunks ++ content_at stop.place;
  left = stop.left;
  ended = stop.ended;
  takes = takes_both before.takes stop.takes;
  room = stop.room ∙ ap (λ xs. xs ++ content_at stop.place) before.room ∙ append_assoc old (content_of chunks)
      (content_at stop.place);
  body = record {
    chunks = chunks;
    place = stop.place;
    all = before.all;
    fits = omega (arith, before.count, before.fits);
    reached = subst (λ n. IsPlace limit n stop.place) (sym before.count) stop.reached;
    bytes = refl;
    carried = refl;
    ends = subst (λ n. EndsChunks limit (n + length (content_at stop.place)) stop.place stop.left stop.ended
        (Err fault)) (sym before.count) stop.ends;
  };
}

-- the reading ended in the trailer
pub trailer_stops : (a b c d : Option (List Connection)) (p q r s old mid new : List ℕ) (limit got : ℕ)
    (chunks : List Chunk) (fault : HttpFault)
    → Reads a b p q old mid limit got chunks → ReadsChunk b c q r mid new limit got (Ok None)
    → ReadsLine c d r s TrailerLine got (Err fault) → ReadsBody Chunked limit a d p old new (Err fault)
trailer_stops a b c d p q r s old mid new limit got chunks fault before last told =
    let line = last.0 in
    let stop = line_ends c d r s TrailerLine limit got (in_trailer line) fault (λ bytes h. h) (λ bytes h. h) told in
    let stopped : StopsAt b d q mid new limit got (Err fault) = record {
      place = in_trailer line stop.0;
      left = s;
      ended = stop.1;
      takes = takes_both last.2 stop.2;
      room = last.3 ∙ sym (append-nil mid);
      reached = last.1;
      ends = subst (λ n. EndsChunks limit n (in_trailer line stop.0) s stop.1 (Err fault)) (sym (add-zero got)) stop.3;
    } in
    next_stops a b d p q old mid new limit got chunks fault before stopped

-- the trailer came to its end
pub whole_body : (a b c d : Option (List Connection)) (p q r s old mid new : List ℕ) (limit got end : ℕ)
    (chunks : List Chunk)
    → Reads a b p q old mid limit got chunks → ReadsChunk b c q r mid new limit got (Ok None)
    → ReadsLine c d r s TrailerLine got (Ok end) → ReadsBody Chunked limit a d p old new (Ok got)
whole_body a b c d p q r s old mid new limit got end chunks before last told =
    let line = last.0 in record {
      taken = print_chunks chunks ++ (line ++ told.0);
      content = content_of chunks ++ [];
      left = s;
      ended = false;
      takes = takes_both before.takes (takes_both last.2 told.1);
      room = last.3 ∙ before.room ∙ ap (λ xs. old ++ xs) (sym (append-nil (content_of chunks)));
      body = record {
        chunks = chunks;
        place = in_trailer line told.0;
        all = before.all;
        fits = omega (arith, before.count, before.fits);
        reached = last.1;
        bytes = refl;
        carried = refl;
        ends = ((end, told.2), omega (arith, before.count), refl);
      };
    }
