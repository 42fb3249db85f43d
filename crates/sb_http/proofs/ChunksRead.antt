-- How the parts of a chunk join.
use Rattle.std.proofs.Common.{ℕ, ◌≡◌, ◌≤◌, ◌<◌, ◌+◌, ◌∙◌, Bool, true, false, List, [], ◌++◌, length, Option, Some, None}
use Rattle.std.proofs.Common.{Ok, Err, sym, subst, refl, arith, add-zero, append-nil, append_assoc}
use Rattle.sb_world.specs.declared.wire.Connection.{Connection}
use Rattle.sb_http.specs.declared.line.Line.{Line}
use Rattle.sb_http.specs.declared.line.Line.TheVariants.{Size, ChunkEnd}
use Rattle.sb_http.specs.declared.fault.HttpFault.{HttpFault}
use Rattle.sb_http.specs.declared.fault.HttpFault.TheVariants.{WireFault, HeadCut, HeadTooLong, BadHead, TooManyHeaders}
use Rattle.sb_http.specs.declared.fault.HttpFault.TheVariants.{BadLength, BodyCut, BadChunk, TooLong, Memory}
use Rattle.sb_http.specs.Lines.{IsLine, IsBadLine, IsCutLine, ReadsLine}
use Rattle.sb_http.specs.Takings.{Takes, IsOutside, TakesInto}
use Rattle.sb_http.specs.Chunks.{Chunk, EndsChunks, ReadsChunk, StopsAt, IsBad, IsCut, Place, content_at, in_size}
use Rattle.sb_http.specs.Chunks.{in_content, in_end}
use Rattle.sb_http.proofs.TakingsJoined.{takes_both}

-- a fault from outside ends the reading anywhere
pub outside_ends : (limit got : ℕ) (place : Place) (left : List ℕ) (fault : HttpFault) → IsOutside fault
    → EndsChunks limit got place left false (Err fault)
outside_ends limit got place left WireFault outside = (tt, refl)
outside_ends limit got place left (HeadCut count) outside = absurd outside
outside_ends limit got place left HeadTooLong outside = absurd outside
outside_ends limit got place left BadHead outside = absurd outside
outside_ends limit got place left TooManyHeaders outside = absurd outside
outside_ends limit got place left (BadLength text) outside = absurd outside
outside_ends limit got place left (BodyCut want count) outside = absurd outside
outside_ends limit got place left (BadChunk count) outside = absurd outside
outside_ends limit got place left (TooLong bound) outside = absurd outside
outside_ends limit got place left Memory outside = (tt, refl)

-- a line that ended the reading, at the place that these bytes reach
pub line_ends : (before now : Option (List Connection)) (ahead left : List ℕ) (line : Line) (limit got : ℕ)
    (place : List ℕ → Place) (fault : HttpFault)
    → ((bytes : List ℕ) → IsBadLine line bytes → IsBad (place bytes)) → ((bytes : List ℕ) → IsCutLine line bytes
    → IsCut (place bytes))
    → ReadsLine before now ahead left line got (Err fault)
    → (bytes : List ℕ) × (ended : Bool) × Takes before now ahead left bytes ended
    × EndsChunks limit got (place bytes) left ended (Err fault)
line_ends before now ahead left line limit got place (BadChunk count) bad cut told =
    (told.0, false, told.1, (bad told.0 told.2, told.3, refl))
line_ends before now ahead left line limit got place (BodyCut want count) bad cut told =
    (told.0, true, told.1, (cut told.0 told.2, told.4, told.3, told.5, refl))
line_ends before now ahead left line limit got place WireFault bad cut told = (told.1, false, told.2, (tt, refl))
line_ends before now ahead left line limit got place Memory bad cut told = (told.1, false, told.2, (tt, refl))
line_ends before now ahead left line limit got place (HeadCut count) bad cut told = absurd told.0
line_ends before now ahead left line limit got place HeadTooLong bad cut told = absurd told.0
line_ends before now ahead left line limit got place BadHead bad cut told = absurd told.0
line_ends before now ahead left line limit got place TooManyHeaders bad cut told = absurd told.0
line_ends before now ahead left line limit got place (BadLength text) bad cut told = absurd told.0
line_ends before now ahead left line limit got place (TooLong bound) bad cut told = absurd told.0

-- the reading ended in a size line
pub stops_in_size : (before now : Option (List Connection)) (ahead left room : List ℕ) (limit got : ℕ)
    (fault : HttpFault)
    → ReadsLine before now ahead left Size got (Err fault) → StopsAt before now ahead room room limit got (Err fault)
stops_in_size before now ahead left room limit got fault told =
    let e : got ≡ got + length {A = ℕ} [] = sym (add-zero got) in
    let told : ReadsLine before now ahead left Size (got + length {A = ℕ} [])
    (Err fault) = subst (λ n. ReadsLine before now ahead left Size n (Err fault)) e told in
    let stop = line_ends before now ahead left Size limit (got + length {A = ℕ} []) in_size fault (λ bytes h. h)
    (λ bytes h. h) told in
    record {
      place = in_size stop.0;
      left = left;
      ended = stop.1;
      takes = stop.2;
      room = sym (append-nil room);
      reached = tt;
      ends = stop.3;
    }

-- the size is too much
pub stops_long : {before now : Option (List Connection)} {ahead left : List ℕ} (room : List ℕ) (limit got size : ℕ)
    (line : List ℕ)
    → IsLine Size line size → Takes before now ahead left line false → limit < got + size
    → StopsAt before now ahead room room limit got (Err (TooLong limit))
stops_long {left} room limit got size line is takes over = record {
  place = in_size line;
  left = left;
  ended = false;
  takes = takes;
  room = sym (append-nil room);
  reached = tt;
  ends = ((size, is, omega (arith, over)), refl, refl);
}

-- the reading ended in what a chunk carries, by a fault from outside
pub stops_in_content : {a b c : Option (List Connection)} {p q r : List ℕ} (old new : List ℕ) (limit got size : ℕ)
    (line : List ℕ) (fault : HttpFault)
    → IsLine Size line size → 0 < size → got + size ≤ limit → Takes a b p q line false
    → TakesInto b c q r old new size (Err fault) → StopsAt a c p old new limit got (Err fault)
stops_in_content {r} old new limit got size line fault is some fits takes told =
    let place = in_content line size told.1 in
    record {
      place = place;
      left = r;
      ended = false;
      takes = takes_both takes told.4;
      room = told.3;
      reached = (is, some, fits, told.2);
      ends = outside_ends limit (got + length (content_at place)) place r fault told.0;
    }

-- the input ended in what a chunk carries
pub cut_in_content : {a b c : Option (List Connection)} {p q r : List ℕ} (old new : List ℕ) (limit got size came : ℕ)
    (line : List ℕ)
    → IsLine Size line size → 0 < size → got + size ≤ limit → Takes a b p q line false → came < size
    → TakesInto b c q r old new size (Ok came) → StopsAt a c p old new limit got (Err (BodyCut None (got + came)))
cut_in_content {r} old new limit got size came line is some fits takes short told =
    let bytes = told.1 in
    let end = told.6 short in
    record {
      place = in_content line size bytes;
      left = r;
      ended = told.4;
      takes = takes_both takes told.5;
      room = told.3;
      reached = (is, some, fits, omega (arith, told.2, short));
      ends = (omega (arith, told.2, short), refl, omega (arith, told.2), end.0, end.1);
    }

-- the line of a chunk and what it carries, in whole
pub carries : {a b c : Option (List Connection)} {p q r : List ℕ} (old new : List ℕ) (size came : ℕ) (line : List ℕ)
    → Takes a b p q line false → size ≤ came → TakesInto b c q r old new size (Ok came)
    → (content : List ℕ) × (length content ≡ size) × (new ≡ old ++ content) × Takes a c p r (line ++ content) false
carries {a} {c} {p} {r} old new size came line takes whole told =
    let same : came ≡ size = omega (arith, whole, told.0) in
    let both = takes_both takes told.5 in
    (told.1, told.2 ∙ same, told.3, subst (λ ended. Takes a c p r (line ++ told.1) ended) (told.7 same) both)

-- the reading ended in the line end of a chunk
pub stops_in_end : {a b c d : Option (List Connection)} {p q r : List ℕ} (s old new : List ℕ)
    (limit got size came : ℕ) (line : List ℕ) (fault : HttpFault)
    → IsLine Size line size → 0 < size → got + size ≤ limit → Takes a b p q line false → size ≤ came
    → TakesInto b c q r old new size (Ok came) → ReadsLine c d r s ChunkEnd (got + size) (Err fault)
    → StopsAt a d p old new limit got (Err fault)
stops_in_end {a} {c} {d} {p} {r} s old new limit got size came line fault is some fits takes whole told ends =
    let carried = carries old new size came line takes whole told in
    let content = carried.0 in
    let as_far : got + size ≡ got + length content = omega (arith, carried.1) in
    let line_is : IsLine Size line (length content) = subst (λ n. IsLine Size line n) (sym carried.1) is in
    let told : ReadsLine c d r s ChunkEnd (got + length content)
    (Err fault) = subst (λ n. ReadsLine c d r s ChunkEnd n (Err fault)) as_far ends in
    let stop = line_ends c d r s ChunkEnd limit (got + length content) (in_end line content) fault (λ bytes h. h)
    (λ bytes h. h) told in
    record {
      place = in_end line content stop.0;
      left = s;
      ended = stop.1;
      takes = subst (λ bytes. Takes a d p s bytes stop.1) (append_assoc line content stop.0)
          (takes_both carried.3 stop.2);
      room = carried.2;
      reached = (line_is, omega (arith, carried.1, some), omega (arith, carried.1, fits));
      ends = stop.3;
    }

-- a whole chunk
pub whole_chunk : {a b c d : Option (List Connection)} {p q r s : List ℕ} (old new : List ℕ)
    (limit got size came end : ℕ) (line : List ℕ)
    → IsLine Size line size → 0 < size → got + size ≤ limit → Takes a b p q line false → size ≤ came
    → TakesInto b c q r old new size (Ok came) → ReadsLine c d r s ChunkEnd (got + size) (Ok end)
    → ReadsChunk a d p s old new limit got (Ok (Some size))
whole_chunk {a} {c} {d} {p} {r} {s} old new limit got size came end line is some fits takes whole told ends =
    let carried = carries old new size came line takes whole told in
    let content = carried.0 in
    let chunk : Chunk = record { line = line; content = content; end = ends.0 } in (
      chunk,
      record {
        line = subst (λ n. IsLine Size line n) (sym carried.1) is;
        some = omega (arith, carried.1, some);
        end = (end, ends.2);
      },
      carried.1,
      fits,
      subst (λ bytes. Takes a d p s bytes false) (append_assoc line content ends.0) (takes_both carried.3 ends.1),
      carried.2,
    )
