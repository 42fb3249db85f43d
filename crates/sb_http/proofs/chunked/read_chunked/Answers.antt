use Rattle.std.proofs.Common.{[], arith, append-nil, sym, refl}
use Rattle.std.proofs.lemmas.List.Elements.{All-nil}
use Rattle.sb_http.specs.Chunks.{IsChunk}
use Rattle.sb_http.proofs.TakingsJoined.{takes_nothing}
use Rattle.sb_http.proofs.ChunkedBodies.{next_stops, one_more, trailer_stops, whole_body}
use Rattle.sb_http.proofs.chunked.read_chunked.Goals as goal

pub chunks-init : goal.chunks-init
chunks-init g c = (
  [],
  record {
    all = All-nil IsChunk;
    count = refl;
    fits = omega arith;
    room = sym (append-nil _);
    takes = takes_nothing _ _;
  },
  omega arith,
)

pub chunks-preserved : goal.chunks-preserved
chunks-preserved g c =
    let before = c.chunks.invariant in
    let told = rw c.in-Ok-Some.field-0-is at c.in-Ok-Some.ensures.told in
    let more = one_more _ _ _ _ _ _ _ _ _ c.args.limit c.chunks.got _ before.0 before.1 told in
    (more.0, more.1, omega (arith, before.2, c.in-Ok-Some.ensures.cause.later))

pub returns-in-Ok-clause-told : goal.returns-in-Ok-clause-told
returns-in-Ok-clause-told g c =
    let before = c.chunks.invariant in
    let last = rw c.in-Ok-None.field-0-is at c.in-Ok-None.ensures.told in
    whole_body _ _ _ _ _ _ _ _ _ _ _ c.args.limit c.chunks.got _ before.0 before.1 last c.in-Ok.ensures.told

pub returns-in-Err-read_line-clause-told : goal.returns-in-Err-read_line-clause-told
returns-in-Err-read_line-clause-told g c =
    let before = c.chunks.invariant in
    let last = rw c.in-Ok-None.field-0-is at c.in-Ok-None.ensures.told in
    trailer_stops _ _ _ _ _ _ _ _ _ _ _ c.args.limit c.chunks.got before.0 c.in-Err-read_line.fault before.1 last
    c.in-Err-read_line.ensures.told

pub returns-in-Err-clause-told : goal.returns-in-Err-clause-told
returns-in-Err-clause-told g c =
    let before = c.chunks.invariant in
    next_stops _ _ _ _ _ _ _ _ c.args.limit c.chunks.got before.0 c.in-Err.fault before.1 c.in-Err.ensures.told
