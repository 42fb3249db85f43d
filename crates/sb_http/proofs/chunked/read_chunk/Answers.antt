use Rattle.std.proofs.Common.{arith}
use Rattle.sb_http.proofs.ChunksRead.{cut_in_content, stops_in_content, stops_in_end, stops_in_size, stops_long}
use Rattle.sb_http.proofs.ChunksRead.{whole_chunk}
use Rattle.sb_http.proofs.chunked.read_chunk.Goals as goal

pub returns-in-Err-clause-told : goal.returns-in-Err-clause-told
returns-in-Err-clause-told g c = stops_in_size _ _ _ _ _ c.args.limit c.args.got c.in-Err.fault c.in-Err.ensures.told

pub returns-then-size-limit-clause-told : goal.returns-then-size-limit-clause-told
returns-then-size-limit-clause-told g c =
    let told = c.in-Ok.ensures.told in
    stops_long c.args.room.now.items c.args.limit c.args.got c.in-Ok.size told.0 told.2 told.1 (omega
    (arith, c.if-size-limit.true, c.requires))

pub returns-in-Err-take_into-clause-told : goal.returns-in-Err-take_into-clause-told
returns-in-Err-take_into-clause-told g c =
    let told = c.in-Ok.ensures.told in
    stops_in_content _ _ c.args.limit c.args.got c.in-Ok.size told.0 c.in-Err-take_into.fault told.2
    (omega (arith, c.if-size-eq0.false))
    (omega (arith, c.if-size-limit.false, c.requires)) told.1 c.in-Err-take_into.ensures.told

pub returns-then-came-size-clause-told : goal.returns-then-came-size-clause-told
returns-then-came-size-clause-told g c =
    let told = c.in-Ok.ensures.told in
    cut_in_content _ _ c.args.limit c.args.got c.in-Ok.size _ told.0 told.2
    (omega (arith, c.if-size-eq0.false))
    (omega (arith, c.if-size-limit.false, c.requires)) told.1 c.if-came-size.true c.in-Ok-take_into.ensures.told

pub returns-in-Ok-read_line-clause-told : goal.returns-in-Ok-read_line-clause-told
returns-in-Ok-read_line-clause-told g c =
    let told = c.in-Ok.ensures.told in
    whole_chunk _ _ c.args.limit c.args.got c.in-Ok.size _ _ told.0 told.2
    (omega (arith, c.if-size-eq0.false))
    (omega (arith, c.if-size-limit.false, c.requires)) told.1 c.if-came-size.false c.in-Ok-take_into.ensures.told
    c.in-Ok-read_line.ensures.told

pub returns-in-Err-read_line-clause-told : goal.returns-in-Err-read_line-clause-told
returns-in-Err-read_line-clause-told g c =
    let told = c.in-Ok.ensures.told in
    stops_in_end _ _ _ c.args.limit c.args.got c.in-Ok.size _ told.0 c.in-Err-read_line.fault told.2
    (omega (arith, c.if-size-eq0.false))
    (omega (arith, c.if-size-limit.false, c.requires)) told.1 c.if-came-size.false c.in-Ok-take_into.ensures.told
    c.in-Err-read_line.ensures.told
