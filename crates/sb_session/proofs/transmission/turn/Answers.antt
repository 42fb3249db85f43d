use Rattle.std.proofs.Common.{rules}
use Rattle.sb_nbd.specs.RequestReading.{request_in}
use Rattle.sb_session.proofs.Turning.{reading_stops, disc_stops, serves_one, writing_stops}
use Rattle.sb_session.proofs.transmission.turn.Goals as goal

pub returns-in-Err-clause-told : goal.returns-in-Err-clause-told
returns-in-Err-clause-told g c =
    let stops = reading_stops _ _ _ _ _ _ c.in-Err.end
    (g.D.Calls.did_nothing c.args.disk.now c.args.desk.now) c.in-Err.ensures.told in
    rw c.session_end.ensures stops

pub returns-then-wanted-eq-DISC-clause-told : goal.returns-then-wanted-eq-DISC-clause-told
returns-then-wanted-eq-DISC-clause-told g c =
    let told = c.in-Ok.ensures.told in
    disc_stops _ _ _ _ _ _ (request_in c.in-Ok.wanted c.read_request.new.room)
    (g.D.Calls.did_nothing c.args.disk.now c.args.desk.now) told.0 (search rules) told.1

pub returns-in-Ok-write_reply-clause-told : goal.returns-in-Ok-write_reply-clause-told
returns-in-Ok-write_reply-clause-told g c =
    let told = c.in-Ok.ensures.told in
    serves_one _ _ _ _ _ _ _ (request_in c.in-Ok.wanted c.read_request.new.room) _ _ told.0
    (search rules) c.perform-answer.ensures.told told.1 c.in-Ok-write_reply.ensures.told

pub returns-in-Err-write_reply-clause-told : goal.returns-in-Err-write_reply-clause-told
returns-in-Err-write_reply-clause-told g c =
    let told = c.in-Ok.ensures.told in
    writing_stops _ _ _ _ _ _ _ (request_in c.in-Ok.wanted c.read_request.new.room) _ _
    c.in-Err-write_reply.field-0 told.0
    (search rules) c.perform-answer.ensures.told told.1 c.in-Err-write_reply.ensures.told
