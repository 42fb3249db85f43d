use Rattle.sb_nbd.proofs.RequestParts.{fields_stop, payload_stops}
use Rattle.sb_nbd.proofs.request.read_request.Goals as goal

pub returns-in-Err-read_fields-clause-told : goal.returns-in-Err-read_fields-clause-told
returns-in-Err-read_fields-clause-told g c =
    fields_stop _ _ _ _ c.in-Ok.ensures.told c.in-Err-read_fields.ensures.told

pub returns-in-Err-read_payload-clause-told : goal.returns-in-Err-read_payload-clause-told
returns-in-Err-read_payload-clause-told g c =
    payload_stops _ _ _ _ _ _ _ c.in-Ok.ensures.told c.in-Ok-read_fields.ensures.told
    c.in-Err-read_payload.ensures.told
