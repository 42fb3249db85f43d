use Rattle.sb_nbd.proofs.OptionParts.{head_stops, payload_stops}
use Rattle.sb_nbd.proofs.option.read_option.Goals as goal

pub returns-in-Err-read_head-clause-told : goal.returns-in-Err-read_head-clause-told
returns-in-Err-read_head-clause-told g c = head_stops _ _ _ _ c.in-Ok.ensures.told c.in-Err-read_head.ensures.told

pub returns-in-Err-read_payload-clause-told : goal.returns-in-Err-read_payload-clause-told
returns-in-Err-read_payload-clause-told g c =
    payload_stops _ _ _ _ _ _ _ c.in-Ok.ensures.told c.in-Ok-read_head.ensures.told c.in-Err-read_payload.ensures.told
