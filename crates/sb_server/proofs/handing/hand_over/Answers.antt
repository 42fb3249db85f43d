use Rattle.sb_server.proofs.Heard.{hands_both}
use Rattle.sb_server.proofs.handing.hand_over.Goals as goal

pub returns : goal.returns
returns g c = hands_both _ _ _ _ _ c.hand_clients.ensures c.hand_workers.ensures
