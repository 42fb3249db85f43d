use Rattle.sb_http.proofs.RequestsSent.{answered}
use Rattle.sb_http.proofs.exchanging.exchange.Goals as goal

pub returns-clause-told : goal.returns-clause-told
returns-clause-told g c =
    answered c.args.bodiless c.args.limit _ _ _ _ _ _ _ c.read_response.result c.in-Ok.ensures.told
    c.new-window.ensures c.read_response.ensures.told
