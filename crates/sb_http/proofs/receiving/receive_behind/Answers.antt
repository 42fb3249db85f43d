use Rattle.std.proofs.Common.{rules}
use Rattle.std.proofs.lemmas.Slice.{overwrites}
use Rattle.sb_http.proofs.FilledVectors.{received_behind}
use Rattle.sb_http.proofs.receiving.receive_behind.Goals as goal

pub returns-clause-told : goal.returns-clause-told
returns-clause-told g c =
    received_behind _ _ c.args.start c.args.out.now c.receive.new.out c.receive.result c.requires (search
    (rules, overwrites)) c.receive.ensures.told
