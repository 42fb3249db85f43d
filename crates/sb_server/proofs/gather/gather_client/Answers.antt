use Rattle.std.proofs.Common.{[], ◌∷◌}
use Rattle.sb_world.specs.declared.world.Ask.TheVariants as ask
use Rattle.sb_server.proofs.Asking.{asks_one, one_failed, listener_failed, asks_then, asks_failed, asks_made, asks_in_vain}
use Rattle.sb_server.proofs.gather.gather_client.Goals as goal

pub returns-in-Err-clause-asks : goal.returns-in-Err-clause-asks
returns-in-Err-clause-asks g c =
    asks_failed (Unit {0}) _ _ _ (ask.Listener c.args.address.now c.args.limit ∷ []) (ask.Desk c.args.store.now ∷ [])
    c.in-Err.fault (one_failed _ (Unit {0}) _ _ _ c.in-Err.fault
    (listener_failed c.args.address.now c.args.limit c.in-Err.fault c.in-Err.ensures.fits) c.in-Err.ensures.makes)

pub returns-in-Err-gather_desk-clause-asks : goal.returns-in-Err-gather_desk-clause-asks
returns-in-Err-gather_desk-clause-asks g c =
    let first = asks_one _ (Unit {0}) _ _ _ c.in-Ok.listener tt c.in-Ok.ensures.makes in
    asks_failed _ _ _ _ _ [] c.in-Err-gather_desk.fault
    (asks_then _ _ _ _ _ tt _ first c.in-Err-gather_desk.ensures.asks)

pub returns-in-Ok-new-clause-asks : goal.returns-in-Ok-new-clause-asks
returns-in-Ok-new-clause-asks g c =
    let first = asks_one _ (Unit {0}) _ _ _ c.in-Ok.listener tt c.in-Ok.ensures.makes in
    asks_made _ _ _ _ _ c.in-Ok-gather_desk.desk _ (asks_then _ _ _ _ _ tt _ first c.in-Ok-gather_desk.ensures.asks)

pub returns-in-Err-new-clause-asks : goal.returns-in-Err-new-clause-asks
returns-in-Err-new-clause-asks g c =
    let first = asks_one _ (Unit {0}) _ _ _ c.in-Ok.listener tt c.in-Ok.ensures.makes in
    asks_in_vain _ _ _ _ _ c.in-Ok-gather_desk.desk
    (asks_then _ _ _ _ _ tt _ first c.in-Ok-gather_desk.ensures.asks)
