use Rattle.sb_server.proofs.Asking.{asks_one, one_failed, desk_failed, asks_in_vain}
use Rattle.sb_server.proofs.gather.gather_desk.Goals as goal

pub returns-in-Err-clause-asks : goal.returns-in-Err-clause-asks
returns-in-Err-clause-asks g c =
    one_failed _ _ _ _ _ c.in-Err.fault (desk_failed c.args.store.now c.in-Err.fault c.in-Err.ensures.fits)
    c.in-Err.ensures.makes

pub returns-in-Ok-new-clause-asks : goal.returns-in-Ok-new-clause-asks
returns-in-Ok-new-clause-asks g c = asks_one _ _ _ _ _ c.in-Ok.desk _ c.in-Ok.ensures.makes

pub returns-in-Err-new-clause-asks : goal.returns-in-Err-new-clause-asks
returns-in-Err-new-clause-asks g c =
    asks_in_vain (Unit {0}) _ _ _ _ tt (asks_one _ _ _ _ _ c.in-Ok.desk tt c.in-Ok.ensures.makes)
