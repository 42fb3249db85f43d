use Rattle.sb_core.proofs.KeptPuts.{kept}
use Rattle.sb_core.proofs.trials.writes_zeros.Goals as goal

pub returns-in-Done-clause-open : goal.returns-in-Done-clause-open
returns-in-Done-clause-open c =
    kept c.args.core.now c.zero.new.self c.args.opened.now c.zero.ensures.open c.requires.open

pub returns-in-Wait-clause-open : goal.returns-in-Wait-clause-open
returns-in-Wait-clause-open c =
    kept c.args.core.now c.zero.new.self c.args.opened.now c.zero.ensures.open c.requires.open

pub returns-in-Dropped-clause-open : goal.returns-in-Dropped-clause-open
returns-in-Dropped-clause-open c =
    kept c.args.core.now c.zero.new.self c.args.opened.now c.zero.ensures.open c.requires.open
