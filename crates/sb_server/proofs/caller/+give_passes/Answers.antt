use Rattle.std.proofs.Common.{List, ◌∷◌, Some, sym, subst}
use Rattle.sb_server.specs.declared.caller.Caller.{Caller}
use Rattle.sb_server.specs.Callers.{GotPasses}
use Rattle.sb_server.proofs.Calling.{got_one}
use Rattle.sb_server.proofs.caller.+give_passes.Goals as goal

pub returns-in-Some : goal.returns-in-Some
returns-in-Some g t c =
    let X = Caller g.row.T.Denot in
    let disk = c.args.disk.now in
    subst (λ (olds : List X). GotPasses disk c.args.pass.now c.give_passes.new.pass olds
    (record { tools = c.in-Some.caller.now.tools; pass = Some c.split.result } ∷ c.give_passes.new.callers))
    (sym c.in-Some.ensures.cases.0)
    (got_one c.args.pass.now c.split.new.pass c.split.result c.give_passes.new.pass c.in-Some.caller.now
    c.in-Some.others.now c.give_passes.new.callers c.split.ensures.pass.1 c.split.ensures.number.0 c.split.ensures.new.0
    c.split.ensures.new.1 c.give_passes.ensures)
