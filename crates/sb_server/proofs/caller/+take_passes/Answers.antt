use Rattle.std.proofs.Common.{List, ◌∷◌, refl, sym, subst}
use Rattle.std.specs.List.{AllByRecursion}
use Rattle.sb_server.specs.declared.caller.Caller.{Caller}
use Rattle.sb_server.specs.Callers.{HasPass, TookPasses}
use Rattle.sb_server.proofs.Calling.{took_one}
use Rattle.sb_server.proofs.caller.+take_passes.Goals as goal

pub returns-in-Some-take : goal.returns-in-Some-take
returns-in-Some-take g t c =
    let X = Caller g.row.T.Denot in
    let disk = c.args.disk.now in
    let old = c.in-Some.caller.now in
    let new : X = record { tools = old.tools; pass = c.take.new.self } in
    let have = subst (λ (olds : List X). AllByRecursion (HasPass disk) olds) c.in-Some.ensures.cases.0 c.requires.have in
    subst (λ (olds : List X). TookPasses disk c.args.pass.now c.take_passes.new.pass olds
    (new ∷ c.take_passes.new.callers)) (sym c.in-Some.ensures.cases.0)
    (took_one c.args.pass.now c.in-Some-take.theirs c.join.new.pass c.take_passes.new.pass old new
    c.in-Some.others.now c.take_passes.new.callers have.0 (sym c.in-Some-take.ensures.value) refl
    c.join.ensures.pass.1 c.take_passes.ensures)
