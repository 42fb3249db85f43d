use Rattle.std.proofs.Common.{rules, arith, ◌≡◌, [], ◌∷◌, ◌++◌, All, refl, sym, subst}
use Rattle.std.proofs.lemmas.List.Elements.{All-push}
use Rattle.test_turns.specs.declared.worker.Worker.{Worker}
use Rattle.test_turns.specs.Workers.{IsReady, HasTask}
use Rattle.test_turns.proofs.crowd.crew_of.Goals as goal

pub loop-preserved : goal.loop-preserved
loop-preserved g c = let ready = IsReady c.args.turn.now in let task = HasTask c.args.turns in let before =
    c.loop.crew.items in
    let worker : Worker = record { pass = c.split-pass.result; amount = 1; turns = c.args.turns } in
    let gained : c.push.new.self.items ≡ before ++ worker ∷ [] = search rules in
    let new_is_ready : ready worker = search rules in (
      search rules,
      search rules,
      search rules,
      subst (All ready) (sym gained) (All-push ready before worker c.loop.invariant.3 new_is_ready),
      grind arith,
      subst (All task) (sym gained) (All-push task before worker c.loop.invariant.5 (refl, refl)),
    )
