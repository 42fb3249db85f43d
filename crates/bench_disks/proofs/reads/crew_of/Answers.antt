use Rattle.std.proofs.Common.{rules, ◌≡◌, All, [], ◌∷◌, ◌++◌, sym, subst}
use Rattle.std.proofs.lemmas.List.Elements.{All-push}
use Rattle.bench_disks.specs.Callers.{MayCall}
use Rattle.bench_disks.proofs.reads.crew_of.Goals as goal

-- the pass may go on behind a split, and the caller that was made may call
pub callers-preserved : goal.callers-preserved
callers-preserved g c = let may = MayCall c.args.disk.now in let before = c.callers.crew.items in
    let caller = c.in_ok-caller_over.field-0 in
    let gained : c.push.new.self.items ≡ before ++ caller ∷ [] = search rules in
    let may_call : may caller = search rules in record {
      pass = search rules;
      crew = subst (All may) (sym gained) (All-push may before caller c.callers.invariant.crew may_call);
    }
