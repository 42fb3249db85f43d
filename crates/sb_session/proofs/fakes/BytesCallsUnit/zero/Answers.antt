use Rattle.std.proofs.Common.{refl, true, ◌∙◌, ap, [], ◌∷◌, None, false, arith}
use Rattle.sb_base.specs.declared.entry.EntryKind.TheVariants as kind
use Rattle.sb_base.specs.declared.entry.Shown.TheVariants as shown
use Rattle.sb_world.specs.declared.link.Call.TheVariants as call
use Rattle.sb_world.specs.declared.link.GetReply.TheVariants as get
use Rattle.sb_history.specs.Contents.{zeros}
use Rattle.sb_crew.specs.Bases.{Base}
use Rattle.sb_crew.specs.Answers.{call_fault}
use Rattle.sb_crew.specs.Scenes.{deed_of}
use Rattle.sb_crew.specs.Outcomes.{WriteDone}
use Rattle.sb_crew.proofs.Requesting.{fails_by, reaches_by}
use Rattle.sb_session.proofs.fakes.BytesCallsUnit.zero.Goals as goal

pub returns-in-None-clause-did : goal.returns-in-None-clause-did
returns-in-None-clause-did c = record {
  deed = deed_of (record { pass = 1; reading = 0; kind = kind.Write c.args.part (zeros c.args.part.length) } ∷ []) [] [];
  done = tt;
  ends = record { met = refl; reached = tt; none_fail = ((λ fails. fails), tt) };
  asks = record { asked = tt };
}

pub returns-in-Some-clause-did : goal.returns-in-Some-clause-did
returns-in-Some-clause-did c =
    let base : Base = record { geometry = c.args.self.now.geometry; settings = c.args.self.now.settings; alone = true } in
    let failed = c.from.ensures ∙ ap call_fault c.fault_for.ensures in
    record {
      deed = deed_of (record { pass = 1; reading = 0; kind = kind.GetEnd c.args.part.block shown.Failed None false } ∷ [])
          (call.Get [] None (get.Fault c.in-Some.fault) ∷ []) [];
      done = tt;
      ends = record {
        missing = WriteDone c.args.part (zeros c.args.part.length) ∷ [];
        some = omega arith;
        met = refl;
        reached = reaches_by c.in-Some.fault c.from.result [] failed tt;
        cause = fails_by base c.in-Some.fault c.from.result _ [] _ [] [] failed tt refl tt;
      };
      asks = record { asked = tt };
    }
