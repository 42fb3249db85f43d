use Rattle.std.proofs.Common.{◌∙◌, ap, refl, inl, inr}
use Rattle.sb_base.specs.declared.geometry.Geometry.{Geometry}
use Rattle.sb_session.specs.Haggling.{export_of}
use Rattle.sb_session.proofs.Opening.{served}
use Rattle.sb_session.proofs.serving.serve.Goals as goal

pub returns-in-Ok-clause-told : goal.returns-in-Ok-clause-told
returns-in-Ok-clause-told g c =
    let is = c.export_of-export.ensures
    ∙ ap (λ (geometry : Geometry). export_of geometry c.args.read_only) c.geometry.ensures in
    let opened = rw is at c.in-Ok.ensures.told in
    let ends = c.transmit.ensures.told in
    record {
      deed = _;
      done = ends.stopped.done;
      course = inr (served _ _ _ _ _ _ _ _ opened ends);
    }

pub returns-in-Err-clause-told : goal.returns-in-Err-clause-told
returns-in-Err-clause-told g c =
    let is = c.export_of-export.ensures
    ∙ ap (λ (geometry : Geometry). export_of geometry c.args.read_only) c.geometry.ensures in
    let ended = rw is at c.in-Err.ensures.told in
    record {
      deed = _;
      done = g.D.Calls.did_nothing c.args.disk.now c.args.desk.now;
      course = inl (ended, refl);
    }
