-- A plan's run, by its form.
use Rattle.std.proofs.Common.{ℕ, ◌≡◌, List, Option, None, Ok, Err, refl, sym, ap, subst}
use Rattle.sb_base.specs.declared.entry.Entry.{Entry}
use Rattle.sb_world.specs.Worlds.{WorldView}
use Rattle.sb_server.specs.Callers.{CorePass}
use Rattle.sb_server.specs.declared.mount.Mount.{Mount}
use Rattle.sb_server.specs.declared.server.ServerEnd.{ServerEnd}
use Rattle.s3backer.specs.Headline.{SingleEnds}
use Rattle.s3backer.specs.Plans.{PlanParts}
use Rattle.s3backer.specs.Runs.{IsMountOr, ServerRuns, FormEnds}
use Rattle.s3backer.specs.Views.{Telling}
use Rattle.s3backer.specs.declared.plan.Form.{Form}

module _ {N L C R S : Type 0} (tells : Telling L C R S)
    (Ends : Mount → WorldView N L C R S → WorldView N L C R S → ServerEnd → Type 0) where
  -- a plan of which a mount was made is served at its address
  pub served_at : (plan : PlanParts) (mount : Mount) (a b : WorldView N L C R S) (told : Option (List Entry))
      (status : ℕ) (pass : Option CorePass) → IsMountOr plan (Ok mount) → ServerRuns tells Ends mount a b status pass
      → FormEnds tells Ends plan.form plan a b told told status pass
  served_at plan mount a b told status pass (address, formed, is) runs =
      subst (λ (form : Form). FormEnds tells Ends form plan a b told told status pass) (sym formed) (record {
        mount = mount;
        mount_is = is;
        runs = runs;
        tape_stays = refl;
      })

  -- another one over standard input and output
  pub served_alone : (plan back : PlanParts) (a b : WorldView N L C R S) (told told' : Option (List Entry))
      (status : ℕ) (pass : Option CorePass) → IsMountOr plan (Err back) → SingleEnds tells back a b told told' status
      → pass ≡ None → FormEnds tells Ends plan.form plan a b told told' status pass
  served_alone plan back a b told told' status pass (same, formed) ends none =
      subst (λ (form : Form). FormEnds tells Ends form plan a b told told' status pass) (sym formed)
      (subst (λ (p : PlanParts). SingleEnds tells p a b told told' status) same ends, none)
