use Rattle.std.proofs.Common.{◌≡◌, ◌∙◌, rules, arith}
use Rattle.std.proofs.lemmas.Grind.{common_steps}
use Rattle.sb_core.specs.Cores.{marks_of, geometry_of}
use Rattle.sb_core.specs.Standing.{fixed_of}
use Rattle.sb_crew.specs.SharedDisks.{shared_names}
use Rattle.sb_server.specs.Mounts.{naming_of, fixed_of_mount}
use Rattle.sb_server.proofs.Unmarked.{none_marked}
use Rattle.sb_server.proofs.mount.Mount.make_disk.Goals as goal

pub returns : goal.returns
returns c =
    let core = c.in_ok-core in
    let made = c.in_ok-made in
    let none = none_marked (marks_of core.core) (geometry_of core.core).blocks
    (λ block. core.ensures.marks block ∙ c.in_ok-zeros.ensures.none block) in
    let fixed : fixed_of core.core ≡ fixed_of_mount c.args.self.now = first_of (search rules, grind (arith, common_steps)) in
    let names : shared_names made.made.0 ≡ naming_of c.args.self.now = first_of (search rules, grind (arith, common_steps)) in
    record {
      names = names;
      fixed = made.ensures.fixed ∙ fixed;
      may = made.ensures.pass;
      first = made.ensures.number.0;
      none_seen = made.ensures.history.0 ∙ none;
      none_made = made.ensures.nothing.0;
      none_joined = made.ensures.nothing.1;
    }
