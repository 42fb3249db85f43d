use Rattle.std.proofs.Common.{◌∙◌, subst, List, rules}
use Rattle.sb_base.specs.declared.entry.Entry.{Entry}
use Rattle.sb_zero.specs.Sets.{is_marked}
use Rattle.sb_core.specs.Cores.{Represents}
use Rattle.s3backer.proofs.Opening.{opening_unmarked}
use Rattle.s3backer.proofs.top.make.Goals as goal

pub returns-clause-core : goal.returns-clause-core
returns-clause-core c =
    let core = c.in_ok-core in
    let unmarked = c.in_ok-zeros.ensures.none in
    record {
      geometry_is = search rules;
      settings_is = search rules;
      represents = subst (λ (entries : List Entry). Represents core.core entries)
          (opening_unmarked (is_marked c.in_ok-zeros.zeros) _ unmarked) core.ensures.represents;
      unmarked = λ block. core.ensures.marks block ∙ unmarked block;
      idle = core.ensures.idle;
      reading = core.ensures.reading;
    }
