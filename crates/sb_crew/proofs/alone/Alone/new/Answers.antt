use Rattle.std.proofs.Common.{◌≡◌, ◌∙◌, List, sym, subst, rules}
use Rattle.sb_base.specs.declared.entry.Entry.{Entry}
use Rattle.sb_world.specs.Told.{Gains}
use Rattle.sb_history.specs.Eviction.{count}
use Rattle.sb_core.specs.Cores.{geometry_of, marks_of}
use Rattle.sb_crew.specs.Joins.{gains_nothing}
use Rattle.sb_crew.proofs.Opening.{count_none, opening_none}
use Rattle.sb_crew.proofs.alone.Alone.new.Goals as goal

pub returns-then-known_zeros-gt0-clause-unmarked : goal.returns-then-known_zeros-gt0-clause-unmarked
returns-then-known_zeros-gt0-clause-unmarked g c = λ none.
    let nothing = c.known_zeros.ensures ∙ count_none (marks_of c.args.core) (geometry_of c.args.core).blocks none in
    absurd (search (rules, nothing))

pub returns-else-known_zeros-gt0-clause-opening : goal.returns-else-known_zeros-gt0-clause-opening
returns-else-known_zeros-gt0-clause-opening g c =
    let marks = marks_of c.args.core in
    let blocks = (geometry_of c.args.core).blocks in
    let none : count marks blocks ≡ 0 = search rules in
    let told = g.T.Tape.told c.args.tape in
    subst (λ (entries : List Entry). Gains told told entries) (sym (opening_none marks blocks none)) (gains_nothing told)
