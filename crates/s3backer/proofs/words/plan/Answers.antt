use Rattle.std.proofs.Common.{map, string_bytes}
use Rattle.s3backer.specs.Read.{given_of}
use Rattle.s3backer.proofs.WordLemmas.{planned_words}
use Rattle.s3backer.proofs.words.plan.Goals as goal

pub returns-in-Some-clause-plan : goal.returns-in-Some-clause-plan
returns-in-Some-clause-plan c =
    planned_words (map string_bytes c.args.words.now) (given_of c.in-Some.given) c.plan_of.result c.in-Some.ensures
    c.plan_of.ensures.plan
