use Rattle.std.proofs.Common.{rules}
use Rattle.std.proofs.lemmas.Fn.{filter_same}
use Rattle.sb_fakes.specs.Objects.{is_other}
use Rattle.sb_fakes.proofs.object.take_away.Goals as goal

pub returns : goal.returns
returns g c =
    filter_same _ (is_other c.args.name.now) _ (λ x b f' k. search rules) _ _ c.retain.ensures.filtered
