use Rattle.sb_sign.specs.Encoding.{is_unreserved}
use Rattle.sb_sign.proofs.EncodingLemmas.{contains_without}
use Rattle.sb_sign.proofs.encoding.path_set.Goals as goal

pub returns : goal.returns
returns c =
    contains_without c.value_set.result c.remove.result 47 is_unreserved c.remove.ensures.removed
    c.remove.ensures.others c.value_set.ensures
