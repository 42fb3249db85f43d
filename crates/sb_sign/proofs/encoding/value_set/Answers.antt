use Rattle.std.specs.Char.{is_ascii_alphanumeric}
use Rattle.percent_encoding.specs.declared.ascii_set.TheConstants.{NON_ALPHANUMERIC}
use Rattle.sb_sign.proofs.EncodingLemmas.{contains-non_alphanumeric, contains_without}
use Rattle.sb_sign.proofs.encoding.value_set.Goals as goal

pub returns : goal.returns
returns c =
    let one = contains_without NON_ALPHANUMERIC c.remove.result 45 is_ascii_alphanumeric c.remove.ensures.removed
    c.remove.ensures.others
    contains-non_alphanumeric in
    let two = contains_without c.remove.result c.remove-2.result 46 _ c.remove-2.ensures.removed
    c.remove-2.ensures.others one in
    let three = contains_without c.remove-2.result c.remove-3.result 95 _ c.remove-3.ensures.removed
    c.remove-3.ensures.others two in
    contains_without c.remove-3.result c.remove-4.result 126 _ c.remove-4.ensures.removed c.remove-4.ensures.others
    three
