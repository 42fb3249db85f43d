use Rattle.std.proofs.Common.{rules}
use Rattle.sb_sign.proofs.EncodingLemmas.{percent_encode-path}
use Rattle.sb_sign.proofs.encoding.encoded_path.Goals as goal

pub returns : goal.returns
returns c =
    let encoded = percent_encode-path c.path_set.result c.path_set.ensures c.args.path.now in
    let text = c.in_ok-append_to.ensures.ok in
    let before = c.new-text.ensures.bytes in
    let whole = c.percent_encode.ensures.text in
    search (rules, encoded)
