use Rattle.std.proofs.Common.{append_assoc}
use Rattle.sb_sign.proofs.EncodingLemmas.{percent_encode-value}
use Rattle.sb_sign.proofs.encoding.add_pair.Goals as goal

pub returns : goal.returns
returns c =
    let name = percent_encode-value c.value_set.result c.value_set.ensures c.bytes.result.now in
    let value = percent_encode-value c.value_set-2.result c.value_set-2.ensures c.bytes-2.result.now in
    rw (
      c.in_ok-append_to-2.ensures.ok,
      c.in_ok-push_str.ensures.bytes,
      c.in_ok-append_to.ensures.ok,
      c.percent_encode.ensures.text,
      c.percent_encode-2.ensures.text,
      name,
      value,
      c.bytes.ensures,
      c.bytes-2.ensures,
    )
    (simp append_assoc)
