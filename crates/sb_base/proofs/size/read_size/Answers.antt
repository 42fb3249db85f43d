use Rattle.std.specs.Char.{is_ascii_digit}
use Rattle.std.proofs.lemmas.List.Sums.{prefix_len-le-length}
use Rattle.sb_base.proofs.DigitLemmas.{front_passes}
use Rattle.sb_base.proofs.size.read_size.Goals as goal

pub split_at-requires : goal.split_at-requires
split_at-requires c = rw c.digit_count.ensures (prefix_len-le-length is_ascii_digit c.as_bytes-bytes.result.now)

pub decimal-requires : goal.decimal-requires
decimal-requires c = front_passes c.as_bytes-bytes.result.now c.split_at.result.0.now c.digit_count.result
    c.digit_count.ensures c.split_at.ensures.front
