use Rattle.std.proofs.lemmas.List.Sums.{prefix_len-le-length}
use Rattle.s3backer.specs.Urls.{is_host_byte}
use Rattle.s3backer.proofs.address.is_address.Goals as goal

pub split_at-requires : goal.split_at-requires
split_at-requires c = rw c.host_length.ensures (prefix_len-le-length is_host_byte c.args.text.now)
