use Rattle.std.proofs.Common.{map, string_bytes}
use Rattle.s3backer.proofs.BucketLemmas.{no_url, no_id, no_key, no_size}
use Rattle.s3backer.proofs.bucket.read_bucket.Goals as goal

pub returns-in_err-url : goal.returns-in_err-url
returns-in_err-url c =
    rw c.from_residual-in_err-url.ensures
    (no_url (map string_bytes c.args.words.now) (map string_bytes c.in_ok-words.words.now) c.in_ok-words.ensures
    c.in_err-url.ensures)

pub returns-in_err-id : goal.returns-in_err-id
returns-in_err-id c =
    rw c.from_residual-in_err-id.ensures
    (no_id (map string_bytes c.args.words.now) (map string_bytes c.in_ok-words.words.now)
    (map string_bytes c.in_ok-url.words.now) c.in_ok-url.url.now c.in_ok-words.ensures c.in_ok-url.ensures
    c.in_err-id.ensures)

pub returns-in_err-key : goal.returns-in_err-key
returns-in_err-key c =
    rw c.from_residual-in_err-key.ensures
    (no_key (map string_bytes c.args.words.now) (map string_bytes c.in_ok-words.words.now)
    (map string_bytes c.in_ok-url.words.now) (map string_bytes c.in_ok-id.words.now) c.in_ok-url.url.now
    c.in_ok-id.id.now c.in_ok-words.ensures c.in_ok-url.ensures c.in_ok-id.ensures c.in_err-key.ensures)

pub returns-in_err-size : goal.returns-in_err-size
returns-in_err-size c =
    rw c.from_residual-in_err-size.ensures
    (no_size (map string_bytes c.args.words.now) (map string_bytes c.in_ok-words.words.now)
    (map string_bytes c.in_ok-url.words.now) (map string_bytes c.in_ok-id.words.now)
    (map string_bytes c.in_ok-key.words.now) c.in_ok-url.url.now c.in_ok-id.id.now c.in_ok-key.key.now
    c.in_ok-words.ensures c.in_ok-url.ensures c.in_ok-id.ensures c.in_ok-key.ensures c.in_err-size.ensures)
