use Rattle.std.proofs.Common.{map, string_bytes}
use Rattle.std.specs.Option.{option_copied}
use Rattle.s3backer.proofs.WordLemmas.{no_values, no_test}
use Rattle.s3backer.proofs.directory.read_directory.Goals as goal

pub returns-in_err-words : goal.returns-in_err-words
returns-in_err-words c =
    rw c.from_residual.ensures
    (no_test (map string_bytes c.args.words.now) (map string_bytes c.take_flag-stdio.result.1.now) c.take_flag-stdio.result.0
    c.take_flag-stdio.ensures c.in_err-words.ensures)

pub returns-in_err-size : goal.returns-in_err-size
returns-in_err-size c =
    rw c.from_residual-in_err-size.ensures
    (no_values (map string_bytes c.args.words.now) (map string_bytes c.take_flag-stdio.result.1.now)
    (map string_bytes c.in_ok-words.words.now) (map string_bytes c.take_option.result.1.now)
    (map string_bytes c.take_flag-hashed.result.1.now) c.take_flag-stdio.result.0
    (option_copied c.take_option.result.0) c.take_flag-hashed.result.0
    c.take_flag-stdio.ensures c.in_ok-words.ensures c.take_option.ensures c.take_flag-hashed.ensures
    c.in_err-size.ensures)
