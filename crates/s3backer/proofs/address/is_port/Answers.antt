use Rattle.std.proofs.Common.{sym, ◌∙◌}
use Rattle.std.proofs.lemmas.Str.{IsUtf8-from_ascii}
use Rattle.s3backer.proofs.UrlLemmas.{digits_are_ascii, is_port_of_digits}
use Rattle.s3backer.proofs.address.is_port.Goals as goal

pub returns-in-Ok : goal.returns-in-Ok
returns-in-Ok c =
    is_port_of_digits c.args.digits.now c.in-Ok.digits.now c.in-Ok.ensures.cases.0
    (sym c.are_digits.ensures ∙ c.if-not-are_digits.false) c.read_size.ensures c.is_port_number.ensures

pub returns-in-Err : goal.returns-in-Err
returns-in-Err c =
    absurd (c.in-Err.ensures.cases.0 (IsUtf8-from_ascii c.args.digits.now
    (digits_are_ascii c.args.digits.now (sym c.are_digits.ensures ∙ c.if-not-are_digits.false))))
