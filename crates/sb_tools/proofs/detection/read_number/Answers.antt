use Rattle.std.proofs.Common.{sym, ◌∙◌}
use Rattle.sb_tools.proofs.Numbers.{number_read}
use Rattle.sb_tools.proofs.detection.read_number.Goals as goal

pub returns-then-is_number : goal.returns-then-is_number
returns-then-is_number c =
    number_read c.args.text.now c.decimal.result (sym c.is_number.ensures.number ∙ c.if-is_number.true)
    c.decimal.ensures.fits c.decimal.ensures.value
