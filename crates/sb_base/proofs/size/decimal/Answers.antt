use Rattle.std.proofs.Common.{◌+◌, arith}
use Rattle.sb_base.proofs.DigitLemmas.{digits_value-next, digits_value-front}
use Rattle.sb_base.proofs.size.decimal.Goals as goal

pub returns-in-None : goal.returns-in-None
returns-in-None c =
    omega (
      arith,
      c.in-None.ensures,
      digits_value-next c.args.digits.now c.loop-digit.digit-index
          c.loop-digit-test.true,
      digits_value-front c.args.digits.now (c.loop-digit.digit-index + 1),
    )

pub loop-digit-preserved : goal.loop-digit-preserved
loop-digit-preserved c =
    omega (
      arith,
      c.in-Some.ensures,
      digits_value-next c.args.digits.now c.loop-digit.digit-index
          c.loop-digit-test.true,
    )
