use Rattle.std.proofs.Common.{◌+◌, arith}
use Rattle.std.proofs.lemmas.Int.Digits.{digits_value_more}
use Rattle.std.proofs.lemmas.Str.Parse.{digits_value-take-le}
use Rattle.sb_tools.proofs.detection.decimal.Goals as goal

pub returns-in-None-clause-value : goal.returns-in-None-clause-value
returns-in-None-clause-value c =
    omega (
      arith,
      c.in-None.ensures,
      digits_value_more 10 c.args.digits.now c.loop-digit.digit-index
          c.loop-digit-test.true,
      digits_value-take-le 10 c.args.digits.now (c.loop-digit.digit-index + 1) (omega arith),
    )

pub loop-digit-preserved : goal.loop-digit-preserved
loop-digit-preserved c = record {
  value = omega (
    arith,
    c.in-Some.ensures,
    digits_value_more 10 c.args.digits.now c.loop-digit.digit-index
        c.loop-digit-test.true,
  );
  small = omega arith;
}
