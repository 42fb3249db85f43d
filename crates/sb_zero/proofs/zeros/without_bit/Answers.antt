use Rattle.std.proofs.Common.{w64}
use Rattle.std.proofs.lemmas.Nat.Bits.{bit_at_clear_same, bit_at_clear_other}
use Rattle.sb_zero.proofs.Bits.{other_place}
use Rattle.sb_zero.proofs.zeros.without_bit.Goals as goal

pub returns : goal.returns
returns c = record {
  here = bit_at_clear_same w64 c.args.word c.args.bit c.requires;
  others = λ other less apart.
      bit_at_clear_other w64 c.args.word c.args.bit c.requires other less (other_place other c.args.bit apart);
}
