use Rattle.std.proofs.Common.{List, ℕ, subst, refl}
use Rattle.sb_sign.specs.Hmac.{IsKeyed}
use Rattle.sb_sign.proofs.DayKeyLemmas.{same_day}
use Rattle.sb_sign.proofs.day.DayKey.turn_to.Goals as goal

pub returns-else-not-is_of : goal.returns-else-not-is_of
returns-else-not-is_of c credentials keyed region is = (
  is,
  subst (λ (key : List ℕ). IsKeyed c.args.self.now.keyed key)
      (same_day credentials c.args.self.now.date c.args.date.now (c.if-not-is_of.ensures refl)) is,
)
