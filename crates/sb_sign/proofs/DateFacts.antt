-- Facts on the civil time of a moment.
use Rattle.std.proofs.Common.{◌≡◌, inl, refl, sym, subst, arith, lit≤, ℤ, pos, ◌+ℤ◌, ◌*ℤ◌, ◌≤ℤ◌}
use Rattle.std.specs.Prelude.{negsuc, unsigned_abs}
use Rattle.std.proofs.lemmas.Int.{by_lt_z}
use Rattle.jiff_core.specs.declared.civil.date.Date.{Date}
use Rattle.jiff_core.specs.declared.civil.datetime.DateTime.{DateTime}
use Rattle.jiff_core.specs.Calendar.{IsCivilDate, days_from_civil}
use Rattle.jiff_core.specs.Date.{epoch_day}
use Rattle.jiff_core.specs.DateTime.{civil_nanos}
use Rattle.jiff_core.specs.Time.{time_seconds}
use Rattle.jiff_core.proofs.SignedLemmas.{signed_arith}
use Rattle.jiff_core.proofs.DateLemmas.{civil, epoch_day-lt}
use Rattle.jiff_core.proofs.DateTimeLemmas.{civil_nanos-parts}
use Rattle.sb_sign.specs.Date.{IsCivilOf, civil_of}

-- the first day of 1970
first_day : Date
first_day = record {
  year = pos 1970;
  month = 1;
  day = 1;
  year_in = (omega (arith, signed_arith), omega (arith, signed_arith));
  month_in = (lit≤ tt, lit≤ tt);
  day_in = (lit≤ tt, lit≤ tt);
}

-- its number
epoch_day-first_day : epoch_day first_day ≡ pos 0
unfolding days_from_civil first_day
epoch_day-first_day = omega (arith, signed_arith)

-- no day from then on has a year before it
pub year_since_1970 : (d : Date) → pos 0 ≤ℤ epoch_day d → pos 0 ≤ℤ d.year
unfolding first_day
year_since_1970 d since =
    by_lt_z d.year (pos 1970)
    (λ lt. let before = epoch_day-lt d first_day (inl lt) in absurd
    (omega (arith, signed_arith, before, epoch_day-first_day, since)))
    (λ ge. omega (arith, signed_arith))

-- a moment from 1970 on has a day from then on
pub day_since_1970 : (dt : DateTime) (moment : ℤ) → civil_nanos dt ≡ moment *ℤ pos 1_000_000_000 → pos 0 ≤ℤ moment
    → pos 0 ≤ℤ epoch_day dt.date
day_since_1970 dt moment same since = omega (arith, signed_arith, civil_nanos-parts dt)

-- a number that isn't negative is its size
size_of_positive : (z : ℤ) → pos 0 ≤ℤ z → pos (unsigned_abs z) ≡ z
size_of_positive (pos n) h = refl
size_of_positive (negsuc n) h = absurd (omega (arith, signed_arith))

-- the civil time of a moment's nanoseconds is that of the moment
pub civil_when : (dt : DateTime) (moment : ℤ) → civil_nanos dt ≡ moment *ℤ pos 1_000_000_000 → pos 0 ≤ℤ dt.date.year
    → IsCivilOf moment (civil_of dt)
civil_when dt moment same since =
    let year : pos (unsigned_abs dt.date.year) ≡ dt.date.year = size_of_positive dt.date.year since in
    let D : ℤ → Type 0 = λ y. IsCivilDate y dt.date.month dt.date.day in
    let seconds : moment ≡ epoch_day dt.date *ℤ pos 86_400 +ℤ pos (time_seconds dt.time) =
    omega (arith, signed_arith, civil_nanos-parts dt) in
    record {
      date = subst D (sym year) (civil dt.date);
      hour = omega arith;
      minute = omega arith;
      second = omega arith;
      seconds = rw year seconds;
    }
