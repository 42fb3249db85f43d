-- The date of a request.
use Rattle.std.specs.Prelude.{◌≡◌, ℕ, ◌+◌, ◌*◌, ◌/◌, ◌%◌, ◌<◌, List, [], ◌∷◌, ◌++◌, codes, ℤ, pos, unsigned_abs, ◌+ℤ◌}
use Rattle.std.specs.Prelude.{◌*ℤ◌, ◌<ℤ◌, ◌⊎◌}
use Rattle.jiff_core.specs.declared.civil.datetime.DateTime.{DateTime}
use Rattle.jiff_core.specs.Calendar.{IsCivilDate, days_from_civil}

-- the moments without a date: the seconds before 1970 and after 9998, in UTC
abbrev pub HasNoDate : ℤ → Type 0
HasNoDate moment = (moment <ℤ pos 0) ⊎ (pos 253_370_764_799 <ℤ moment)

-- the last two decimal digits of a number
abbrev pub two_digits : ℕ → List ℕ
two_digits n = (48 + n / 10 % 10) ∷ (48 + n % 10) ∷ []

-- a day and a time of day, in UTC
pub record Civil : Type 0 where
  pub year : ℕ
  pub month : ℕ
  pub day : ℕ
  pub hour : ℕ
  pub minute : ℕ
  pub second : ℕ

-- a day of the calendar and a time of day, so many seconds after the beginning of 1970
pub record IsCivilOf (moment : ℤ) (civil : Civil) : Type 0 where
  pub date : IsCivilDate (pos civil.year) civil.month civil.day
  pub hour : civil.hour < 24
  pub minute : civil.minute < 60
  pub second : civil.second < 60
  pub seconds : moment ≡ days_from_civil (pos civil.year) civil.month civil.day *ℤ pos 86_400
      +ℤ pos (civil.hour * 3600 + civil.minute * 60 + civil.second)

-- YYYYMMDDTHHMMSSZ
abbrev pub date_text_of : Civil → List ℕ
date_text_of civil =
    two_digits (civil.year / 100) ++ two_digits civil.year ++ two_digits civil.month ++ two_digits civil.day
    ++ codes "T"
    ++ two_digits civil.hour ++ two_digits civil.minute ++ two_digits civil.second ++ codes "Z"

-- the day and the time of day of a `DateTime`
abbrev pub civil_of : DateTime → Civil
civil_of dt = record {
  year = unsigned_abs dt.date.year;
  month = dt.date.month;
  day = dt.date.day;
  hour = dt.time.hour;
  minute = dt.time.minute;
  second = dt.time.second;
}

-- a text is the date of a moment
pub record IsDateOf (moment : ℤ) (date : List ℕ) : Type 0 where
  pub civil : Civil
  pub when : IsCivilOf moment civil
  pub text : date ≡ date_text_of civil
