-- A moment has one date.
use Rattle.std.proofs.Common.{◌≡◌, ◌⊎◌, ℕ, ◌+◌, ◌*◌, ◌<◌, ◌≤◌, List, inl, inr, refl, sym, ap, subst, ◌∙◌, arith, ℤ, pos, ◌+ℤ◌, ◌-ℤ◌, ◌*ℤ◌, ◌≤ℤ◌}
use Rattle.std.proofs.lemmas.Bool.{cases_order}
use Rattle.std.proofs.lemmas.Int.{by_lt_z}
use Rattle.jiff_core.specs.Calendar.{IsCivilDate, day_count, day_of_year, days_from_civil}
use Rattle.jiff_core.proofs.CalendarLemmas.{day_count-lt_month, day_count-lt_year}
use Rattle.jiff_core.proofs.SignedLemmas.{signed_arith}
use Rattle.sb_sign.specs.Date.{Civil, IsCivilOf, IsDateOf, date_text_of}

-- the days before two dates are as many
module _ (y y₂ : ℤ) (m m₂ d d₂ : ℕ) (here : IsCivilDate y m d) (there : IsCivilDate y₂ m₂ d₂)
    (same : day_count y m d ≡ day_count y₂ m₂ d₂) where
  pub same_year : y ≡ y₂
  same_year =
      by_lt_z y y₂
      (λ less. let lower = day_count-lt_year y m d y₂ m₂ d₂ here there.2.0 less in absurd (omega (arith, lower, same)))
      (λ most.
      by_lt_z y₂ y
      (λ less. let lower = day_count-lt_year y₂ m₂ d₂ y m d there here.2.0 less in
      absurd (omega (arith, lower, same)))
      (λ least. omega (arith, signed_arith, most, least)))

-- the days before two dates of a year are as many
module _ (y : ℤ) (m m₂ d d₂ : ℕ) (here : IsCivilDate y m d) (there : IsCivilDate y m₂ d₂)
    (same : day_count y m d ≡ day_count y m₂ d₂) where
  pub same_month : m ≡ m₂
  same_month = by (cases_order m m₂) where
    by : (m ≡ m₂) ⊎ ((m < m₂) ⊎ (m₂ < m)) → m ≡ m₂
    by (inl is) = is
    by (inr (inl less)) =
        let lower = day_count-lt_month y m d m₂ d₂ here there.2.0 less in absurd (omega (arith, lower, same))
    by (inr (inr less)) =
        let lower = day_count-lt_month y m₂ d₂ m d there here.2.0 less in absurd (omega (arith, lower, same))

-- the days before two dates of a month are as many
same_day_of : (y : ℤ) (m d d₂ : ℕ) → 1 ≤ d → 1 ≤ d₂ → day_count y m d ≡ day_count y m d₂ → d ≡ d₂
unfolding day_count
same_day_of y m d d₂ one two same = omega (arith, one, two, same)

-- times of day are as many seconds after midnight
module _ (h h₂ m m₂ s s₂ : ℕ) (minutes : m < 60) (also : m₂ < 60) (seconds : s < 60) (too : s₂ < 60)
    (same : h * 3600 + m * 60 + s ≡ h₂ * 3600 + m₂ * 60 + s₂) where
  same_hour : h ≡ h₂
  same_hour = omega (arith, minutes, also, seconds, too, same)

  same_minute : m ≡ m₂
  same_minute = omega (arith, minutes, also, seconds, too, same)

  same_second : s ≡ s₂
  same_second = omega (arith, minutes, also, seconds, too, same)

-- moments of two days at two times are one
module _ (a b : ℕ) (before : ℕ) (t t₂ : ℕ) (within : t < 86_400) (also : t₂ < 86_400)
    (same : (pos a -ℤ pos before) *ℤ pos 86_400 +ℤ pos t ≡ (pos b -ℤ pos before) *ℤ pos 86_400 +ℤ pos t₂) where
  same_days : a ≡ b
  same_days = omega (arith, signed_arith, within, also, same)

  same_time : t ≡ t₂
  same_time = omega (arith, signed_arith, within, also, same)

-- a time of day is less than a day
time_within : (h m s : ℕ) → h < 24 → m < 60 → s < 60 → h * 3600 + m * 60 + s < 86_400
time_within h m s hours minutes seconds = omega (arith, hours, minutes, seconds)

-- civil times of one moment
module _ (moment : ℤ) (a b : Civil) (here : IsCivilOf moment a) (there : IsCivilOf moment b) where
  seconds_agree : (pos (day_count (pos a.year) a.month a.day) -ℤ pos (day_count (pos 1970) 1 1)) *ℤ pos 86_400
      +ℤ pos (a.hour * 3600 + a.minute * 60 + a.second)
      ≡ (pos (day_count (pos b.year) b.month b.day) -ℤ pos (day_count (pos 1970) 1 1)) *ℤ pos 86_400
      +ℤ pos (b.hour * 3600 + b.minute * 60 + b.second)
  unfolding days_from_civil
  seconds_agree = sym here.seconds ∙ there.seconds

  days_agree : day_count (pos a.year) a.month a.day ≡ day_count (pos b.year) b.month b.day
  days_agree =
      same_days (day_count (pos a.year) a.month a.day) (day_count (pos b.year) b.month b.day)
      (day_count (pos 1970) 1 1) (a.hour * 3600 + a.minute * 60 + a.second) (b.hour * 3600 + b.minute * 60 + b.second)
      (time_within a.hour a.minute a.second here.hour here.minute here.second)
      (time_within b.hour b.minute b.second there.hour there.minute there.second) seconds_agree

  times_agree : a.hour * 3600 + a.minute * 60 + a.second ≡ b.hour * 3600 + b.minute * 60 + b.second
  times_agree =
      same_time (day_count (pos a.year) a.month a.day) (day_count (pos b.year) b.month b.day)
      (day_count (pos 1970) 1 1) (a.hour * 3600 + a.minute * 60 + a.second) (b.hour * 3600 + b.minute * 60 + b.second)
      (time_within a.hour a.minute a.second here.hour here.minute here.second)
      (time_within b.hour b.minute b.second there.hour there.minute there.second) seconds_agree

  years_agree : a.year ≡ b.year
  years_agree =
      let is = same_year (pos a.year) (pos b.year) a.month b.month a.day b.day here.date there.date days_agree in
      omega (arith, signed_arith, is)

  -- the other civil time, of the first one's year
  moved_date : IsCivilDate (pos a.year) b.month b.day
  moved_date = subst (λ (y : ℕ). IsCivilDate (pos y) b.month b.day) (sym years_agree) there.date

  moved_days : day_count (pos a.year) a.month a.day ≡ day_count (pos a.year) b.month b.day
  moved_days = days_agree ∙ ap (λ (y : ℕ). day_count (pos y) b.month b.day) (sym years_agree)

  months_agree : a.month ≡ b.month
  months_agree = same_month (pos a.year) a.month b.month a.day b.day here.date moved_date moved_days

  month_days_agree : a.day ≡ b.day
  month_days_agree =
      same_day_of (pos a.year) a.month a.day b.day here.date.2.0 there.date.2.0
      (moved_days ∙ ap (λ (m : ℕ). day_count (pos a.year) m b.day) (sym months_agree))

  hours_agree : a.hour ≡ b.hour
  hours_agree =
      same_hour a.hour b.hour a.minute b.minute a.second b.second here.minute there.minute here.second there.second
      times_agree

  minutes_agree : a.minute ≡ b.minute
  minutes_agree =
      same_minute a.hour b.hour a.minute b.minute a.second b.second here.minute there.minute here.second there.second
      times_agree

  clock_seconds_agree : a.second ≡ b.second
  clock_seconds_agree =
      same_second a.hour b.hour a.minute b.minute a.second b.second here.minute there.minute here.second there.second
      times_agree

  texts_agree : date_text_of a ≡ date_text_of b
  texts_agree =
      rw (years_agree, months_agree, month_days_agree, hours_agree, minutes_agree, clock_seconds_agree) refl

-- a moment has one date
pub dates_agree : (moment : ℤ) (one other : List ℕ) → IsDateOf moment one → IsDateOf moment other → one ≡ other
dates_agree moment one other is also =
    is.text ∙ texts_agree moment is.civil also.civil is.when also.when ∙ sym also.text
