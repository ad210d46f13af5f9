-- Days, counted from 1970-01-01, and their dates in the Gregorian calendar, for the years 1 to 9999.
use Rattle.std.specs.Prelude.{ℕ, zero, suc, ◌+◌, ◌-◌, nat_le, nat_lt, Bool, ◌&&◌, if◌then◌else◌, ℤ, pos, negsuc, ◌+ℤ◌, int_le, unsigned_abs}
use Rattle.jiff_core.specs.Calendar.{days_in_month, days_in_year, days_from_civil}

-- a year, a month from 1 and a day from 1
pub record CivilDate : Type 0 where
  pub year : ℕ
  pub month : ℕ
  pub day : ℕ

-- the date exists, and its year is one of 1 to 9999
abbrev pub is_date : ℕ → ℕ → ℕ → Bool
is_date year month day =
    nat_le 1 year && nat_le year 9999 && nat_le 1 month && nat_le month 12 && nat_le 1 day
    && nat_le day (days_in_month (pos year) month)

-- the day of a date
abbrev pub day_number : ℕ → ℕ → ℕ → ℤ
day_number year month day = days_from_civil (pos year) month day

-- the day is one of those from 0001-01-01 to 9999-12-31
abbrev pub is_dated : ℤ → Bool
is_dated day = int_le (negsuc 719_161) day && int_le day (pos 2_932_896)

-- the date that is n days after the first of this month, where months are counted off while n lasts, at most so many
unfoldable pub date_in_year : ℕ → ℕ → ℕ → ℕ → CivilDate
date_in_year zero year month n = record { year = year; month = month; day = n + 1 }
date_in_year (suc more) year month n =
    let days = days_in_month (pos year) month in
    if nat_lt n days then record { year = year; month = month; day = n + 1 }
    else date_in_year more year (month + 1) (n - days)

-- the date that is n days after 1 January of this year, where years are counted off while n lasts, at most so many
unfoldable pub date_from_year : ℕ → ℕ → ℕ → CivilDate
date_from_year zero year n = date_in_year 11 year 1 n
date_from_year (suc more) year n =
    let days = days_in_year (pos year) in
    if nat_lt n days then date_in_year 11 year 1 n else date_from_year more (year + 1) (n - days)

-- the date of a day: 719,162 days lie before 1970-01-01 in the years from 1 on
unfoldable pub date_of : ℤ → CivilDate
date_of day = date_from_year 9998 1 (unsigned_abs (day +ℤ pos 719_162))
