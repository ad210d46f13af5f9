-- The texts of dates, times and moments.
use Rattle.std.specs.Prelude.{ℕ, ◌+◌, ◌/◌, ◌%◌, nat_lt, nat_le, if◌then◌else◌, List, [], ◌∷◌, ◌++◌, ℤ}
use Rattle.transit_base.specs.Limits.{most_time}
use Rattle.transit_base.specs.Moments.{civil_day, time_of_day}
use Rattle.transit_base.specs.Dates.{CivilDate, date_of, is_dated}

-- the digit of a number below 10
abbrev pub digit : ℕ → ℕ
digit n = 48 + n

-- a number below 100 in two digits
abbrev pub two_digits : ℕ → List ℕ
two_digits n = digit (n / 10) ∷ digit (n % 10) ∷ []

-- a number below 1,000 in two digits, or in three from 100 on
abbrev pub hours_text : ℕ → List ℕ
hours_text n = if nat_lt n 100 then two_digits n else digit (n / 100) ∷ two_digits (n % 100)

-- a date as YYYY-MM-DD
abbrev pub civil_text : CivilDate → List ℕ
civil_text d = two_digits (d.year / 100) ++ two_digits (d.year % 100) ++ 45 ∷ two_digits d.month ++ 45 ∷ two_digits d.day

-- a day from 0001-01-01 to 9999-12-31 as YYYY-MM-DD; any other day has no text
unfoldable pub date_text : ℤ → List ℕ
date_text day = if is_dated day then civil_text (date_of day) else []

-- hours, minutes and seconds as HH:MM:SS
abbrev pub clock_text : ℕ → List ℕ
clock_text seconds =
    hours_text (seconds / 3600) ++ 58 ∷ two_digits (seconds / 60 % 60) ++ 58 ∷ two_digits (seconds % 60)

-- seconds up to the greatest time as HH:MM:SS, with three digits of hours from 100 on; more seconds have no text
unfoldable pub time_text : ℕ → List ℕ
time_text seconds = if nat_le seconds most_time then clock_text seconds else []

-- a moment as YYYY-MM-DD HH:MM:SS
abbrev pub moment_text : ℤ → List ℕ
moment_text moment = date_text (civil_day moment) ++ 32 ∷ time_text (time_of_day moment)
