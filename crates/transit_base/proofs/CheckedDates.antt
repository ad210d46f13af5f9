-- Values of the definitions, as they are known from calendars.
use Rattle.std.proofs.Common.{◌≡◌, pos, negsuc, true, false, [], refl}
use Rattle.std.specs.Prelude.{codes}
use Rattle.jiff_core.specs.Calendar.{days_of_years, days_of_months, day_count, days_from_civil}
use Rattle.transit_base.specs.Moments.{moment_at, civil_day, time_of_day}
use Rattle.transit_base.specs.Dates.{date_in_year, date_from_year, date_of, day_number, is_date, is_dated}
use Rattle.transit_base.specs.DateTexts.{date_text, time_text, moment_text}

-- dates and their days
day_number-epoch : day_number 1970 1 1 ≡ pos 0
unfolding days_from_civil day_count days_of_years days_of_months
day_number-epoch = refl

day_number-2025_06_02 : day_number 2025 6 2 ≡ pos 20241
unfolding days_from_civil day_count days_of_years days_of_months
day_number-2025_06_02 = refl

day_number-first : day_number 1 1 1 ≡ negsuc 719_161
unfolding days_from_civil day_count days_of_years days_of_months
day_number-first = refl

day_number-last : day_number 9999 12 31 ≡ pos 2_932_896
unfolding days_from_civil day_count days_of_years days_of_months
day_number-last = refl

date_of-epoch : date_of (pos 0) ≡ record { year = 1970; month = 1; day = 1 }
unfolding date_in_year date_from_year date_of
date_of-epoch = refl

date_of-2025_06_02 : date_of (pos 20241) ≡ record { year = 2025; month = 6; day = 2 }
unfolding date_in_year date_from_year date_of
date_of-2025_06_02 = refl

date_of-leap_day : date_of (pos 11016) ≡ record { year = 2000; month = 2; day = 29 }
unfolding date_in_year date_from_year date_of
date_of-leap_day = refl

date_of-first : date_of (negsuc 719_161) ≡ record { year = 1; month = 1; day = 1 }
unfolding date_in_year date_from_year date_of
date_of-first = refl

date_of-last : date_of (pos 2_932_896) ≡ record { year = 9999; month = 12; day = 31 }
unfolding date_in_year date_from_year date_of
date_of-last = refl

-- dates that exist, and dates that don't
is_date-leap_century : is_date 2000 2 29 ≡ true
is_date-leap_century = refl

is_date-century : is_date 1900 2 29 ≡ false
is_date-century = refl

is_date-common_year : is_date 2025 2 29 ≡ false
is_date-common_year = refl

is_date-year_zero : is_date 0 1 1 ≡ false
is_date-year_zero = refl

is_date-five_digits : is_date 10000 1 1 ≡ false
is_date-five_digits = refl

is_date-month_zero : is_date 2025 0 1 ≡ false
is_date-month_zero = refl

is_date-month_thirteen : is_date 2025 13 1 ≡ false
is_date-month_thirteen = refl

is_date-day_zero : is_date 2025 1 0 ≡ false
is_date-day_zero = refl

is_date-day_thirty_one : is_date 2025 4 31 ≡ false
is_date-day_thirty_one = refl

is_dated-before : is_dated (negsuc 719_162) ≡ false
is_dated-before = refl

is_dated-first : is_dated (negsuc 719_161) ≡ true
is_dated-first = refl

is_dated-last : is_dated (pos 2_932_896) ≡ true
is_dated-last = refl

is_dated-after : is_dated (pos 2_932_897) ≡ false
is_dated-after = refl

-- moments
moment_at-late : moment_at (pos 1) (pos 90_000) ≡ pos 176_400
moment_at-late = refl

civil_day-before : civil_day (negsuc 0) ≡ negsuc 0
civil_day-before = refl

time_of_day-before : time_of_day (negsuc 0) ≡ 86_399
time_of_day-before = refl

civil_day-whole : civil_day (negsuc 86_399) ≡ negsuc 0
civil_day-whole = refl

time_of_day-whole : time_of_day (negsuc 86_399) ≡ 0
time_of_day-whole = refl

civil_day-late : civil_day (pos 176_400) ≡ pos 2
civil_day-late = refl

-- texts
date_text-2025_06_02 : date_text (pos 20241) ≡ codes "2025-06-02"
unfolding date_in_year date_from_year date_of date_text
date_text-2025_06_02 = refl

date_text-first : date_text (negsuc 719_161) ≡ codes "0001-01-01"
unfolding date_in_year date_from_year date_of date_text
date_text-first = refl

time_text-midnight : time_text 0 ≡ codes "00:00:00"
unfolding time_text
time_text-midnight = refl

time_text-last : time_text 86_399 ≡ codes "23:59:59"
unfolding time_text
time_text-last = refl

time_text-two_digits : time_text 359_999 ≡ codes "99:59:59"
unfolding time_text
time_text-two_digits = refl

time_text-three_digits : time_text 360_000 ≡ codes "100:00:00"
unfolding time_text
time_text-three_digits = refl

time_text-end : time_text 604_799 ≡ codes "167:59:59"
unfolding time_text
time_text-end = refl

moment_text-2025_06_02 : moment_text (moment_at (pos 20241) (pos 37_805)) ≡ codes "2025-06-02 10:30:05"
unfolding date_in_year date_from_year date_of date_text time_text
moment_text-2025_06_02 = refl

-- a day before the year 1 or after 9999, and 168 hours, have no text
date_text-none : (date_text (negsuc 719_162) ≡ []) × (date_text (pos 2_932_897) ≡ [])
unfolding date_text
date_text-none = (refl, refl)

time_text-none : time_text 604_800 ≡ []
unfolding time_text
time_text-none = refl
