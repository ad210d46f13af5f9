-- The day of a date lies from 0001-01-01 to 9999-12-31.
use Rattle.std.proofs.Common.{◌≡◌, ℕ, ◌+◌, ◌<◌, ◌≤◌, ◌⊎◌, inl, inr, refl, arith, ℤ, pos, negsuc, IsTrue, ◌≤ℤ◌}
use Rattle.std.proofs.lemmas.Bool.{cases_lt}
use Rattle.std.proofs.lemmas.Bool.Decides.{nat_tests}
use Rattle.std.proofs.lemmas.Int.{ints}
use Rattle.std.specs.Prelude.{nat_le, ◌&&◌}
use Rattle.jiff_core.specs.Calendar.{day_count, days_from_civil, days_in_month, IsCivilDate}
use Rattle.jiff_core.proofs.CalendarLemmas.{day_count-day_of_year, day_count-later_year, days_from_civil-day_count, day_count_bounds}
use Rattle.jiff_core.proofs.MarchLemmas.{day_count-early}
use Rattle.jiff_core.proofs.SignedLemmas.{signed_arith}
use borrow.Author.Differences.{up, down}
use Rattle.transit_base.specs.Dates.{day_number, is_date, is_dated}

-- no year from 1 on begins before 0001-01-01, which the calendar counts as day 3,652,791
year_late_enough : (year : ℕ) → 1 ≤ year → 3_652_791 ≤ day_count (pos year) 1 1
year_late_enough year low = step (cases_lt 1 year)
  where
    first : day_count (pos 1) 1 1 ≡ 3_652_791
    first = day_count-early (pos 1) 10000 1 1 refl (omega arith) (omega arith) (omega arith)

    step : (1 < year) ⊎ (year ≤ 1) → 3_652_791 ≤ day_count (pos year) 1 1
    step (inl lt) = omega (arith, first, day_count-later_year (pos 1) (pos year) (omega (arith, signed_arith)) (omega (arith, signed_arith)))
    step (inr le) = let same : year ≡ 1 = omega arith in rw same (omega (arith, first))

-- the parts of a date that exists
date_parts : (year month day limit : ℕ) → IsTrue (nat_le 1 year && nat_le year 9999 && nat_le 1 month && nat_le month 12 && nat_le 1 day && nat_le day limit)
    → (1 ≤ year) × (year ≤ 9999) × (1 ≤ month) × (month ≤ 12) × (1 ≤ day) × (day ≤ limit)
date_parts year month day limit exists = grind (arith, nat_tests)

within_ends : (day : ℤ) → negsuc 719_161 ≤ℤ day → day ≤ℤ pos 2_932_896 → IsTrue (is_dated day)
within_ends day low high = grind (arith, ints)

-- a date's day lies from 0001-01-01 to 9999-12-31
pub is_dated-day_number : (year month day : ℕ) → IsTrue (is_date year month day) → IsTrue (is_dated (day_number year month day))
is_dated-day_number year month day exists =
    let parts = date_parts year month day (days_in_month (pos year) month) exists in
    let date : IsCivilDate (pos year) month day = ((omega (arith, signed_arith), omega (arith, signed_arith)), (parts.2, parts.3), (parts.4, parts.5)) in
    let early : day_count (pos year) month day ≤ 7_304_849 = (day_count_bounds (pos year) month day date).1 in
    let late : 3_652_791 ≤ day_count (pos year) month day = omega (arith, date.2.0, year_late_enough year parts.0, day_count-day_of_year (pos year) month day date.2.0) in
    let count : up (days_from_civil (pos year) month day) + 4_371_953 ≡ down (days_from_civil (pos year) month day) + day_count (pos year) month day = days_from_civil-day_count (pos year) month day in
    within_ends (days_from_civil (pos year) month day) (omega (arith, signed_arith)) (omega (arith, signed_arith))
