-- That a day's date is the date that the day is of.
use Rattle.std.proofs.Common.{◌≡◌, ℕ, zero, suc, ◌+◌, ◌-◌, ◌/◌, ◌%◌, ◌&&◌, nat_le, ◌<◌, ◌≤◌, inl, inr, refl, sym, ap, subst, ◌∙◌, arith, ℤ, pos, negsuc, IsTrue, ◌+ℤ◌, ◌≤ℤ◌, unsigned_abs}
use Rattle.std.proofs.lemmas.Bool.{cases_lt, lt-ltb, le-ltb, cond-true, cond-false}
use Rattle.std.proofs.lemmas.Bool.Decides.{nat_tests}
use Rattle.std.proofs.lemmas.Int.{by_lt_z, ints}
use Rattle.jiff_core.specs.Calendar.{day_count, days_from_civil, days_in_month, days_in_year, days_of_months, day_of_year, IsYear, IsCivilDate}
use Rattle.jiff_core.specs.declared.civil.date.Date.{Date}
use Rattle.jiff_core.specs.Date.{epoch_day}
use Rattle.jiff_core.proofs.CalendarLemmas.{days_of_months_more, days_of_months_mono, days_of_months-zero, days_of_months_all, day_of_year_bound, day_count-day_of_year, day_count-next_year, day_count-later_year, day_count-lt_year, days_from_civil-day_count, day_count-end}
use Rattle.jiff_core.proofs.MarchLemmas.{day_count-early}
use Rattle.jiff_core.proofs.SignedLemmas.{signed_arith}
use borrow.Author.Differences.{up, down}
use Rattle.transit_base.specs.Dates.{CivilDate, date_in_year, date_from_year, date_of, day_number, is_date, is_dated}
use Rattle.transit_base.specs.DateTexts.{date_text, civil_text}

-- how the months and the years are counted off, one step at a time
date_in_year-zero : (year month n : ℕ) → date_in_year zero year month n ≡ record { year = year; month = month; day = n + 1 }
unfolding date_in_year
date_in_year-zero year month n = refl

date_in_year-here : (more year month n : ℕ) → n < days_in_month (pos year) month → date_in_year (suc more) year month n ≡ record { year = year; month = month; day = n + 1 }
unfolding date_in_year
date_in_year-here more year month n within = cond-true _ _ _ (lt-ltb n (days_in_month (pos year) month) within)

date_in_year-past : (more year month n : ℕ) → days_in_month (pos year) month ≤ n → date_in_year (suc more) year month n ≡ date_in_year more year (month + 1) (n - days_in_month (pos year) month)
unfolding date_in_year
date_in_year-past more year month n past = cond-false _ _ _ (le-ltb n (days_in_month (pos year) month) past)

date_from_year-zero : (year n : ℕ) → date_from_year zero year n ≡ date_in_year 11 year 1 n
unfolding date_from_year
date_from_year-zero year n = refl

date_from_year-here : (more year n : ℕ) → n < days_in_year (pos year) → date_from_year (suc more) year n ≡ date_in_year 11 year 1 n
unfolding date_from_year
date_from_year-here more year n within = cond-true _ _ _ (lt-ltb n (days_in_year (pos year)) within)

date_from_year-past : (more year n : ℕ) → days_in_year (pos year) ≤ n → date_from_year (suc more) year n ≡ date_from_year more (year + 1) (n - days_in_year (pos year))
unfolding date_from_year
date_from_year-past more year n past = cond-false _ _ _ (le-ltb n (days_in_year (pos year)) past)

-- the month of a date is found from an earlier month
date_in_year-found : (more year month n later day : ℕ) → 1 ≤ month → month ≤ later → later ≤ month + more → 1 ≤ day → day ≤ days_in_month (pos year) later → n + days_of_months (pos year) (month - 1) + 1 ≡ days_of_months (pos year) (later - 1) + day → date_in_year more year month n ≡ record { year = year; month = later; day = day }
date_in_year-found zero year month n later day from below within first last place =
    let same : later ≡ month = omega arith in
    let here = rw same at place in
    let is : n + 1 ≡ day = omega arith in
    rw (date_in_year-zero year month n, same, is) refl
date_in_year-found (suc more) year month n later day from below within first last place =
    elim (cases_lt month later) as (λ _. date_in_year (suc more) year month n ≡ record { year = year; month = later; day = day }) [
      | inl lt ↦
          let next : days_of_months (pos year) month ≡ days_of_months (pos year) (month - 1) + days_in_month (pos year) month = days_of_months_more (pos year) month from in
          let before : days_of_months (pos year) month ≤ days_of_months (pos year) (later - 1) = days_of_months_mono (pos year) month (later - 1) (omega arith) in
          let past : days_in_month (pos year) month ≤ n = omega arith in
          let back : month + 1 - 1 ≡ month = omega arith in
          let on : n - days_in_month (pos year) month + days_of_months (pos year) (month + 1 - 1) + 1 ≡ days_of_months (pos year) (later - 1) + day = rw back (omega arith) in
          date_in_year-past more year month n past ∙ date_in_year-found more year (month + 1) (n - days_in_month (pos year) month) later day (omega arith) (omega arith) (omega arith) first last on
      | inr le ↦
          let same : later ≡ month = omega arith in
          let here = rw same at place in
          let is : n + 1 ≡ day = omega arith in
          let within_month : n < days_in_month (pos year) month = let there = rw same at last in omega arith in
          rw (date_in_year-here more year month n within_month, same, is) refl
    ]

-- the date in its own year
own_year : (n year month day : ℕ) → IsCivilDate (pos year) month day → n + 1 ≡ day_of_year (pos year) month day → date_in_year 11 year 1 n ≡ record { year = year; month = month; day = day }
own_year n year month day date place =
    date_in_year-found 11 year 1 n month day (omega arith) date.1.0 (omega (arith, date.1.1)) date.2.0 date.2.1 (omega (arith, days_of_months-zero (pos year)))

-- the year of a date is found from an earlier year
date_from_year-found : (more year n later month day : ℕ) → year ≤ later → later ≤ year + more → IsCivilDate (pos later) month day → n + day_count (pos year) 1 1 ≡ day_count (pos later) month day → date_from_year more year n ≡ record { year = later; month = month; day = day }
date_from_year-found zero year n later month day below within date place =
    let same : later ≡ year = omega arith in
    let own = rw same at date in
    let here : n + day_count (pos year) 1 1 ≡ day_count (pos year) month day = rw same at place in
    let rest : n + 1 ≡ day_of_year (pos year) month day = omega (arith, day_count-day_of_year (pos year) month day own.2.0) in
    rw (date_from_year-zero year n, same) (own_year n year month day own rest)
date_from_year-found (suc more) year n later month day below within date place =
    elim (cases_lt year later) as (λ _. date_from_year (suc more) year n ≡ record { year = later; month = month; day = day }) [
      | inl lt ↦
          let passed : day_count (pos year) 1 1 + days_in_year (pos year) ≤ day_count (pos later) 1 1 = day_count-later_year (pos year) (pos later) (omega (arith, signed_arith)) (omega (arith, signed_arith)) in
          let first : day_count (pos later) month day + 1 ≡ day_count (pos later) 1 1 + day_of_year (pos later) month day = day_count-day_of_year (pos later) month day date.2.0 in
          let past : days_in_year (pos year) ≤ n = omega (arith, date.2.0) in
          let next : day_count (pos (year + 1)) 1 1 ≡ day_count (pos year) 1 1 + days_in_year (pos year) = day_count-next_year (pos year) (pos (year + 1)) (omega (arith, signed_arith)) (omega (arith, signed_arith)) in
          date_from_year-past more year n past ∙ date_from_year-found more (year + 1) (n - days_in_year (pos year)) later month day (omega arith) (omega arith) date (omega arith)
      | inr le ↦
          let same : later ≡ year = omega arith in
          let own : IsCivilDate (pos year) month day = rw same at date in
          let here : n + day_count (pos year) 1 1 ≡ day_count (pos year) month day = rw same at place in
          let rest : n + 1 ≡ day_of_year (pos year) month day = omega (arith, day_count-day_of_year (pos year) month day own.2.0) in
          let within_year : n < days_in_year (pos year) = omega (arith, day_of_year_bound (pos year) month day own) in
          rw (date_from_year-here more year n within_year, same) (own_year n year month day own rest)
    ]

day_count-one : day_count (pos 1) 1 1 ≡ 3_652_791
day_count-one = day_count-early (pos 1) 10000 1 1 refl (omega arith) (omega arith) (omega arith)

-- no year from 1 on begins before 0001-01-01
day_count-from_one : (year : ℕ) → 1 ≤ year → day_count (pos 1) 1 1 ≤ day_count (pos year) 1 1
day_count-from_one year low =
    elim (cases_lt 1 year) as (λ _. day_count (pos 1) 1 1 ≤ day_count (pos year) 1 1) [
      | inl lt ↦ omega (arith, day_count-later_year (pos 1) (pos year) (omega (arith, signed_arith)) (omega (arith, signed_arith)))
      | inr le ↦ let same : year ≡ 1 = omega arith in rw same (omega arith)
    ]

-- the day number of 0001-01-01 is -719,162
from_one : (z : ℤ) (count : ℕ) → up z + 4_371_953 ≡ down z + count → 3_652_791 ≤ count → unsigned_abs (z +ℤ pos 719_162) + 3_652_791 ≡ count
from_one z count is late =
    let past : z +ℤ pos 719_162 ≡ pos (count - 3_652_791) = omega (arith, signed_arith) in
    rw past (omega arith)

-- no date of a year from 1 on lies before 0001-01-01
day_count-late_enough : (year month day : ℕ) → 1 ≤ year → IsCivilDate (pos year) month day → 3_652_791 ≤ day_count (pos year) month day
day_count-late_enough year month day low date =
    omega (arith, date.2.0, day_count-one, day_count-from_one year low, day_count-day_of_year (pos year) month day date.2.0)

is_dated_from_ends : (day : ℤ) → negsuc 719_161 ≤ℤ day → day ≤ℤ pos 2_932_896 → IsTrue (is_dated day)
is_dated_from_ends day low high = grind (arith, ints)

-- the days from 0001-01-01 to a date
days_from_one : (year month day : ℕ) → 1 ≤ year → IsCivilDate (pos year) month day → unsigned_abs (days_from_civil (pos year) month day +ℤ pos 719_162) + day_count (pos 1) 1 1 ≡ day_count (pos year) month day
days_from_one year month day low date =
    rw day_count-one (from_one (days_from_civil (pos year) month day) (day_count (pos year) month day) (days_from_civil-day_count (pos year) month day) (day_count-late_enough year month day low date))

-- the date of a date's day is that date
pub date_of-civil : (year month day : ℕ) → 1 ≤ year → IsCivilDate (pos year) month day → date_of (days_from_civil (pos year) month day) ≡ record { year = year; month = month; day = day }
unfolding date_of
date_of-civil year month day low date =
    date_from_year-found 9998 1 (unsigned_abs (days_from_civil (pos year) month day +ℤ pos 719_162)) year month day low (omega (arith, signed_arith, date.0)) date (days_from_one year month day low date)

-- a day from 0001-01-01 on is of a year from 1 on
pub year_low : (date : Date) → negsuc 719_161 ≤ℤ epoch_day date → pos 1 ≤ℤ date.year
year_low date low =
    let count = days_from_civil-day_count date.year date.month date.day in
    by_lt_z date.year (pos 1)
    (λ lt. absurd (omega (arith, signed_arith, count, low, day_count-one, day_count-lt_year date.year date.month date.day (pos 1) 1 1 (date.year_in, date.month_in, date.day_in) (omega arith) lt)))
    (λ le. le)

-- the date of the day of a date that the calendar library has, of a year from 1 on
pub date_of-epoch_day : (date : Date) (year : ℕ) → pos year ≡ date.year → pos 1 ≤ℤ date.year → date_of (epoch_day date) ≡ record { year = year; month = date.month; day = date.day }
date_of-epoch_day date year is low =
    let at_year : date.year ≡ pos year = sym is in
    let own : IsCivilDate date.year date.month date.day = (date.year_in, date.month_in, date.day_in) in
    let civil : IsCivilDate (pos year) date.month date.day = subst (λ z. IsCivilDate z date.month date.day) at_year own in
    let first : pos 1 ≤ℤ pos year = rw is low in
    ap (λ z. date_of (days_from_civil z date.month date.day)) at_year
    ∙ date_of-civil year date.month date.day (omega (arith, signed_arith)) civil

-- a date lies n days after 1 January of its year
record IsFound (year n : ℕ) (date : CivilDate) : Type 0 where
  same_year : date.year ≡ year
  civil : IsCivilDate (pos year) date.month date.day
  place : n + 1 ≡ day_of_year (pos year) date.month date.day

-- while months are left, the date that is found lies so many days after 1 January
date_in_year-is : (more year month n : ℕ) → IsYear (pos year) → 1 ≤ month → month + more ≡ 12 → n + days_of_months (pos year) (month - 1) < days_of_months (pos year) 12 → IsFound year (n + days_of_months (pos year) (month - 1)) (date_in_year more year month n)
date_in_year-is zero year month n year_in from last within =
    let same : month ≡ 12 = omega arith in
    let all : days_of_months (pos year) 12 ≡ days_of_months (pos year) 11 + days_in_month (pos year) 12 = days_of_months_more (pos year) 12 (omega arith) in
    let here : n + days_of_months (pos year) 11 < days_of_months (pos year) 12 = rw same at within in
    let civil : IsCivilDate (pos year) 12 (n + 1) = (year_in, (omega arith, omega arith), (omega arith, omega arith)) in
    rw (date_in_year-zero year month n, same) (record { same_year = refl; civil = civil; place = omega arith })
date_in_year-is (suc more) year month n year_in from last within =
    elim (cases_lt n (days_in_month (pos year) month)) as (λ _. IsFound year (n + days_of_months (pos year) (month - 1)) (date_in_year (suc more) year month n)) [
      | inl lt ↦
          let civil : IsCivilDate (pos year) month (n + 1) = (year_in, (from, omega arith), (omega arith, omega arith)) in
          rw (date_in_year-here more year month n lt) (record { same_year = refl; civil = civil; place = omega arith })
      | inr past ↦
          let next : days_of_months (pos year) month ≡ days_of_months (pos year) (month - 1) + days_in_month (pos year) month = days_of_months_more (pos year) month from in
          let back : month + 1 - 1 ≡ month = omega arith in
          let same : n - days_in_month (pos year) month + days_of_months (pos year) month ≡ n + days_of_months (pos year) (month - 1) = omega arith in
          let rest = date_in_year-is more year (month + 1) (n - days_in_month (pos year) month) year_in (omega arith) (omega arith) (rw (back, same) within) in
          rw (date_in_year-past more year month n past) (rw (back, same) at rest)
    ]

-- every day of a year has its date
own_year-is : (year n : ℕ) → IsYear (pos year) → n < days_in_year (pos year) → IsFound year n (date_in_year 11 year 1 n)
own_year-is year n year_in within =
    let same : n + days_of_months (pos year) (1 - 1) ≡ n = omega (arith, days_of_months-zero (pos year)) in
    rw same at (date_in_year-is 11 year 1 n year_in (omega arith) refl (omega (arith, days_of_months-zero (pos year), days_of_months_all (pos year))))

-- the date has the day count
record HasCount (count : ℕ) (date : CivilDate) : Type 0 where
  from_one : 1 ≤ date.year
  civil : IsCivilDate (pos date.year) date.month date.day
  is : day_count (pos date.year) date.month date.day ≡ count

-- a date of a year has the day count of the year's first day and its place
HasCount-found : (year n count : ℕ) (date : CivilDate) → 1 ≤ year → IsFound year n date → n + day_count (pos year) 1 1 ≡ count → HasCount count date
HasCount-found year n count date low found place =
    let civil : IsCivilDate (pos date.year) date.month date.day = rw found.same_year found.civil in
    record {
      from_one = omega (arith, found.same_year);
      civil = civil;
      is = rw found.same_year (omega (arith, found.place, found.civil.2.0, day_count-day_of_year (pos year) date.month date.day found.civil.2.0));
    }

-- while years are left, the date that is found has the day count
date_from_year-is : (more year n count : ℕ) → 1 ≤ year → year + more ≡ 9999 → n + day_count (pos year) 1 1 ≡ count → count < day_count (pos 10000) 1 1 → HasCount count (date_from_year more year n)
date_from_year-is zero year n count low last place within =
    let same : year ≡ 9999 = omega arith in
    let next : day_count (pos 10000) 1 1 ≡ day_count (pos 9999) 1 1 + days_in_year (pos 9999) = day_count-next_year (pos 9999) (pos 10000) (omega (arith, signed_arith)) (omega (arith, signed_arith)) in
    let here = rw same at place in
    let in_year : n < days_in_year (pos year) = rw same (omega arith) in
    rw (date_from_year-zero year n) (HasCount-found year n count (date_in_year 11 year 1 n) low (own_year-is year n (omega (arith, signed_arith)) in_year) place)
date_from_year-is (suc more) year n count low last place within =
    elim (cases_lt n (days_in_year (pos year))) as (λ _. HasCount count (date_from_year (suc more) year n)) [
      | inl lt ↦
          rw (date_from_year-here more year n lt) (HasCount-found year n count (date_in_year 11 year 1 n) low (own_year-is year n (omega (arith, signed_arith)) lt) place)
      | inr past ↦
          let next : day_count (pos (year + 1)) 1 1 ≡ day_count (pos year) 1 1 + days_in_year (pos year) = day_count-next_year (pos year) (pos (year + 1)) (omega (arith, signed_arith)) (omega (arith, signed_arith)) in
          rw (date_from_year-past more year n past) (date_from_year-is more (year + 1) (n - days_in_year (pos year)) count (omega arith) (omega arith) (omega arith) within)
    ]

-- the day count of a day's date, where 1970-01-01 has 4,371,953
date_of-is : (day : ℤ) (count : ℕ) → up day + 4_371_953 ≡ down day + count → IsTrue (is_dated day) → HasCount count (date_of day)
unfolding date_of
date_of-is day count is within =
    let ends : (negsuc 719_161 ≤ℤ day) × (day ≤ℤ pos 2_932_896) = grind (arith, ints) in
    let late : 3_652_791 ≤ count = omega (arith, signed_arith) in
    date_from_year-is 9998 1 (unsigned_abs (day +ℤ pos 719_162)) count (omega arith) refl (rw day_count-one (from_one day count is late)) (rw day_count-end (omega (arith, signed_arith)))

count_of-is : (day : ℤ) → IsTrue (is_dated day) → HasCount (up day + 4_371_953 - down day) (date_of day)
count_of-is day within =
    let ends : (negsuc 719_161 ≤ℤ day) × (day ≤ℤ pos 2_932_896) = grind (arith, ints) in
    date_of-is day (up day + 4_371_953 - down day) (omega (arith, signed_arith)) within

-- what the test of a date says, and what it is true by
date_parts : (year month day limit : ℕ) → IsTrue (nat_le 1 year && nat_le year 9999 && nat_le 1 month && nat_le month 12 && nat_le 1 day && nat_le day limit) → (1 ≤ year) × (year ≤ 9999) × (1 ≤ month) × (month ≤ 12) × (1 ≤ day) × (day ≤ limit)
date_parts year month day limit exists = grind (arith, nat_tests)

date_from_parts : (year month day limit : ℕ) → (1 ≤ year) × (year ≤ 9999) × (1 ≤ month) × (month ≤ 12) × (1 ≤ day) × (day ≤ limit) → IsTrue (nat_le 1 year && nat_le year 9999 && nat_le 1 month && nat_le month 12 && nat_le 1 day && nat_le day limit)
date_from_parts year month day limit parts = grind (arith, nat_tests)

-- the calendar has a date that passes the test
civil_date : (year month day : ℕ) → IsTrue (is_date year month day) → IsCivilDate (pos year) month day
civil_date year month day exists =
    let parts = date_parts year month day (days_in_month (pos year) month) exists in
    ((omega (arith, signed_arith), omega (arith, signed_arith)), (parts.2, parts.3), (parts.4, parts.5))

-- the day of a day's date is that day
pub day_number-date_of : (day : ℤ) → IsTrue (is_dated day) → day_number (date_of day).year (date_of day).month (date_of day).day ≡ day
day_number-date_of day within =
    let ends : (negsuc 719_161 ≤ℤ day) × (day ≤ℤ pos 2_932_896) = grind (arith, ints) in
    let count : day_count (pos (date_of day).year) (date_of day).month (date_of day).day ≡ up day + 4_371_953 - down day = (count_of-is day within).is in
    omega (arith, signed_arith, days_from_civil-day_count (pos (date_of day).year) (date_of day).month (date_of day).day)

-- a day's date exists
pub is_date-date_of : (day : ℤ) → IsTrue (is_dated day) → IsTrue (is_date (date_of day).year (date_of day).month (date_of day).day)
is_date-date_of day within =
    let has = count_of-is day within in
    date_from_parts (date_of day).year (date_of day).month (date_of day).day (days_in_month (pos (date_of day).year) (date_of day).month) (has.from_one, omega (arith, signed_arith, has.civil.0), has.civil.1.0, has.civil.1.1, has.civil.2.0, has.civil.2.1)

-- the date of a date's day is that date
pub date_of-day_number : (year month day : ℕ) → IsTrue (is_date year month day) → date_of (day_number year month day) ≡ record { year = year; month = month; day = day }
date_of-day_number year month day exists =
    date_of-civil year month day (date_parts year month day (days_in_month (pos year) month) exists).0 (civil_date year month day exists)

CivilDate-same : (first second : CivilDate) → first.year ≡ second.year → first.month ≡ second.month → first.day ≡ second.day → first ≡ second
CivilDate-same first second years months days = λ i. record { year = years i; month = months i; day = days i }

-- two dates with one text are one
civil_text-injective : (first second : CivilDate) → civil_text first ≡ civil_text second → first ≡ second
civil_text-injective first second same =
    let century_tens : 48 + first.year / 100 / 10 ≡ 48 + second.year / 100 / 10 = cc in
    let century_ones : 48 + first.year / 100 % 10 ≡ 48 + second.year / 100 % 10 = cc in
    let year_tens : 48 + first.year % 100 / 10 ≡ 48 + second.year % 100 / 10 = cc in
    let year_ones : 48 + first.year % 100 % 10 ≡ 48 + second.year % 100 % 10 = cc in
    let month_tens : 48 + first.month / 10 ≡ 48 + second.month / 10 = cc in
    let month_ones : 48 + first.month % 10 ≡ 48 + second.month % 10 = cc in
    let day_tens : 48 + first.day / 10 ≡ 48 + second.day / 10 = cc in
    let day_ones : 48 + first.day % 10 ≡ 48 + second.day % 10 = cc in
    CivilDate-same first second (omega arith) (omega arith) (omega arith)

-- two different days have different texts
pub date_text-injective : (first second : ℤ) → IsTrue (is_dated first) → IsTrue (is_dated second) → date_text first ≡ date_text second → first ≡ second
unfolding date_text
date_text-injective first second is_first is_second same =
    let date = civil_text-injective (date_of first) (date_of second) (rw (is_first, is_second) at same) in
    sym (day_number-date_of first is_first) ∙ ap (λ d. day_number d.year d.month d.day) date ∙ day_number-date_of second is_second
