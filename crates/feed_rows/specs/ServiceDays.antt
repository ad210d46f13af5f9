-- On which days a service is active. (GTFS Schedule Reference: calendar.txt, calendar_dates.txt.)
use Rattle.std.specs.Prelude.{ℕ, Bool, not, ◌&&◌, ◌||◌, ◌==◌, ℤ, pos, ◌+ℤ◌, int_le, unsigned_abs}
use Rattle.std.specs.Int.{int_rem_euclid}
use Rattle.std.specs.List.{list_any}
use Rattle.transit_base.specs.declared.numbers.ServiceId.{ServiceId}
use Rattle.feed_rows.specs.declared.rows.ServiceRow.{ServiceRow}
use Rattle.feed_rows.specs.FeedRows.{FeedRows}
use Rattle.plain_laws.specs.Plain.{at_and, int_same}

-- the weekday of a day, from 0 for Monday to 6 for Sunday; 1970-01-01 was a Thursday
abbrev pub weekday : ℤ → ℕ
weekday day = unsigned_abs (int_rem_euclid (day +ℤ pos 3) (pos 7))

-- the calendar row covers the day, both ends included, and its weekday
abbrev pub covers : ServiceRow → ℤ → Bool
covers row day = int_le row.first.0 day && int_le day row.last.0 && at_and row.days (weekday day) (λ runs. runs)

-- a calendar row of the service covers the day
abbrev pub is_covered : FeedRows → ServiceId → ℤ → Bool
is_covered feed service day = list_any (λ row. (row.service.0 == service.0) && covers row day) feed.services

-- an exception adds the day to the service
abbrev pub is_added : FeedRows → ServiceId → ℤ → Bool
is_added feed service day = list_any (λ e. (e.service.0 == service.0) && int_same e.day.0 day && e.added) feed.exceptions

-- an exception removes the day from the service
abbrev pub is_removed : FeedRows → ServiceId → ℤ → Bool
is_removed feed service day =
    list_any (λ e. (e.service.0 == service.0) && int_same e.day.0 day && not e.added) feed.exceptions

-- the service is active on the day: an exception adds it, or a calendar row covers it and no exception removes it
unfoldable pub is_active : FeedRows → ServiceId → ℤ → Bool
is_active feed service day = is_added feed service day || (is_covered feed service day && not (is_removed feed service day))
