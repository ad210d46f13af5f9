-- The runs that have a ride within a span, by trip, day and shift.
use Rattle.std.specs.Prelude.{ℕ, ◌+◌, ◌-◌, ◌/◌, nat_lt, Bool, ◌&&◌, int_lt, if◌then◌else◌, List, [], length, slice_index_or, ℤ, pos, negsuc, ◌+ℤ◌, ◌-ℤ◌, ◌≤ℤ◌}
use Rattle.transit_base.specs.Limits.{day_seconds}
use Rattle.transit_base.specs.Moments.{civil_day}
use Rattle.transit_base.specs.declared.calendar.Day.{Day}
use Rattle.transit_base.specs.declared.numbers.TripId.{TripId}
use Rattle.feed_rows.specs.Calls.{calls_of}
use Rattle.feed_rows.specs.declared.journeys.Call.{Call}
use Rattle.plan_patterns.specs.declared.span.Span.{Span}
use Rattle.feed_rows.specs.FeedRows.{FeedRows}
use Rattle.feed_rows.specs.Rides.{runs_on}
use Rattle.feed_rows.specs.Shifts.{shifts_of}
use Rattle.feed_timetable.specs.ServicesOn.{services_on}
use Rattle.plain_laws.specs.Plain.{at_and, joined_below, list_below, picks_below}
use Rattle.plan_patterns.specs.declared.runs.Run.{Run}
use Rattle.plan_patterns.specs.Runs.{has_ride, moment_of}
use Rattle.plan_patterns.specs.Spans.{seconds_of}

-- the day lies within the bounds of days
pub record IsDayNear (day : Day) : Type 0 where
  pub low : negsuc 799_999 ≤ℤ day.0
  pub high : day.0 ≤ℤ pos 3_000_000

-- the run of a trip on a day with the shift at a place
abbrev pub run_with : TripId → Day → List ℤ → ℕ → Run
run_with trip day shifts place = record { trip = trip; day = day; shift = slice_index_or shifts place (pos 0) }

-- the run, of a trip with these calls, arrives at the last of them before the span begins
abbrev pub ends_before : Span → Run → List Call → Bool
ends_before span run calls =
    at_and calls (length calls - 1) (λ call. int_lt (moment_of run call.arrival) span.from.0)

-- the last run of such a trip on a day does
abbrev pub has_ended : Span → TripId → Day → List ℤ → List Call → Bool
has_ended span trip day shifts calls =
    nat_lt 0 (length shifts) && ends_before span (run_with trip day shifts (length shifts - 1)) calls

-- of such a trip's runs on a day those with the first n shifts that have a ride in the span
abbrev pub held_among : Span → TripId → Day → List ℤ → List Call → ℕ → List Run
held_among span trip day shifts calls n =
    picks_below n (λ place. has_ride span (run_with trip day shifts place) calls) (run_with trip day shifts)

-- of a trip of the feed
abbrev pub held_before : FeedRows → Span → TripId → Day → List ℤ → ℕ → List Run
held_before feed span trip day shifts n = held_among span trip day shifts (calls_of feed trip) n

-- all that have one, and none on a day on which it doesn't run
unfoldable pub held_on_day : FeedRows → Span → TripId → Day → List Run
held_on_day feed span trip day =
    if runs_on feed trip day.0
    then held_before feed span trip day (shifts_of feed trip) (length (shifts_of feed trip))
    else []

-- the first day on which a run may have one, and how many days from then on are looked at: more than enough
abbrev pub first_day : Span → ℤ
first_day span = civil_day span.from.0 -ℤ pos 13

abbrev pub days_of : Span → ℕ
days_of span = seconds_of span / day_seconds + 15

abbrev pub day_after_first : ℤ → ℕ → Day
day_after_first first days = record { 0 = first +ℤ pos days }

-- which services are active on each of these days
abbrev pub active_days : FeedRows → Span → List (List Bool)
active_days feed span =
    list_below (days_of span) (λ days. services_on feed (day_after_first (first_day span) days).0)

-- the runs of a trip that have one, on the first n of these days
abbrev pub held_on_days : FeedRows → Span → TripId → ℕ → List Run
held_on_days feed span trip n =
    joined_below n (λ days. held_on_day feed span trip (day_after_first (first_day span) days))

-- on all of them
unfoldable pub held_of_trip : FeedRows → Span → TripId → List Run
held_of_trip feed span trip = held_on_days feed span trip (days_of span)

-- a trip by its place among trips
abbrev pub trip_at : List TripId → ℕ → TripId
trip_at trips place = slice_index_or trips place (record { 0 = 0 })

-- those of the first n of these trips
abbrev pub held_of_trips : FeedRows → Span → List TripId → ℕ → List Run
held_of_trips feed span trips n = joined_below n (λ place. held_of_trip feed span (trip_at trips place))
