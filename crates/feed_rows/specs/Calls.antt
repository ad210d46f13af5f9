-- The calls of a trip, in order of stop_sequence and with all times filled. (GTFS Schedule Reference: stop_times.txt;
-- how times are filled is the profile's.)
use Rattle.std.specs.Prelude.{ℕ, ◌+◌, ◌-◌, ◌*◌, ◌/◌, Bool, ◌&&◌, ◌==◌, nat_le, nat_lt, if◌then◌else◌, List, [], ◌∷◌, length, filter, slice_get, Option, is_some, unwrap_or, option_map, option_and_then}
use Rattle.std.specs.Option.{option_or, option_map_or}
use Rattle.transit_base.specs.declared.numbers.TripId.{TripId}
use Rattle.feed_rows.specs.declared.rows.StopTimeRow.{StopTimeRow}
use Rattle.feed_rows.specs.declared.journeys.Call.{Call}
use Rattle.feed_rows.specs.FeedRows.{FeedRows}
use Rattle.plain_laws.specs.Plain.{at_and, collect_below, find_below, last_below}

-- the row put before the first one whose sequence is not less
abbrev pub in_its_place : StopTimeRow → List StopTimeRow → List StopTimeRow
in_its_place row [] = row ∷ []
in_its_place row (r ∷ rs) = if nat_le row.sequence r.sequence then row ∷ r ∷ rs else r ∷ in_its_place row rs

-- the rows in order of stop_sequence, those of one sequence in file order
abbrev pub in_sequence : List StopTimeRow → List StopTimeRow
in_sequence [] = []
in_sequence (r ∷ rs) = in_its_place r (in_sequence rs)

-- the stop times of a trip, in order of stop_sequence
abbrev pub trip_stop_times : FeedRows → TripId → List StopTimeRow
trip_stop_times feed trip = in_sequence (filter (λ r. r.trip.0 == trip.0) feed.stop_times)

-- a row's arrival, or its departure where the arrival is empty
abbrev pub first_time : StopTimeRow → Option ℕ
first_time row = option_or row.arrival row.departure

-- a row's departure, or its arrival where the departure is empty
abbrev pub last_time : StopTimeRow → Option ℕ
last_time row = option_or row.departure row.arrival

-- the row has a time
abbrev pub is_timed : StopTimeRow → Bool
is_timed row = is_some (first_time row)

-- the position of the nearest timed row before position m
abbrev pub timed_before : List StopTimeRow → ℕ → Option ℕ
timed_before rows m = last_below m (λ p. at_and rows p is_timed)

-- the position of the nearest timed row after position m
abbrev pub timed_after : List StopTimeRow → ℕ → Option ℕ
timed_after rows m = find_below (length rows) (λ q. nat_lt m q && at_and rows q is_timed)

-- the time at position m where position p is left at the one time and position q reached at the other: their distance
-- is spread evenly over the positions, in whole seconds
abbrev pub time_between : ℕ → ℕ → ℕ → ℕ → ℕ → ℕ
time_between p m q left reached = left + ((m - p) * (reached - left)) / (q - p)

-- the time of a row without times, between the nearest timed rows; none where one of these is lacking
abbrev pub filled_time : List StopTimeRow → ℕ → Option ℕ
filled_time rows m =
    option_and_then
    (λ p. option_and_then
    (λ q. option_and_then
    (λ left. option_map (time_between p m q left) (option_and_then first_time (slice_get rows q)))
    (option_and_then last_time (slice_get rows p)))
    (timed_after rows m))
    (timed_before rows m)

-- the call at position m of a trip's rows
unfoldable pub call_at : List StopTimeRow → ℕ → Option Call
call_at rows m =
    option_and_then
    (λ row. option_and_then
    (λ arrival. option_map
    (λ departure. record {
      stop = row.stop;
      sequence = row.sequence;
      arrival = arrival;
      departure = departure;
      pickup = row.pickup;
      drop_off = row.drop_off;
    })
    (option_or (last_time row) (filled_time rows m)))
    (option_or (first_time row) (filled_time rows m)))
    (slice_get rows m)

-- the calls of a trip; none where a time can't be filled, as no sound feed has it
unfoldable pub calls_of : FeedRows → TripId → List Call
calls_of feed trip =
    let rows = trip_stop_times feed trip in unwrap_or (collect_below (length rows) (call_at rows)) []

-- the departure from a trip's first call, and 0 where it has no call
abbrev pub first_departure : FeedRows → TripId → ℕ
first_departure feed trip = option_map_or (λ c. c.departure) (slice_get (calls_of feed trip) 0) 0
