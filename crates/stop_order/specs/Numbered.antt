-- Stop times by the numbers of their trips, which may not be there, and what is wrong with them under the texts of these.
use Rattle.std.specs.Prelude.{◌≡◌, ℕ, ◌<◌, ◌==◌, ◌⊎◌, Bool, false, List, length, get_or, bytes_eq, Option, None, Some, is_some}
use Rattle.std.specs.Option.{option_eq, option_or}
use Rattle.plain_laws.specs.Plain.{list_below}
use Rattle.transit_base.specs.declared.numbers.TripId.{TripId}
use Rattle.feed_faults.specs.RowKeys.{is_repeated}
use Rattle.feed_faults.specs.StopTimeRelations.{StopTime, same_place, is_end_time_missing, do_times_decrease}
use Rattle.feed_rows.specs.declared.rows.StopTimeRow.{StopTimeRow}
use Rattle.stop_order.specs.declared.times.OrderFaults.{OrderFaults}
use Rattle.stop_order.specs.declared.times.TripTime.{TripTime}

-- past the last row
abbrev pub no_time : TripTime
no_time = record { trip = None; sequence = 0; arrival = None; departure = None }

-- the stop time of a row
abbrev pub numbered_at : List TripTime → ℕ → TripTime
numbered_at times row = get_or times row no_time

-- the stop time of a row whose trip is there
abbrev pub time_of_row : StopTimeRow → TripTime
time_of_row row = record { trip = Some row.trip; sequence = row.sequence; arrival = row.arrival; departure = row.departure }

-- its first time: the arrival, or else the departure
abbrev pub first_time : TripTime → Option ℕ
first_time time = option_or time.arrival time.departure

-- its last time: the departure, or else the arrival
abbrev pub last_time : TripTime → Option ℕ
last_time time = option_or time.departure time.arrival

-- it has a time
abbrev pub is_timed : TripTime → Bool
is_timed time = is_some (first_time time)

-- a row with the text of its trip in place of the number
abbrev pub named_time : List TripTime → (ℕ → List ℕ) → ℕ → StopTime
named_time times text row =
    record {
      trip = text row;
      sequence = (numbered_at times row).sequence;
      arrival = (numbered_at times row).arrival;
      departure = (numbered_at times row).departure;
    }

-- the rows with the texts of their trips
abbrev pub named_times : List TripTime → (ℕ → List ℕ) → List StopTime
named_times times text = list_below (length times) (named_time times text)

-- two trips have one number, or neither is there
abbrev pub is_one_trip : Option TripId → Option TripId → Bool
is_one_trip = option_eq (λ a b. a.0 == b.0)

-- the rows with the text of this row's trip are those with its trip
abbrev pub IsOneTrip : List TripTime → (ℕ → List ℕ) → ℕ → Type 0
IsOneTrip times text row =
    (other : ℕ) → other < length times
    → bytes_eq (text other) (text row) ≡ is_one_trip (numbered_at times other).trip (numbered_at times row).trip

-- what is wrong with a stop time among those of its trip
unfoldable pub faults_at : List StopTime → ℕ → OrderFaults
faults_at times row =
    record {
      is_repeated = is_repeated (same_place times) row;
      is_end_time_missing = is_end_time_missing times row;
      do_times_decrease = do_times_decrease times row;
    }

-- no fault
abbrev pub no_faults : OrderFaults
no_faults = record { is_repeated = false; is_end_time_missing = false; do_times_decrease = false }

-- a list is as long as the rows, or empty
abbrev pub AreAllOrNone : ℕ → List OrderFaults → Type 0
AreAllOrNone rows faults = (length faults ≡ rows) ⊎ (length faults ≡ 0)

-- what is wrong with each row, or none where nothing is, under every text of trips by which a row's trip has the rows that it has
pub record AreFaults (times : List TripTime) (faults : List OrderFaults) : Type 0 where
  pub count : AreAllOrNone (length times) faults
  pub value : (text : ℕ → List ℕ) (row : ℕ) → row < length times → IsOneTrip times text row → get_or faults row no_faults ≡ faults_at (named_times times text) row
