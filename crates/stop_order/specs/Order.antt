-- What neighbours in an order of stop times tell of a row, where the order has a row of the file at each place; and rows of the
-- file whose trips stand together, so that its own order is one.
use Rattle.std.specs.Prelude.{◌≡◌, ℕ, zero, suc, ◌+◌, ◌-◌, ◌<◌, ◌≤◌, ◌==◌, ◌⊎◌, ◌&&◌, ◌||◌, not, nat_lt, if◌then◌else◌, Bool, true, false, List, [], ◌∷◌, length, get_or, All, Option, None, Some, option_map}
use Rattle.std.specs.List.{flat_map}
use Rattle.std.specs.Option.{option_or}
use Rattle.plain_laws.specs.Plain.{list_below}
use Rattle.transit_base.specs.declared.numbers.TripId.{TripId}
use Rattle.feed_faults.specs.StopTimeRelations.{is_earlier}
use Rattle.stop_order.specs.declared.keys.PlaceKey.{PlaceKey}
use Rattle.stop_order.specs.declared.times.OrderFaults.{OrderFaults}
use Rattle.stop_order.specs.declared.times.TripTime.{TripTime}
use Rattle.stop_order.specs.Numbered.{numbered_at, is_one_trip, is_timed, first_time, last_time, no_faults, AreAllOrNone}

-- the key of a row
abbrev pub key_of : List TripTime → ℕ → PlaceKey
key_of times row =
    record {
      trip = option_map (λ trip. trip.0) (numbered_at times row).trip;
      sequence = (numbered_at times row).sequence;
      row = row;
    }

-- the row at a place of keys; past them, and so of no keys, a row has the place that it has in the file
abbrev pub row_at : List PlaceKey → ℕ → ℕ
row_at keys place = (get_or keys place (record { trip = None; sequence = 0; row = place })).row

-- each place of so many has a row, and no place before it has the same
pub record ArePlaced (rows : ℕ) (row : ℕ → ℕ) : Type 0 where
  pub own : (place : ℕ) → place < rows → row place < rows
  pub apart : (i j : ℕ) → i < j → j < rows → row i ≡ row j → ⊥

-- the trip of a row
abbrev pub trip_at : List TripTime → ℕ → Option TripId
trip_at times row = (numbered_at times row).trip

-- one sequence is less than another, or the same of a lesser row
abbrev pub Before : ℕ → ℕ → ℕ → ℕ → Type 0
Before s t a b = (s < t) ⊎ ((s ≡ t) × (a < b))

-- each row has a place, and the rows of a trip stand together, by sequence and within a sequence by row
pub record AreOrdered (times : List TripTime) (row : ℕ → ℕ) : Type 0 where
  pub own : (place : ℕ) → place < length times → row place < length times
  pub placed : (r : ℕ) → r < length times → (place : ℕ) × (place < length times) × (row place ≡ r)
  pub together : (i k j : ℕ) → i ≤ k → k ≤ j → j < length times → trip_at times (row i) ≡ trip_at times (row j) → trip_at times (row k) ≡ trip_at times (row j)
  pub in_order : (i j : ℕ) → i < j → j < length times → trip_at times (row i) ≡ trip_at times (row j) → Before (numbered_at times (row i)).sequence (numbered_at times (row j)).sequence (row i) (row j)

-- a place goes on with the trip of the one before it
unfoldable pub continues_trip : List TripTime → (ℕ → ℕ) → ℕ → Bool
continues_trip times row place =
    nat_lt 0 place && nat_lt place (length times) && is_one_trip (trip_at times (row (place - 1))) (trip_at times (row place))

-- the keys of the rows from one on, of so many, that go on with the trip of the row before it
unfoldable pub keys_on : List TripTime → ℕ → ℕ → List PlaceKey
keys_on times zero row = []
keys_on times (suc more) row = if continues_trip times (row_at []) row then key_of times row ∷ keys_on times more (row + 1) else []

-- the keys of a row and of those that go on with its trip
abbrev pub stretch_from : List TripTime → ℕ → List PlaceKey
stretch_from times row = key_of times row ∷ keys_on times (length times - (row + 1)) (row + 1)

-- with each of these keys a stretch begins, and together they have all rows in the order of the file
pub record AreFirst (times : List TripTime) (firsts : List PlaceKey) : Type 0 where
  pub within : All (λ key. key.row < length times) firsts
  pub joined : flat_map (λ key. stretch_from times key.row) firsts ≡ list_below (length times) (key_of times)

-- the last time of the nearest timed place before this one in its trip
unfoldable pub time_before : List TripTime → (ℕ → ℕ) → ℕ → Option ℕ
time_before times row zero = None
time_before times row (suc k) =
    if continues_trip times row (suc k) then option_or (last_time (numbered_at times (row k))) (time_before times row k) else None

-- what is wrong at a place, as its neighbours tell it
unfoldable pub place_faults : List TripTime → (ℕ → ℕ) → ℕ → OrderFaults
place_faults times row place =
    let time = numbered_at times (row place) in
    record {
      is_repeated = continues_trip times row place && ((numbered_at times (row (place - 1))).sequence == time.sequence);
      is_end_time_missing = not (is_timed time) && (not (continues_trip times row place) || not (continues_trip times row (place + 1)));
      do_times_decrease = is_earlier (last_time time) (first_time time)
          || is_earlier (first_time time) (time_before times row place);
    }

-- what is wrong at the places before one stands at their rows, and no fault at other rows; and the latest time is that before
-- it, where it goes on with its trip
pub record AreTold (times : List TripTime) (row : ℕ → ℕ) (to : ℕ) (latest : Option ℕ) (faults : List OrderFaults) : Type 0 where
  pub time : (if continues_trip times row to then latest else None) ≡ time_before times row to
  pub count : AreAllOrNone (length times) faults
  pub told : (place : ℕ) → place < to → get_or faults (row place) no_faults ≡ place_faults times row place
  pub untold : (r : ℕ) → ((place : ℕ) → place < to → row place ≡ r → ⊥) → get_or faults r no_faults ≡ no_faults

-- of the rows before one, those of a trip stand together, and their sequences rise
pub record StandTogether (times : List TripTime) (to : ℕ) : Type 0 where
  pub together : (i k j : ℕ) → i ≤ k → k ≤ j → j < to → trip_at times i ≡ trip_at times j → trip_at times k ≡ trip_at times j
  pub rising : (i j : ℕ) → i < j → j < to → trip_at times i ≡ trip_at times j → (numbered_at times i).sequence < (numbered_at times j).sequence

-- and exactly their trips are marked, among as many as there are rows
pub record AreMarked (times : List TripTime) (to : ℕ) (begun : List Bool) : Type 0 where
  pub stand : StandTogether times to
  pub many : length begun ≡ length times
  pub marked : (row : ℕ) (trip : TripId) → row < to → trip_at times row ≡ Some trip → get_or begun trip.0 false ≡ true
  pub met : (trip : TripId) → get_or begun trip.0 false ≡ true → (row : ℕ) × (row < to) × (trip_at times row ≡ Some trip)

-- a row has a trip, whose number is less than that of the rows
abbrev pub IsTripFew : List TripTime → ℕ → Type 0
IsTripFew times row = (trip : TripId) × (trip_at times row ≡ Some trip) × (trip.0 < length times)

-- the rows of some trip don't stand together by rising sequences, or some row has no trip, or a trip whose number is past the rows
pub record AreScattered (times : List TripTime) : Type 0 where
  pub refutes : StandTogether times (length times) → ((row : ℕ) → row < length times → IsTripFew times row) → ⊥
