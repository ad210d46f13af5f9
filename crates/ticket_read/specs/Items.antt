-- What a line tells, by its fields. What the entries of a query need is read, and the rest passed over.
use Rattle.std.specs.Prelude.{ℕ, ◌-◌, ◌==◌, if◌then◌else◌, List, length, slice_range, Option, Some, None, ℤ, pos, ◌-ℤ◌, unsigned_abs, codes, bytes_eq}
use Rattle.transit_base.specs.declared.numbers.StopId.{StopId}
use Rattle.transit_base.specs.declared.numbers.TripId.{TripId}
use Rattle.transit_base.specs.declared.numbers.ProductRowId.{ProductRowId}
use Rattle.feed_rows.specs.declared.journeys.Ride.{Ride}
use Rattle.feed_rows.specs.FeedRows.{FeedRows}
use Rattle.feed_rows.specs.Calls.{first_departure}
use Rattle.feed_rows.specs.Numerals.{number_value}
use Rattle.feed_rows.specs.RowsById.{call_position}
use Rattle.feed_rows.specs.RowsById.{find_stop, find_trip}
use Rattle.feed_rows.specs.Rides.{ride_facts}
use Rattle.feed_rows.specs.RideWords.{start_value}
use Rattle.feed_rows.specs.WordValues.{day_value}
use Rattle.feed_faults.specs.FieldGrammars.{int_value}
use Rattle.plain_laws.specs.Plain.{given, given_last}
use Rattle.line_cuts.specs.Cuts.{field}
use Rattle.ticket_read.specs.declared.drafts.Item.{Item}
use Rattle.ticket_read.specs.declared.drafts.Item.TheVariants as item

-- a number of 32 bits
unfoldable pub number_in : List ℕ → Option ℕ
number_in text = given_last (int_value (pos 0) (pos 4_294_967_295) text) unsigned_abs

-- a row that is counted from 1
unfoldable pub row_in : List ℕ → Option ℕ
row_in text = given (number_in text) (λ number. if number == 0 then None else Some (number - 1))

-- a date of ten bytes
unfoldable pub day_in : List ℕ → Option ℤ
day_in text =
    if length text == 10
    then day_value (number_value (slice_range text 0 4)) (number_value (slice_range text 5 7)) (number_value (slice_range text 8 10))
    else None

-- the shift of the run with this first departure
unfoldable pub shift_by : FeedRows → TripId → Option ℕ → ℤ
shift_by feed trip (Some start) = pos start -ℤ pos (first_departure feed trip)
shift_by feed trip None = pos 0

-- the place of the call with this stop_sequence
unfoldable pub place_in : FeedRows → TripId → List ℕ → Option ℕ
place_in feed trip text = given (number_in text) (call_position feed trip)

-- the ride of a trip
unfoldable pub run_of : FeedRows → List (List ℕ) → TripId → Option Ride
run_of feed fields trip =
    given (day_in (field fields 2)) (λ day.
    given (start_value (field fields 3)) (λ start.
    given (place_in feed trip (field fields 4)) (λ from.
    given_last (place_in feed trip (field fields 5)) (λ to.
    record { trip = trip; day = record { 0 = day }; shift = shift_by feed trip start; from = from; to = to }))))

-- the ride of a line
unfoldable pub ride_of : FeedRows → List (List ℕ) → Option Ride
ride_of feed fields = given (find_trip feed (field fields 1)) (run_of feed fields)

-- a ride, with where it boards and alights
unfoldable pub ride_item : FeedRows → List (List ℕ) → Option Item
ride_item feed fields =
    given (ride_of feed fields) (λ ride.
    given_last (ride_facts feed ride) (λ facts. item.Ride ride facts.from facts.to))

-- the stop whose id a field is
unfoldable pub stop_in : FeedRows → List (List ℕ) → ℕ → Option StopId
stop_in feed fields place = find_stop feed (field fields place)

-- a walk
unfoldable pub walk_item : FeedRows → List (List ℕ) → Option Item
walk_item feed fields =
    given (stop_in feed fields 1) (λ from. given_last (stop_in feed fields 2) (λ to. item.Walk from to))

-- a stay
unfoldable pub stay_item : FeedRows → List (List ℕ) → Option Item
stay_item feed fields = given_last (stop_in feed fields 1) (λ stop. item.Walk stop stop)

-- a leg
unfoldable pub leg_item : List (List ℕ) → Option Item
leg_item fields =
    given (row_in (field fields 3)) (λ rule.
    given_last (row_in (field fields 4)) (λ product.
    item.Leg (record { rule = record { 0 = rule }; product = record { 0 = product } })))

-- the product row of a change, or `-` for none
unfoldable pub change_row : List ℕ → Option (Option ProductRowId)
change_row text =
    if bytes_eq text (codes "-") then Some None
    else given_last (row_in text) (λ row. Some (record { 0 = row }))

-- a change
unfoldable pub change_item : List (List ℕ) → Option Item
change_item fields =
    given (row_in (field fields 3)) (λ rule.
    given_last (change_row (field fields 4)) (λ product.
    item.Change (record { rule = record { 0 = rule }; product = product })))

-- what a line with these fields tells
unfoldable pub item_of : FeedRows → List (List ℕ) → Option Item
item_of feed fields =
    let word = field fields 0 in
    if bytes_eq word (codes "journey") then Some item.Head
    else if bytes_eq word (codes "stay") then stay_item feed fields
    else if bytes_eq word (codes "walk") then walk_item feed fields
    else if bytes_eq word (codes "ride") then ride_item feed fields
    else if bytes_eq word (codes "leg") then leg_item fields
    else if bytes_eq word (codes "change") then change_item fields
    else None
