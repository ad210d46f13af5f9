-- The rides that the words of `price` name over a feed.
use Rattle.std.specs.Prelude.{ℕ, ◌+◌, ◌-◌, ◌==◌, not, List, length, Option, Some, None, Result, Ok, Err, ℤ, pos, ◌-ℤ◌}
use Rattle.transit_base.specs.declared.numbers.TripId.{TripId}
use Rattle.plain_laws.specs.Plain.{when, find_below, given}
use Rattle.commands.specs.NumberedItems.{read_each}
use Rattle.feed_rows.specs.FeedRows.{FeedRows}
use Rattle.feed_rows.specs.Calls.{first_departure}
use Rattle.feed_rows.specs.Shifts.{has_frequencies}
use Rattle.feed_rows.specs.Rides.{is_ride}
use Rattle.feed_rows.specs.Journeys.{catches_next}
use Rattle.feed_rows.specs.RideWords.{RideWord}
use Rattle.commands.specs.Requests.{PriceRequest}
use Rattle.feed_rows.specs.RowsById.{call_position, find_trip}
use Rattle.commands.specs.Queries.{chosen_buyer}
use Rattle.commands.specs.UsageFaults.{unless_fault}
use Rattle.feed_rows.specs.declared.journeys.Buyer.{Buyer}
use Rattle.feed_rows.specs.declared.journeys.Ride.{Ride}
use Rattle.commands.specs.declared.usage.UsageFault.{UsageFault}
use Rattle.commands.specs.declared.usage.UsageFault.TheVariants as usage

-- the shift of the run that a word names: 0 without a start, which is right for a trip without frequency rows alone, and
-- else the seconds by which the run departs later than the trip's own first departure, right for a trip with such rows
abbrev pub named_shift : FeedRows → TripId → Option ℕ → Option ℤ
named_shift feed trip None = when (not (has_frequencies feed trip)) (pos 0)
named_shift feed trip (Some start) = when (has_frequencies feed trip) (pos start -ℤ pos (first_departure feed trip))

-- the ride of the feed that a word names
unfoldable pub named_ride : FeedRows → RideWord → Option Ride
named_ride feed word =
    given (find_trip feed word.trip) (λ trip.
    given (named_shift feed trip word.start) (λ shift.
    given (call_position feed trip word.from) (λ from.
    given (call_position feed trip word.to) (λ to.
    let ride : Ride = record { trip = trip; day = record { 0 = word.day }; shift = shift; from = from; to = to } in
    when (is_ride feed ride) ride))))

-- the rides that the words name, or the number, from 1, of the first that names none
abbrev pub named_rides : FeedRows → List RideWord → Result (List Ride) UsageFault
named_rides feed words = read_each (named_ride feed) usage.NoSuchRide words

-- the first ride, counted from 0, from which the next isn't caught
abbrev pub first_missed : FeedRows → List Ride → Option ℕ
first_missed feed rides = find_below (length rides - 1) (λ i. not (catches_next feed rides i))

-- the rides, or the number, from 1, of the first from which the next isn't caught
abbrev pub unless_missed : List Ride → Option ℕ → Result (List Ride) UsageFault
unless_missed rides None = Ok rides
unless_missed rides (Some i) = Err (usage.NoChange (i + 1))

-- rides to be priced for a buyer
pub record PriceQuery : Type 0 where
  pub rides : List Ride
  pub buyer : Buyer

-- the rides and the buyer, or the first fault of the names that the words give: rides that the feed lacks come before
-- changes that can't be made, and these before the rider
abbrev pub price_query_of : FeedRows → PriceRequest → Result PriceQuery UsageFault
price_query_of feed request =
    unless_fault (named_rides feed request.rides) (λ named.
    unless_fault (unless_missed named (first_missed feed named)) (λ rides.
    unless_fault (chosen_buyer feed request.rider) (λ buyer.
    Ok (record { rides = rides; buyer = buyer }))))
