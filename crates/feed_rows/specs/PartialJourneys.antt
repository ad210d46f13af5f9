-- Partial journeys of a query: rides from a stop of the origin on, and how they are paid. (Profile, as journeys are.)
use Rattle.std.specs.Prelude.{ℕ, zero, suc, ◌+◌, ◌<◌, ◌≤◌, Bool, List, length, All, Option, Some, IsSome, IsTrue, ℤ, pos, ◌+ℤ◌, int_le, option_map, option_and_then}
use Rattle.transit_base.specs.declared.numbers.StopId.{StopId}
use Rattle.feed_rows.specs.declared.fares.Choice.{Choice}
use Rattle.feed_rows.specs.declared.journeys.Journey.{Journey}
use Rattle.feed_rows.specs.declared.journeys.Query.{Query}
use Rattle.feed_rows.specs.declared.journeys.Ride.{Ride}
use Rattle.feed_rows.specs.declared.states.FareState.{FareState}
use Rattle.feed_rows.specs.FeedRows.{FeedRows}
use Rattle.feed_rows.specs.Rides.{is_ride, ride_facts}
use Rattle.feed_rows.specs.Journeys.{stands_for, facts_at, catches_first, catches_next}
use Rattle.feed_rows.specs.JourneyEntries.{rides_price}
use Rattle.feed_rows.specs.Legs.{legs_of}
use Rattle.feed_rows.specs.FareStates.{held_amount, paid_amount, fare_state}
use Rattle.plain_laws.specs.Plain.{filled_and}

-- a first stop, rides from there on, and how they are paid
pub record PartialJourney : Type 0 where
  pub first : StopId
  pub rides : List Ride
  pub choice : Choice

-- the same rides as a journey that ends at this stop
abbrev pub journey_to : StopId → PartialJourney → Journey
journey_to last part = record { first = part.first; last = last; rides = part.rides }

-- the ride arrives within the query's window
abbrev pub arrives_in_window : FeedRows → Query → Ride → Bool
arrives_in_window feed query ride =
    filled_and (ride_facts feed ride) (λ facts. int_le facts.arrival.0 (query.departure.0 +ℤ pos query.window))

-- the rides are those with which a journey of the query may begin, each arriving within the window, and the choice pays
-- them
pub record IsPartialJourney (feed : FeedRows) (query : Query) (part : PartialJourney) : Type 0 where
  pub starts : IsTrue (stands_for feed query.from part.first)
  pub rides : All (λ ride. IsTrue (is_ride feed ride)) part.rides
  pub few : length part.rides ≤ query.rides
  pub begins : IsTrue (catches_first feed query (journey_to part.first part))
  pub goes_on : (i : ℕ) → i + 1 < length part.rides → IsTrue (catches_next feed part.rides i)
  pub in_time : All (λ ride. IsTrue (arrives_in_window feed query ride)) part.rides
  pub pays : IsSome (rides_price feed part.rides part.choice query.buyer)

-- where one stands after n rides: where the last of them alights, or at the first stop
abbrev pub stop_after : FeedRows → PartialJourney → ℕ → Option StopId
stop_after feed part zero = Some part.first
stop_after feed part (suc i) = option_map (λ ride. ride.to) (facts_at feed part.rides i)

-- since when one stands there: the arrival of the last of them, or the query's departure
abbrev pub time_after : FeedRows → Query → PartialJourney → ℕ → Option ℤ
time_after feed query part zero = Some query.departure.0
time_after feed query part (suc i) = option_map (λ ride. ride.arrival.0) (facts_at feed part.rides i)

-- what a search compares partial journeys by: where and since when one stands, how many rides there are, what is paid
-- and what is held of the sum, and the state of fares
pub record LabelFacts : Type 0 where
  pub stop : StopId
  pub arrival : ℤ
  pub rides : ℕ
  pub paid : ℤ
  pub held : ℤ
  pub state : Option FareState

-- what a search compares this one by
unfoldable pub label_facts : FeedRows → Query → PartialJourney → Option LabelFacts
label_facts feed query part =
    option_and_then (λ stop. option_and_then (λ time. option_map (λ legs.
    record {
      stop = stop;
      arrival = time;
      rides = length part.rides;
      paid = paid_amount feed part.choice;
      held = held_amount feed part.choice;
      state = fare_state feed legs part.choice;
    }) (legs_of feed part.rides)) (time_after feed query part (length part.rides)))
    (stop_after feed part (length part.rides))
