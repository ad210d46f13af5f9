-- Where and when patterns serve stops.
use Rattle.std.specs.Prelude.{◌≡◌, ℕ, ◌<◌, Bool, ◌&&◌, List, Some, length, slice_get, All, ℤ, ◌≤ℤ◌, int_le}
use Rattle.feed_rows.specs.declared.journeys.Ride.{Ride}
use Rattle.feed_rows.specs.declared.journeys.RideFacts.{RideFacts}
use Rattle.feed_rows.specs.FeedRows.{FeedRows}
use Rattle.feed_rows.specs.Rides.{ride_facts}
use Rattle.plain_laws.specs.Adds.{Adds, AllStay}
use Rattle.plan_patterns.specs.declared.serving.Serving.{Serving}
use Rattle.plan_patterns.specs.declared.span.Span.{Span}
use Rattle.plan_patterns.specs.Grouping.{PatternOf, PatternsOf}
use Rattle.plan_patterns.specs.Servings.{list_at}
use Rattle.plan_rides.specs.declared.servings.TimedServing.{TimedServing}
use Rattle.plan_rides.specs.Boarding.{Seeking}
use Rattle.plan_rides.specs.Cutoffs.{CutoffOf, is_early}
use Rattle.plan_rides.specs.Departures.{IsSpanned, Serves, TakesServing}

-- the last departure is no earlier than the moment, and the first is early enough at the stop
abbrev pub is_open : TimedServing → ℤ → CutoffOf → ℕ → Bool
is_open timed from lasts stop = int_le from timed.last.0 && is_early lasts stop timed.first.0

-- a position at which riders may board at this stop; each ride that boards there, no earlier than the span begins, departs
-- no earlier than the first moment and no later than the last
pub record IsTimed (feed : FeedRows) (span : Span) (patterns : List PatternOf) (stop : ℕ) (timed : TimedServing) :
    Type 0 where
  pub serves : Serves feed patterns stop timed.serving
  pub bounds : (ride : Ride) (facts : RideFacts) → ride_facts feed ride ≡ Some facts →
      TakesServing patterns timed.serving ride → span.from.0 ≤ℤ facts.departure.0 →
      (timed.first.0 ≤ℤ facts.departure.0) × (facts.departure.0 ≤ℤ timed.last.0)

-- the ride boards at one of the first n of these positions
abbrev pub TakesTimed : List PatternOf → List TimedServing → ℕ → Ride → Type 0
TakesTimed patterns served n ride =
    (k : ℕ) × (k < n) × (timed : TimedServing) × (slice_get served k ≡ Some timed) × TakesServing patterns timed.serving
    ride

-- such are these positions, and each ride that may be caught at the stop boards at one of them
pub record AreTimed (feed : FeedRows) (sought : Seeking) (patterns : List PatternOf) (stop : ℕ)
    (served : List TimedServing) : Type 0 where
  pub all : (ride : Ride) (facts : RideFacts) → IsSpanned feed sought ride facts → facts.from.0 ≡ stop →
      TakesTimed patterns served (length served) ride
  pub right : All (IsTimed feed sought.scope.span patterns stop) served

-- so it is at each stop, with those that are listed by its number
pub record AreTimedStops (feed : FeedRows) (sought : Seeking) (patterns : PatternsOf)
    (by_stop : List (List TimedServing)) : Type 0 where
  pub of : patterns.feed ≡ feed
  pub each : (stop : ℕ) → AreTimed feed sought patterns.patterns stop (list_at by_stop stop)

-- the ride boards at the position, no earlier than the span begins
pub record TakesWithin (feed : FeedRows) (span : Span) (patterns : List PatternOf) (serving : Serving) (ride : Ride) :
    Type 0 where
  pub facts : RideFacts
  pub is : ride_facts feed ride ≡ Some facts
  pub since : span.from.0 ≤ℤ facts.departure.0
  pub takes : TakesServing patterns serving ride

-- the new list has what it had, and the position, where a ride boards there no earlier than the span begins; and stays
-- right
abbrev pub AddsTimed : FeedRows → Span → List PatternOf → ℕ → Serving → List TimedServing → List TimedServing → Type 0
AddsTimed feed span patterns stop serving =
    Adds (AllStay (IsTimed feed span patterns stop))
    (λ (served : List TimedServing) (ride : Ride). TakesTimed patterns served (length served) ride)
    (TakesWithin feed span patterns serving)
