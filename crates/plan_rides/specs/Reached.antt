-- Positions of patterns that a traveller gets to, and the rides from there.
use Rattle.std.specs.Prelude.{◌≡◌, ◌⊎◌, ⊤, ℕ, true, List, [], Contains, Option, None, Some, IfSome, ℤ, pos, ◌+ℤ◌, ◌≤ℤ◌}
use Rattle.std.specs.List.Sorted.{IsSortedByKey}
use Rattle.std.specs.Ordering.{nat_cmp, int_cmp, ordering_then}
use Rattle.feed_rows.specs.declared.journeys.Query.{Query}
use Rattle.feed_rows.specs.declared.journeys.Ride.{Ride}
use Rattle.feed_rows.specs.declared.journeys.RideFacts.{RideFacts}
use Rattle.feed_rows.specs.FeedRows.{FeedRows}
use Rattle.feed_rows.specs.JourneyStands.{Stand, way_to}
use Rattle.feed_rows.specs.Rides.{ride_facts}
use Rattle.plain_laws.specs.Adds.{Adds, OnlyBesides}
use Rattle.plan_patterns.specs.Grouping.{PatternOf}
use Rattle.plan_rides.specs.declared.caught.CaughtRide.{CaughtRide}
use Rattle.plan_rides.specs.declared.positions.Reached.{Reached}
use Rattle.plan_rides.specs.Cutoffs.{AreLastDepartures, CutoffOf, IsEarlyRide, is_early}
use Rattle.plan_rides.specs.Departures.{Serves, TakesServing}
use Rattle.plan_rides.specs.InTime.{HasRide, deadline, next_in_time}

-- a feed, a query over it, and the patterns of its runs
pub record Positioned : Type 0 where
  pub feed : FeedRows
  pub query : Query
  pub patterns : List PatternOf

abbrev pub positioned : FeedRows → Query → List PatternOf → Positioned
positioned feed query patterns = record { feed = feed; query = query; patterns = patterns }

-- riders may board at the position, whose stop one gets to from here at this very moment
pub record IsReachedFrom (me : Positioned) (stand : Stand) (reached : Reached) : Type 0 where
  pub serves : Serves me.feed me.patterns reached.stop.0 reached.serving
  pub way : ℕ
  pub way_is : way_to me.feed me.query stand reached.stop ≡ Some way
  pub at : reached.earliest.0 ≡ stand.at +ℤ pos way

-- the ride boards at a position that is listed with this number
abbrev pub IsReachedIn : Positioned → List Reached → ℕ → Ride → Type 0
IsReachedIn me list number ride =
    (reached : Reached) × Contains list reached × (reached.number ≡ number) × TakesServing me.patterns reached.serving ride

-- any ride
abbrev pub IsAny : Ride → Type 0
IsAny ride = ⊤

-- the new list has what it had, and with this number the positions at which the rides of this part board that are caught from
-- here in time and arrive early enough, whatever is early enough, as long as none of them departs too late; what else it has
-- is reached from here
pub record AddsReached (me : Positioned) (lasts : CutoffOf) (stand : Stand) (number : ℕ) (Part : Ride → Type 0)
    (old new : List Reached) : Type 0 where
  pub still : (reached : Reached) → Contains old reached → Contains new reached
  pub all : (latest : CutoffOf) → AreLastDepartures me.feed me.query latest lasts → (ride : Ride) (next : Stand) →
      next_in_time me.feed me.query stand ride ≡ Some next → is_early latest next.stop.0 next.at ≡ true → Part ride →
      IsReachedIn me new number ride
  pub right : (reached : Reached) → Contains new reached →
      Contains old reached ⊎ ((reached.number ≡ number) × IsReachedFrom me stand reached)

-- the ride goes so, boards at this stop, departs no earlier than this, and arrives in time
pub record IsFound (feed : FeedRows) (query : Query) (stop : ℕ) (from : ℤ) (caught : CaughtRide) : Type 0 where
  pub goes : ride_facts feed caught.ride ≡ Some caught.facts
  pub boards : caught.facts.from.0 ≡ stop
  pub since : from ≤ℤ caught.facts.departure.0
  pub until : caught.facts.arrival.0 ≤ℤ deadline query

-- the ride is of this part, and gets somewhere early enough
abbrev pub IsEarlyOf : FeedRows → Query → CutoffOf → (Ride → Type 0) → Ride → Type 0
IsEarlyOf feed query latest Part ride = (facts : RideFacts) × IsEarlyRide feed query latest ride facts × Part ride

-- the new list has what it had, and each ride of this part that gets somewhere early enough; what else it has boards at this
-- stop, departs no earlier than this, and arrives in time
abbrev pub AddsFound : FeedRows → Query → CutoffOf → ℕ → ℤ → (Ride → Type 0) → List CaughtRide → List CaughtRide → Type 0
AddsFound feed query latest stop from Part =
    Adds (OnlyBesides (IsFound feed query stop from)) HasRide (IsEarlyOf feed query latest Part)

-- the ride boards at the position, no earlier than one is there
pub record IsFromReached (me : Positioned) (reached : Reached) (ride : Ride) : Type 0 where
  pub takes : TakesServing me.patterns reached.serving ride
  pub facts : RideFacts
  pub goes : ride_facts me.feed ride ≡ Some facts
  pub since : reached.earliest.0 ≤ℤ facts.departure.0

-- it is the same position, and one gets there no later
pub record IsNoLater (one other : Reached) : Type 0 where
  pub serving : one.serving ≡ other.serving
  pub stop : one.stop ≡ other.stop
  pub early : one.earliest.0 ≤ℤ other.earliest.0

-- among the rides are those from the position for whoever gets there then; each boards at its stop, and arrives in time
pub record HoldsFrom (me : Positioned) (latest : CutoffOf) (reached : Reached) (rides : List CaughtRide) : Type 0 where
  pub all : (ride : Ride) (facts : RideFacts) → IsEarlyRide me.feed me.query latest ride facts → IsFromReached me reached ride →
      HasRide rides ride
  pub right : (caught : CaughtRide) → Contains rides caught →
      IsFound me.feed me.query reached.stop.0 caught.facts.departure.0 caught

-- the position that was asked for last, and rides
pub record Kept : Type 0 where
  pub of : Option Reached
  pub rides : List CaughtRide

abbrev pub none_kept : Kept
none_kept = record { of = None; rides = [] }

-- the rides are those from the position, where there is one
abbrev pub AreKept : Positioned → CutoffOf → Kept → Type 0
AreKept me latest kept = IfSome kept.of (λ of. HoldsFrom me latest of kept.rides)

-- ---- the order of positions

-- by what positions are put in order: the pattern, the place there, and when one gets there
abbrev pub order_key : Reached → ℕ × ℕ × ℤ
order_key reached = (reached.serving.pattern, reached.serving.position, reached.earliest.0)

-- so these positions stand
abbrev pub ArePutInOrder : List Reached → Type 0
ArePutInOrder list =
    IsSortedByKey order_key
    (λ x y. ordering_then (ordering_then (nat_cmp x.0 y.0) (nat_cmp x.1 y.1)) (int_cmp x.2 y.2)) list
