-- The facts of a ride by the calls of its trip.
use Rattle.std.proofs.Common.{◌≡◌, refl, sym, ℕ, true, false, List, All, Some, None}
use Rattle.std.specs.Prelude.{slice_get}
use Rattle.plain_laws.proofs.Laws.{All-slice_get}
use Rattle.feed_rows.specs.declared.journeys.Call.{Call}
use Rattle.feed_rows.specs.declared.journeys.Ride.{Ride}
use Rattle.feed_rows.specs.FeedRows.{FeedRows}
use Rattle.feed_rows.specs.Calls.{calls_of}
use Rattle.feed_rows.specs.Rides.{is_ride, facts_between, ride_facts}

-- a ride that isn't one of the feed has none
pub no_ride : (feed : FeedRows) (ride : Ride) → false ≡ is_ride feed ride → None ≡ ride_facts feed ride
unfolding ride_facts
no_ride feed ride is = rw (← is) refl

module _ (feed : FeedRows) (ride : Ride) (calls : List Call) (are : calls ≡ calls_of feed ride.trip) (is : true ≡ is_ride feed ride) where
  -- nor has one whose call to board at, or to alight at, isn't there
  pub no_boarding : None ≡ slice_get calls ride.from → None ≡ ride_facts feed ride
  unfolding ride_facts
  no_boarding none = rw (← is, ← are, ← none) refl

  pub no_alighting : (boarding : Call) → Some boarding ≡ slice_get calls ride.from → None ≡ slice_get calls ride.to →
      None ≡ ride_facts feed ride
  unfolding ride_facts
  no_alighting boarding first none = rw (← is, ← are, ← first, ← none) refl

  -- a ride has those between its two calls
  pub ride_between : (boarding alighting : Call) → Some boarding ≡ slice_get calls ride.from →
      Some alighting ≡ slice_get calls ride.to → Some (facts_between feed ride boarding alighting) ≡ ride_facts feed ride
  unfolding ride_facts
  ride_between boarding alighting first last = rw (← is, ← are, ← first, ← last) refl

-- a call of a list is as each of them is
pub each_call : (P : Call → Type 0) (calls : List Call) (place : ℕ) (call : Call) → All P calls →
    Some call ≡ slice_get calls place → P call
each_call P calls place call all at = All-slice_get P calls place call (sym at) all
