-- The runs of an audit, and which of their rides are covered.
use Rattle.std.specs.Prelude.{◌≡◌, ◌<◌, ℕ, true, List, length, Some, slice_get, Contains, ℤ, pos, negsuc, ◌+ℤ◌, ◌≤ℤ◌}
use Rattle.transit_base.specs.declared.moments.Moment.{Moment}
use Rattle.transit_base.specs.declared.numbers.TripId.{TripId}
use Rattle.transit_base.specs.Moments.{moment_at}
use Rattle.feed_rows.specs.declared.journeys.Call.{Call}
use Rattle.feed_rows.specs.declared.journeys.Ride.{Ride}
use Rattle.feed_rows.specs.declared.journeys.RideFacts.{RideFacts}
use Rattle.feed_rows.specs.FeedRows.{FeedRows}
use Rattle.feed_rows.specs.Legs.{frames_at, stop_areas}
use Rattle.feed_rows.specs.Limits.{least_shift, most_shift}
use Rattle.feed_rows.specs.Rides.{ride_facts, runs_on, trip_network}
use Rattle.feed_rows.specs.Shifts.{shifts_of}
use Rattle.fare_audit.specs.declared.ends.End.{End}
use Rattle.fare_audit.specs.declared.found.Found.{Found}
use Rattle.fare_audit.specs.declared.walk.Run.{Run}
use Rattle.fare_audit.specs.Found.{AuditOf, IsAudited, IsCovered}

-- the ride of a run between two positions
abbrev pub ride_by : Run → ℕ → ℕ → Ride
ride_by run from to = record { trip = run.trip; day = run.day; shift = run.shift; from = from; to = to }

-- the moment of a run that is so many seconds of the service day
abbrev pub run_moment : Run → ℕ → Moment
run_moment run seconds = record { 0 = moment_at run.day.0 (run.shift +ℤ pos seconds) }

-- the run's day and shift lie within the bounds of feeds
pub record IsNearRun (run : Run) : Type 0 where
  pub day_low : negsuc 799_999 ≤ℤ run.day.0
  pub day_high : run.day.0 ≤ℤ pos 3_000_000
  pub shift_low : least_shift ≤ℤ run.shift
  pub shift_high : run.shift ≤ℤ most_shift

-- the run is one of the feed, on one of the days
pub record IsAuditedRun (audit : AuditOf) (run : Run) : Type 0 where
  pub number : ℕ
  pub within : number < audit.count
  pub day : run.day.0 ≡ audit.first +ℤ pos number
  pub runs : runs_on audit.feed run.trip run.day.0 ≡ true
  pub shift : Contains (shifts_of audit.feed run.trip) run.shift
  pub network : run.network ≡ trip_network audit.feed run.trip

-- the end is the call of the run, as fare rules see it
pub record IsEndOf (feed : FeedRows) (run : Run) (call : Call) (end : End) : Type 0 where
  pub stop : end.stop ≡ call.stop
  pub areas : stop_areas feed end.like ≡ stop_areas feed call.stop
  pub arrives : frames_at feed end.arrival ≡ frames_at feed (run_moment run call.arrival)
  pub departs : frames_at feed end.departure ≡ frames_at feed (run_moment run call.departure)
  pub pickup : end.pickup ≡ call.pickup
  pub drop_off : end.drop_off ≡ call.drop_off

-- the ends are the calls of the run
pub record AreEndsOf (feed : FeedRows) (run : Run) (calls : List Call) (ends : List End) : Type 0 where
  pub many : length ends ≡ length calls
  pub each : (k : ℕ) (end : End) → slice_get ends k ≡ Some end →
      (call : Call) × (slice_get calls k ≡ Some call) × IsEndOf feed run call end

-- each ride of the run is covered
abbrev pub CoversRun : AuditOf → Found → Run → Type 0
CoversRun audit found run =
    (from to : ℕ) (facts : RideFacts) → ride_facts audit.feed (ride_by run from to) ≡ Some facts → IsCovered audit found facts

-- the rides of the trip with this shift are covered on each of the days
abbrev pub CoversShift : AuditOf → Found → TripId → ℤ → Type 0
CoversShift audit found trip shift =
    (facts : RideFacts) (is : IsAudited audit facts) → is.ride.trip ≡ trip → is.ride.shift ≡ shift → IsCovered audit found facts

-- and those of the trip
abbrev pub CoversTrip : AuditOf → Found → TripId → Type 0
CoversTrip audit found trip =
    (facts : RideFacts) (is : IsAudited audit facts) → is.ride.trip ≡ trip → IsCovered audit found facts
