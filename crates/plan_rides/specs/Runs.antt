-- Runs: trips on a day on which they go, with one of their shifts.
use Rattle.std.specs.Prelude.{◌≡◌, ◌<◌, true, length, Contains, ℤ, pos, negsuc, ◌≤ℤ◌}
use Rattle.transit_base.specs.declared.calendar.Day.{Day}
use Rattle.transit_base.specs.declared.numbers.TripId.{TripId}
use Rattle.feed_rows.specs.FeedRows.{FeedRows}
use Rattle.feed_rows.specs.Limits.{least_shift, most_shift}
use Rattle.feed_rows.specs.Rides.{runs_on}
use Rattle.feed_rows.specs.Shifts.{shifts_of}

-- a trip of a feed on a day, with a shift
pub record RunOf : Type 0 where
  pub feed : FeedRows
  pub trip : TripId
  pub day : Day
  pub shift : ℤ

abbrev pub run_of : FeedRows → TripId → Day → ℤ → RunOf
run_of feed trip day shift = record { feed = feed; trip = trip; day = day; shift = shift }

-- the trip is one of the feed and runs on the day, which lies within the bounds of days
pub record IsServed (feed : FeedRows) (trip : TripId) (day : Day) : Type 0 where
  pub inside : trip.0 < length feed.trips
  pub low : negsuc 799_999 ≤ℤ day.0
  pub high : day.0 ≤ℤ pos 3_000_000
  pub runs : runs_on feed trip day.0 ≡ true

-- the trip runs on the day, and the shift is one of its runs'
pub record IsRun (run : RunOf) : Type 0 where
  pub served : IsServed run.feed run.trip run.day
  pub runs_so : Contains (shifts_of run.feed run.trip) run.shift
  pub low : least_shift ≤ℤ run.shift
  pub high : run.shift ≤ℤ most_shift
