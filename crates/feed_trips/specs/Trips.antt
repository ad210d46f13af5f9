-- What contracts see of `Trips`, and what holds of its tables.
use Rattle.std.specs.Prelude.{◌≡◌}
use Rattle.feed_rows.specs.FeedRows.{FeedRows}
use Rattle.feed_rows.specs.SoundFeed.{IsSoundFeed}
use Rattle.feed_trips.specs.declared.trips.Trips.TheInside.{Inside}
use Rattle.feed_trips.specs.Tables.{trip_calls, trip_runs}

-- the feed that the tables are of
abbrev pub feed_inside : Inside → FeedRows
feed_inside fields = fields.feed.now

-- the tables have the calls and the frequency rows of the trips of a feed without a fault
pub record AreTablesOf (feed : FeedRows) (fields : Inside) : Type 0 where
  pub sound : IsSoundFeed feed
  pub calls : fields.calls ≡ trip_calls feed
  pub runs : fields.frequencies ≡ trip_runs feed
