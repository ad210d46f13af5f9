-- What holds of the stops that were built from a feed.
use Rattle.std.specs.Prelude.{◌≡◌}
use Rattle.feed_rows.specs.FeedRows.{FeedRows}
use Rattle.feed_rows.specs.StopSets.{stop_sets}
use Rattle.feed_stops.specs.declared.Stops.{Stops}

-- the stops are those of this feed
pub record AreStopsOf (feed : FeedRows) (stops : Stops) : Type 0 where
  pub rows : stops.feed.now ≡ feed
  pub sets : stops.sets ≡ stop_sets feed
