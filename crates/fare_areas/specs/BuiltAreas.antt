-- What holds of the areas that were built from a feed.
use Rattle.std.specs.Prelude.{◌≡◌, slice_get, option_and_then, map}
use Rattle.transit_base.specs.declared.numbers.StopId.{StopId}
use Rattle.feed_rows.specs.FeedRows.{FeedRows}
use Rattle.feed_rows.specs.Legs.{own_areas}
use Rattle.fare_areas.specs.AreaRows.{areas_at, source_of}
use Rattle.fare_areas.specs.AreaTables.{AreaTable}

-- the areas are those of this feed
pub record AreAreasOf (feed : FeedRows) (areas : AreaTable) : Type 0 where
  pub own : (stop : StopId) → areas_at areas.own stop.0 ≡ own_areas feed stop
  pub sources : (stop : StopId) → option_and_then (λ source. source) (slice_get areas.sources stop.0) ≡ source_of feed stop
  pub networks : areas.networks ≡ map (λ row. row.network) feed.routes
