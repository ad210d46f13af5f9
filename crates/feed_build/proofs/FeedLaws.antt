-- A feed by its parts.
use Rattle.std.proofs.Common.{◌≡◌, sym, subst}
use Rattle.feed_rows.specs.FeedRows.{FeedRows}
use Rattle.feed_rows.specs.SoundFeed.{IsSoundFeed}
use Rattle.feed_faults.specs.FeedTables.{FeedTables}
use Rattle.feed_faults.specs.AcceptedFeed.{rows_of_tables}
use Rattle.feed_soundness.specs.AcceptedTables.{AreFormed, AreRelated}
use Rattle.feed_soundness.proofs.SoundRows.{sound_of_tables}

-- rows that are sound, since they are those of accepted tables
pub sound_rows : (t : FeedTables) (rows : FeedRows) → AreFormed t → AreRelated t
    → rows ≡ rows_of_tables t → IsSoundFeed rows
sound_rows t rows formed related same = subst IsSoundFeed (sym same) (sound_of_tables t formed related)

-- rows are those of tables if each list is
pub rows_are : (t : FeedTables) (rows : FeedRows)
    → rows.stops ≡ (rows_of_tables t).stops
    → rows.routes ≡ (rows_of_tables t).routes
    → rows.trips ≡ (rows_of_tables t).trips
    → rows.stop_times ≡ (rows_of_tables t).stop_times
    → rows.services ≡ (rows_of_tables t).services
    → rows.exceptions ≡ (rows_of_tables t).exceptions
    → rows.frequencies ≡ (rows_of_tables t).frequencies
    → rows.links ≡ (rows_of_tables t).links
    → rows.areas ≡ (rows_of_tables t).areas
    → rows.stop_areas ≡ (rows_of_tables t).stop_areas
    → rows.timeframes ≡ (rows_of_tables t).timeframes
    → rows.riders ≡ (rows_of_tables t).riders
    → rows.media ≡ (rows_of_tables t).media
    → rows.products ≡ (rows_of_tables t).products
    → rows.leg_rules ≡ (rows_of_tables t).leg_rules
    → rows.transfer_rules ≡ (rows_of_tables t).transfer_rules
    → rows.joins ≡ (rows_of_tables t).joins
    → rows.service_names ≡ (rows_of_tables t).service_names
    → rows.network_names ≡ (rows_of_tables t).network_names
    → rows.frame_names ≡ (rows_of_tables t).frame_names
    → rows.product_names ≡ (rows_of_tables t).product_names
    → rows.group_names ≡ (rows_of_tables t).group_names
    → rows.has_priority ≡ (rows_of_tables t).has_priority
    → rows.currency ≡ (rows_of_tables t).currency
    → rows.decimals ≡ (rows_of_tables t).decimals
    → rows ≡ rows_of_tables t
rows_are t rows e1 e2 e3 e4 e5 e6 e7 e8 e9 e10 e11 e12 e13 e14 e15 e16 e17 e18 e19 e20 e21 e22 e23 e24 e25 =
    λ i. record {
      stops = e1 i;
      routes = e2 i;
      trips = e3 i;
      stop_times = e4 i;
      services = e5 i;
      exceptions = e6 i;
      frequencies = e7 i;
      links = e8 i;
      areas = e9 i;
      stop_areas = e10 i;
      timeframes = e11 i;
      riders = e12 i;
      media = e13 i;
      products = e14 i;
      leg_rules = e15 i;
      transfer_rules = e16 i;
      joins = e17 i;
      service_names = e18 i;
      network_names = e19 i;
      frame_names = e20 i;
      product_names = e21 i;
      group_names = e22 i;
      has_priority = e23 i;
      currency = e24 i;
      decimals = e25 i;
    }
