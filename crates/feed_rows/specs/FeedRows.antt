-- The rows of a feed: one list for each file, in file order, with the names that have no rows of their own.
use Rattle.std.specs.Prelude.{ℕ, Bool, List, Option}
use Rattle.feed_rows.specs.declared.rows.StopRow.{StopRow}
use Rattle.feed_rows.specs.declared.rows.RouteRow.{RouteRow}
use Rattle.feed_rows.specs.declared.rows.TripRow.{TripRow}
use Rattle.feed_rows.specs.declared.rows.StopTimeRow.{StopTimeRow}
use Rattle.feed_rows.specs.declared.rows.ServiceRow.{ServiceRow}
use Rattle.feed_rows.specs.declared.rows.ExceptionRow.{ExceptionRow}
use Rattle.feed_rows.specs.declared.rows.FrequencyRow.{FrequencyRow}
use Rattle.feed_rows.specs.declared.rows.LinkRow.{LinkRow}
use Rattle.feed_rows.specs.declared.rows.AreaRow.{AreaRow}
use Rattle.feed_rows.specs.declared.rows.StopAreaRow.{StopAreaRow}
use Rattle.feed_rows.specs.declared.rows.TimeframeRow.{TimeframeRow}
use Rattle.feed_rows.specs.declared.rows.RiderRow.{RiderRow}
use Rattle.feed_rows.specs.declared.rows.MediumRow.{MediumRow}
use Rattle.feed_rows.specs.declared.rows.ProductRow.{ProductRow}
use Rattle.feed_rows.specs.declared.rows.LegRuleRow.{LegRuleRow}
use Rattle.feed_rows.specs.declared.rows.TransferRuleRow.{TransferRuleRow}
use Rattle.feed_rows.specs.declared.rows.JoinRow.{JoinRow}

-- the lists of a feed
pub record FeedRows : Type 0 where
  -- stops.txt, routes.txt, trips.txt, stop_times.txt
  pub stops : List StopRow
  pub routes : List RouteRow
  pub trips : List TripRow
  pub stop_times : List StopTimeRow
  -- calendar.txt and calendar_dates.txt
  pub services : List ServiceRow
  pub exceptions : List ExceptionRow
  -- frequencies.txt, transfers.txt without the rows that are passed over
  pub frequencies : List FrequencyRow
  pub links : List LinkRow
  -- areas.txt, stop_areas.txt, timeframes.txt
  pub areas : List AreaRow
  pub stop_areas : List StopAreaRow
  pub timeframes : List TimeframeRow
  -- rider_categories.txt, fare_media.txt, fare_products.txt
  pub riders : List RiderRow
  pub media : List MediumRow
  pub products : List ProductRow
  -- fare_leg_rules.txt, fare_transfer_rules.txt, fare_leg_join_rules.txt
  pub leg_rules : List LegRuleRow
  pub transfer_rules : List TransferRuleRow
  pub joins : List JoinRow
  -- the names of services, networks, timeframe groups, products and leg groups, by first appearance
  pub service_names : List (List ℕ)
  pub network_names : List (List ℕ)
  pub frame_names : List (List ℕ)
  pub product_names : List (List ℕ)
  pub group_names : List (List ℕ)
  -- fare_leg_rules.txt has the column rule_priority
  pub has_priority : Bool
  -- the currency of fare_products.txt, if it has a row, and the decimals of its amounts
  pub currency : Option (List ℕ)
  pub decimals : ℕ
