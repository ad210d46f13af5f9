-- The second pass: what is checked of the rows of each file among the rows of all files. The checks of a row stand in order,
-- and the first that fails counts.
use Rattle.std.specs.Prelude.{ℕ, ◌&&◌, not, Bool, true, false, List, Option}
use Rattle.feed_files.specs.declared.names.FileName.{FileName}
use Rattle.feed_files.specs.declared.names.FileName.TheVariants as file
use Rattle.feed_files.specs.declared.names.ColumnName.{ColumnName}
use Rattle.feed_files.specs.declared.names.ColumnName.TheVariants as column
use Rattle.feed_files.specs.declared.faults.FeedFault.{FeedFault}
use Rattle.feed_faults.specs.declared.checks.IdColumn.{IdColumn}
use Rattle.feed_faults.specs.declared.checks.IdColumn.TheVariants.{Stop, Trip, Route, RouteNetwork, Calendar, CalendarDate, Area, Network, NetworkRoute, TimeframeGroup, RiderCategory, FareMedia, FareProduct, LegGroup}
use Rattle.feed_faults.specs.declared.checks.RowCheck.{RowCheck}
use Rattle.feed_faults.specs.declared.checks.RowRule.{RowRule}
use Rattle.feed_faults.specs.declared.checks.RowCheck.TheVariants.{NewId, NewKey, Known, KnownInOne, KnownParent, GoodParent, AtPlatform, TimedEnds, RisingTimes, OrderedDays, GoodTimeframe, OneCurrency, GoodCount, WholeLimit, BothStops}
use Rattle.plain_laws.specs.Plain.{when, first_in}
use Rattle.feed_faults.specs.Records.{FileTable, field}
use Rattle.feed_faults.specs.FileColumns.{checks_of}
use Rattle.feed_faults.specs.FormFaults.{is_passed_over}
use Rattle.feed_faults.specs.FaultPlaces.{field_fault}
use Rattle.feed_faults.specs.FeedTables.{FeedTables, table_in}
use Rattle.feed_faults.specs.RowKeys.{is_unknown, is_repeated, is_doubled}
use Rattle.feed_faults.specs.StopRelations.{has_parent, is_parent_good}
use Rattle.feed_faults.specs.StopTimeRelations.{stop_times_of, same_place, is_end_time_missing, do_times_decrease, is_at_platform}
use Rattle.feed_faults.specs.ServiceRelations.{are_dates_reversed, same_exception, same_start}
use Rattle.feed_faults.specs.FareRelations.{is_bad_frame, same_product, is_currency_mixed, is_count_misplaced, is_limit_half, is_one_stop_named}

-- the file and the name of a column of ids
abbrev pub id_place : IdColumn → FileName × ColumnName
id_place Stop = (file.Stops, column.StopId)
id_place Trip = (file.Trips, column.TripId)
id_place Route = (file.Routes, column.RouteId)
id_place RouteNetwork = (file.Routes, column.NetworkId)
id_place Calendar = (file.Calendar, column.ServiceId)
id_place CalendarDate = (file.CalendarDates, column.ServiceId)
id_place Area = (file.Areas, column.AreaId)
id_place Network = (file.Networks, column.NetworkId)
id_place NetworkRoute = (file.RouteNetworks, column.RouteId)
id_place TimeframeGroup = (file.Timeframes, column.TimeframeGroupId)
id_place RiderCategory = (file.RiderCategories, column.RiderCategoryId)
id_place FareMedia = (file.FareMedia, column.FareMediaId)
id_place FareProduct = (file.FareProducts, column.FareProductId)
id_place LegGroup = (file.FareLegRules, column.LegGroupId)

-- a filled id stands in no row of the column
abbrev pub is_unknown_in : FeedTables → IdColumn → List ℕ → Bool
is_unknown_in t ids id = is_unknown (table_in t (id_place ids).0) (id_place ids).1 id

-- the ids of a row are looked at: not of a row of transfers.txt that is passed over
abbrev pub is_judged : FileName → FileTable → ℕ → Bool
is_judged file.Transfers table row = not (is_passed_over (field table row))
is_judged name table row = true

-- two rows of a file have one key of several columns
abbrev pub same_key : FileName → FileTable → ℕ → ℕ → Bool
same_key file.StopTimes table a b = same_place (stop_times_of table) a b
same_key file.CalendarDates table a b = same_exception table a b
same_key file.Frequencies table a b = same_start table a b
same_key file.FareProducts table a b = same_product table a b
same_key name table a b = false

-- a check of a row fails; of a row that is told under a column
abbrev pub check_fails : FeedTables → FileName → ColumnName → ℕ → RowCheck → Bool
check_fails t name told row (NewId ids) = is_doubled (table_in t (id_place ids).0) (id_place ids).1 row
check_fails t name told row NewKey = is_repeated (same_key name (table_in t name)) row
check_fails t name told row (Known ids) =
    is_judged name (table_in t name) row && is_unknown_in t ids (field (table_in t name) row told)
check_fails t name told row (KnownInOne ids others) =
    is_judged name (table_in t name) row
    && is_unknown_in t ids (field (table_in t name) row told) && is_unknown_in t others (field (table_in t name) row told)
check_fails t name told row KnownParent =
    has_parent (table_in t name) row && is_unknown (table_in t name) column.StopId (field (table_in t name) row told)
check_fails t name told row GoodParent = has_parent (table_in t name) row && not (is_parent_good (table_in t name) row)
check_fails t name told row AtPlatform = not (is_at_platform (table_in t file.Stops) (table_in t name) row)
check_fails t name told row TimedEnds = is_end_time_missing (stop_times_of (table_in t name)) row
check_fails t name told row RisingTimes = do_times_decrease (stop_times_of (table_in t name)) row
check_fails t name told row OrderedDays = are_dates_reversed (table_in t name) row
check_fails t name told row GoodTimeframe = is_bad_frame (table_in t name) row
check_fails t name told row OneCurrency = is_currency_mixed (table_in t name) row
check_fails t name told row GoodCount = is_count_misplaced (table_in t name) row
check_fails t name told row WholeLimit = is_limit_half (table_in t name) row
check_fails t name told row BothStops = is_one_stop_named (table_in t name) row

abbrev pub fails : FeedTables → FileName → RowRule → ℕ → Bool
fails t name rule row = check_fails t name rule.column row rule.check

-- the fault of a row by a check
abbrev pub fault_of_check : FeedTables → FileName → ℕ → RowRule → Option FeedFault
fault_of_check t name row rule = when (fails t name rule row) (field_fault name row rule.column rule.kind)

-- the first fault of a row among the rows of all files
unfoldable pub relation_fault_of_row : FeedTables → FileName → ℕ → Option FeedFault
relation_fault_of_row t name row = first_in (checks_of name) (fault_of_check t name row)
