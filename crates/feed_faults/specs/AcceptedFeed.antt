-- The rows of a feed, as its files give them. Of files with a fault these rows say nothing: a bad field may read as an
-- empty one. A contract that names them says too that the files have no fault. Rows are in file order. A reference is the number of the earliest row with the id; services, networks, timeframe groups, products and leg
-- groups are numbered by the first appearance of their names. What no row has gives the number after the last, which is
-- no row.
use Rattle.std.specs.Prelude.{ℕ, zero, suc, ◌&&◌, ◌==◌, not, nat_lt, if◌then◌else◌, Bool, List, [], ◌∷◌, ◌++◌, length, get_or, bytes_eq, is_some, is_none, unwrap_or, Option, None, Some, ℤ, pos, negsuc}
use Rattle.std.specs.Option.{option_map_or}
use Rattle.transit_base.specs.Limits.{most_time}
use Rattle.transit_base.specs.declared.numbers.StopId.{StopId}
use Rattle.feed_files.specs.declared.names.FileName.{FileName}
use Rattle.feed_files.specs.declared.names.FileName.TheVariants as file
use Rattle.feed_files.specs.declared.names.ColumnName.{ColumnName}
use Rattle.feed_files.specs.declared.names.ColumnName.TheVariants as column
use Rattle.feed_rows.specs.declared.rows.StopRow.{StopRow}
use Rattle.feed_rows.specs.declared.rows.RouteRow.{RouteRow}
use Rattle.feed_rows.specs.declared.rows.TripRow.{TripRow}
use Rattle.feed_rows.specs.declared.rows.StopTimeRow.{StopTimeRow}
use Rattle.feed_rows.specs.declared.rows.ServiceRow.{ServiceRow}
use Rattle.feed_rows.specs.declared.rows.ExceptionRow.{ExceptionRow}
use Rattle.feed_rows.specs.declared.rows.FrequencyRow.{FrequencyRow}
use Rattle.feed_rows.specs.declared.rows.LinkRow.{LinkRow}
use Rattle.feed_rows.specs.declared.rows.AreaRow.{AreaRow}
use Rattle.feed_rows.specs.declared.rows.StopAreaRow.{StopAreaRow}
use Rattle.feed_rows.specs.declared.rows.TimeframeRow.{TimeframeRow}
use Rattle.feed_rows.specs.declared.rows.RiderRow.{RiderRow}
use Rattle.feed_rows.specs.declared.rows.MediumRow.{MediumRow}
use Rattle.feed_rows.specs.declared.rows.ProductRow.{ProductRow}
use Rattle.feed_rows.specs.declared.rows.LegRuleRow.{LegRuleRow}
use Rattle.feed_rows.specs.declared.rows.Limit.{Limit}
use Rattle.feed_rows.specs.declared.rows.TransferRuleRow.{TransferRuleRow}
use Rattle.feed_rows.specs.declared.rows.JoinRow.{JoinRow}
use Rattle.feed_rows.specs.Codes.{platform_type, not_available, service_available, service_added, change_forbidden, default_category}
use Rattle.feed_rows.specs.FeedRows.{FeedRows}
use Rattle.feed_files.specs.HeldFiles.{HeldFile}
use Rattle.plain_laws.specs.Plain.{when, find_below, list_below, picks_below}
use Rattle.feed_faults.specs.Records.{FileTable, Fields, row_count, column_of, field, is_filled}
use Rattle.feed_rows.specs.TimeGrammar.{time_value}
use Rattle.feed_faults.specs.FieldGrammars.{most_int, count_value, currency_decimals}
use Rattle.feed_faults.specs.FormFaults.{is_passed_over}
use Rattle.feed_faults.specs.FeedTables.{FeedTables, table_in, tables_of}
use Rattle.feed_faults.specs.FieldValues.{int_or_zero, time_or, day_or_zero, amount_or_zero, stop_kind, frame_start, frame_end}
use Rattle.feed_faults.specs.RowKeys.{row_of}

-- what a filled field gives
abbrev pub if_filled : {X : Type 0} → List ℕ → X → Option X
if_filled text x = when (is_filled text) x

-- the number of the earliest row with this id
abbrev pub row_number : FileTable → ColumnName → List ℕ → ℕ
row_number table name id = unwrap_or (row_of table name id) (row_count table)

-- the place of a name among names
unfoldable pub place_of_name : List (List ℕ) → List ℕ → Option ℕ
place_of_name names name = find_below (length names) (λ i. bytes_eq name (get_or names i []))

-- the number of a name
abbrev pub name_number : List (List ℕ) → List ℕ → ℕ
name_number names name = unwrap_or (place_of_name names name) (length names)

-- names with one more at their end, where it is filled and new
unfoldable pub with_name : List (List ℕ) → List ℕ → List (List ℕ)
with_name names name = if is_filled name && is_none (place_of_name names name) then names ++ name ∷ [] else names

-- names with those of the first n rows of a column
abbrev pub with_names : List (List ℕ) → FileTable → ColumnName → ℕ → List (List ℕ)
with_names names table column zero = names
with_names names table column (suc n) = with_name (with_names names table column n) (field table n column)

-- names with those of a whole column
abbrev pub with_column : List (List ℕ) → FileTable → ColumnName → List (List ℕ)
with_column names table column = with_names names table column (row_count table)

-- the names by first appearance: of services in trips, calendars and timeframes, of networks in routes and networks.txt, of
-- timeframe groups, products and leg groups in their files
unfoldable pub service_names : FeedTables → List (List ℕ)
service_names t =
    with_column (with_column (with_column (with_column [] (table_in t file.Trips) column.ServiceId)
    (table_in t file.Calendar) column.ServiceId) (table_in t file.CalendarDates) column.ServiceId) (table_in t file.Timeframes) column.ServiceId

unfoldable pub network_names : FeedTables → List (List ℕ)
network_names t = with_column (with_column [] (table_in t file.Routes) column.NetworkId) (table_in t file.Networks) column.NetworkId

unfoldable pub frame_names : FeedTables → List (List ℕ)
frame_names t = with_column [] (table_in t file.Timeframes) column.TimeframeGroupId

unfoldable pub product_names : FeedTables → List (List ℕ)
product_names t = with_column [] (table_in t file.FareProducts) column.FareProductId

unfoldable pub group_names : FeedTables → List (List ℕ)
group_names t = with_column [] (table_in t file.FareLegRules) column.LegGroupId

-- the parent of a platform; the field of another kind of stop isn't looked at
unfoldable pub accepted_parent : FileTable → ℕ → Option StopId
accepted_parent stops row =
    let parent = field stops row column.ParentStation in
    if stop_kind stops row == platform_type then if_filled parent (record { 0 = row_number stops column.StopId parent }) else None

-- stops.txt
unfoldable pub stop_row : FeedTables → ℕ → StopRow
stop_row t row =
    record {
      id = field (table_in t file.Stops) row column.StopId;
      kind = stop_kind (table_in t file.Stops) row;
      parent = accepted_parent (table_in t file.Stops) row;
    }

-- the network of a route: that of its own row, or else that of its row in route_networks.txt; the empty text where it has
-- none
unfoldable pub network_of_route : FeedTables → ℕ → List ℕ
network_of_route t row =
    let own = field (table_in t file.Routes) row column.NetworkId in
    if is_filled own then own
    else option_map_or (λ r. field (table_in t file.RouteNetworks) r column.NetworkId)
    (row_of (table_in t file.RouteNetworks) column.RouteId (field (table_in t file.Routes) row column.RouteId)) []

-- routes.txt
unfoldable pub route_row : FeedTables → ℕ → RouteRow
route_row t row =
    let network = network_of_route t row in
    record {
      id = field (table_in t file.Routes) row column.RouteId;
      network = if_filled network (record { 0 = name_number (network_names t) network });
    }

-- trips.txt
unfoldable pub trip_row : FeedTables → ℕ → TripRow
trip_row t row =
    let at = field (table_in t file.Trips) row in
    record {
      id = at column.TripId;
      route = record { 0 = row_number (table_in t file.Routes) column.RouteId (at column.RouteId) };
      service = record { 0 = name_number (service_names t) (at column.ServiceId) };
    }

-- a pickup or drop-off type permits: one type forbids, and the others and an empty field permit
abbrev pub permits : List ℕ → Bool
permits text = not (int_or_zero 0 3 text == not_available)

-- stop_times.txt, by the numbers of trips and of stops that ids name
abbrev pub stop_time_by : (List ℕ → ℕ) → (List ℕ → ℕ) → Fields → StopTimeRow
stop_time_by trip_number stop_number at =
    record {
      trip = record { 0 = trip_number (at column.TripId) };
      stop = record { 0 = stop_number (at column.StopId) };
      sequence = int_or_zero 0 most_int (at column.StopSequence);
      arrival = time_value most_time (at column.ArrivalTime);
      departure = time_value most_time (at column.DepartureTime);
      pickup = permits (at column.PickupType);
      drop_off = permits (at column.DropOffType);
    }

unfoldable pub stop_time_row : FeedTables → ℕ → StopTimeRow
stop_time_row t row =
    stop_time_by (row_number (table_in t file.Trips) column.TripId) (row_number (table_in t file.Stops) column.StopId)
    (field (table_in t file.StopTimes) row)

-- a service runs on a weekday
abbrev pub runs_on_weekday : FileTable → ℕ → ColumnName → Bool
runs_on_weekday calendar row weekday = int_or_zero 0 1 (field calendar row weekday) == service_available

-- calendar.txt
unfoldable pub service_row : FeedTables → ℕ → ServiceRow
service_row t row =
    let at = field (table_in t file.Calendar) row in
    record {
      service = record { 0 = name_number (service_names t) (at column.ServiceId) };
      days = runs_on_weekday (table_in t file.Calendar) row column.Monday ∷ runs_on_weekday (table_in t file.Calendar) row column.Tuesday ∷ runs_on_weekday (table_in t file.Calendar) row column.Wednesday
          ∷ runs_on_weekday (table_in t file.Calendar) row column.Thursday ∷ runs_on_weekday (table_in t file.Calendar) row column.Friday ∷ runs_on_weekday (table_in t file.Calendar) row column.Saturday
          ∷ runs_on_weekday (table_in t file.Calendar) row column.Sunday ∷ [];
      first = record { 0 = day_or_zero (at column.StartDate) };
      last = record { 0 = day_or_zero (at column.EndDate) };
    }

-- calendar_dates.txt
unfoldable pub exception_row : FeedTables → ℕ → ExceptionRow
exception_row t row =
    let at = field (table_in t file.CalendarDates) row in
    record {
      service = record { 0 = name_number (service_names t) (at column.ServiceId) };
      day = record { 0 = day_or_zero (at column.Date) };
      added = int_or_zero 1 2 (at column.ExceptionType) == service_added;
    }

-- frequencies.txt
unfoldable pub frequency_row : FeedTables → ℕ → FrequencyRow
frequency_row t row =
    let at = field (table_in t file.Frequencies) row in
    record {
      trip = record { 0 = row_number (table_in t file.Trips) column.TripId (at column.TripId) };
      start = time_or 0 most_time (at column.StartTime);
      end = time_or 0 most_time (at column.EndTime);
      headway = int_or_zero 1 most_int (at column.HeadwaySecs);
    }

-- transfers.txt; a row that forbids has its seconds like any other
unfoldable pub link_row : FeedTables → ℕ → LinkRow
link_row t row =
    let at = field (table_in t file.Transfers) row in
    record {
      from = record { 0 = row_number (table_in t file.Stops) column.StopId (at column.FromStopId) };
      to = record { 0 = row_number (table_in t file.Stops) column.StopId (at column.ToStopId) };
      forbidden = int_or_zero 0 5 (at column.TransferType) == change_forbidden;
      seconds = int_or_zero 0 most_int (at column.MinTransferTime);
    }

-- areas.txt
unfoldable pub area_row : FeedTables → ℕ → AreaRow
area_row t row = record { id = field (table_in t file.Areas) row column.AreaId }

-- stop_areas.txt
unfoldable pub stop_area_row : FeedTables → ℕ → StopAreaRow
stop_area_row t row =
    let at = field (table_in t file.StopAreas) row in
    record {
      area = record { 0 = row_number (table_in t file.Areas) column.AreaId (at column.AreaId) };
      stop = record { 0 = row_number (table_in t file.Stops) column.StopId (at column.StopId) };
    }

-- timeframes.txt
unfoldable pub timeframe_row : FeedTables → ℕ → TimeframeRow
timeframe_row t row =
    let at = field (table_in t file.Timeframes) row in
    record {
      frame = record { 0 = name_number (frame_names t) (at column.TimeframeGroupId) };
      start = frame_start (table_in t file.Timeframes) row;
      end = frame_end (table_in t file.Timeframes) row;
      service = record { 0 = name_number (service_names t) (at column.ServiceId) };
    }

-- rider_categories.txt
unfoldable pub rider_row : FeedTables → ℕ → RiderRow
rider_row t row =
    record {
      id = field (table_in t file.RiderCategories) row column.RiderCategoryId;
      default = int_or_zero 0 1 (field (table_in t file.RiderCategories) row column.IsDefaultFareCategory) == default_category;
    }

-- fare_media.txt
unfoldable pub medium_row : FeedTables → ℕ → MediumRow
medium_row t row = record { id = field (table_in t file.FareMedia) row column.FareMediaId }

-- fare_products.txt
unfoldable pub product_row : FeedTables → ℕ → ProductRow
product_row t row =
    let at = field (table_in t file.FareProducts) row in
    let rider = at column.RiderCategoryId in
    let medium = at column.FareMediaId in
    record {
      product = record { 0 = name_number (product_names t) (at column.FareProductId) };
      rider = if_filled rider (record { 0 = row_number (table_in t file.RiderCategories) column.RiderCategoryId rider });
      medium = if_filled medium (record { 0 = row_number (table_in t file.FareMedia) column.FareMediaId medium });
      amount = record { 0 = amount_or_zero (at column.Currency) (at column.Amount) };
    }

-- fare_leg_rules.txt
unfoldable pub leg_rule_row : FeedTables → ℕ → LegRuleRow
leg_rule_row t row =
    let at = field (table_in t file.FareLegRules) row in
    let group = at column.LegGroupId in
    let network = at column.NetworkId in
    let from_area = at column.FromAreaId in
    let to_area = at column.ToAreaId in
    let from_frame = at column.FromTimeframeGroupId in
    let to_frame = at column.ToTimeframeGroupId in
    record {
      group = if_filled group (record { 0 = name_number (group_names t) group });
      network = if_filled network (record { 0 = name_number (network_names t) network });
      from_area = if_filled from_area (record { 0 = row_number (table_in t file.Areas) column.AreaId from_area });
      to_area = if_filled to_area (record { 0 = row_number (table_in t file.Areas) column.AreaId to_area });
      from_frame = if_filled from_frame (record { 0 = name_number (frame_names t) from_frame });
      to_frame = if_filled to_frame (record { 0 = name_number (frame_names t) to_frame });
      product = record { 0 = name_number (product_names t) (at column.FareProductId) };
      priority = int_or_zero 0 most_int (at column.RulePriority);
    }

-- a number from 1 on, if the field is one; -1 and empty stand for no number
abbrev pub finite_count : Option ℤ → Option ℕ
finite_count None = None
finite_count (Some (pos n)) = Some n
finite_count (Some (negsuc n)) = None

-- the limit of a transfer rule
unfoldable pub limit_of : FileTable → ℕ → Option Limit
limit_of rules row =
    let seconds = field rules row column.DurationLimit in
    if_filled seconds (record { seconds = int_or_zero 1 most_int seconds; kind = int_or_zero 0 3 (field rules row column.DurationLimitType) })

-- fare_transfer_rules.txt
unfoldable pub transfer_rule_row : FeedTables → ℕ → TransferRuleRow
transfer_rule_row t row =
    let at = field (table_in t file.FareTransferRules) row in
    let from = at column.FromLegGroupId in
    let to = at column.ToLegGroupId in
    let product = at column.FareProductId in
    record {
      from = if_filled from (record { 0 = name_number (group_names t) from });
      to = if_filled to (record { 0 = name_number (group_names t) to });
      count = finite_count (count_value (at column.TransferCount));
      limit = limit_of (table_in t file.FareTransferRules) row;
      kind = int_or_zero 0 2 (at column.FareTransferType);
      product = if_filled product (record { 0 = name_number (product_names t) product });
    }

-- fare_leg_join_rules.txt
unfoldable pub join_row : FeedTables → ℕ → JoinRow
join_row t row =
    let at = field (table_in t file.FareLegJoinRules) row in
    let from_stop = at column.FromStopId in
    let to_stop = at column.ToStopId in
    record {
      from_network = record { 0 = name_number (network_names t) (at column.FromNetworkId) };
      to_network = record { 0 = name_number (network_names t) (at column.ToNetworkId) };
      from_stop = if_filled from_stop (record { 0 = row_number (table_in t file.Stops) column.StopId from_stop });
      to_stop = if_filled to_stop (record { 0 = row_number (table_in t file.Stops) column.StopId to_stop });
    }

-- the currency of the products, if there is one
unfoldable pub feed_currency : FileTable → Option (List ℕ)
feed_currency products = when (nat_lt 0 (row_count products)) (field products 0 column.Currency)

-- its decimals; 2 where there is no product
unfoldable pub feed_decimals : FileTable → ℕ
feed_decimals products = option_map_or (λ currency. unwrap_or (currency_decimals currency) 2) (feed_currency products) 2

-- what a row function gives at each row of a table
abbrev pub typed_rows : {X : Type 0} → FileTable → (ℕ → X) → List X
typed_rows table row = list_below (row_count table) row

-- the rows of these tables
unfoldable pub rows_of_tables : FeedTables → FeedRows
rows_of_tables t =
    record {
      stops = typed_rows (table_in t file.Stops) (stop_row t);
      routes = typed_rows (table_in t file.Routes) (route_row t);
      trips = typed_rows (table_in t file.Trips) (trip_row t);
      stop_times = typed_rows (table_in t file.StopTimes) (stop_time_row t);
      services = typed_rows (table_in t file.Calendar) (service_row t);
      exceptions = typed_rows (table_in t file.CalendarDates) (exception_row t);
      frequencies = typed_rows (table_in t file.Frequencies) (frequency_row t);
      links = picks_below (row_count (table_in t file.Transfers)) (λ row. not (is_passed_over (field (table_in t file.Transfers) row))) (link_row t);
      areas = typed_rows (table_in t file.Areas) (area_row t);
      stop_areas = typed_rows (table_in t file.StopAreas) (stop_area_row t);
      timeframes = typed_rows (table_in t file.Timeframes) (timeframe_row t);
      riders = typed_rows (table_in t file.RiderCategories) (rider_row t);
      media = typed_rows (table_in t file.FareMedia) (medium_row t);
      products = typed_rows (table_in t file.FareProducts) (product_row t);
      leg_rules = typed_rows (table_in t file.FareLegRules) (leg_rule_row t);
      transfer_rules = typed_rows (table_in t file.FareTransferRules) (transfer_rule_row t);
      joins = typed_rows (table_in t file.FareLegJoinRules) (join_row t);
      service_names = service_names t;
      network_names = network_names t;
      frame_names = frame_names t;
      product_names = product_names t;
      group_names = group_names t;
      has_priority = is_some (column_of (table_in t file.FareLegRules) column.RulePriority);
      currency = feed_currency (table_in t file.FareProducts);
      decimals = feed_decimals (table_in t file.FareProducts);
    }

-- the rows of the files that are held
unfoldable pub feed_of : (FileName → HeldFile) → FeedRows
feed_of files = rows_of_tables (tables_of files)
