-- The files of a feed in their order, and the names of files and columns, as they stand in a folder and in a header.
use Rattle.std.specs.Prelude.{ℕ, List, [], ◌∷◌, codes}
use Rattle.feed_files.specs.declared.names.FileName.{FileName}
use Rattle.feed_files.specs.declared.names.FileName.TheVariants as file
use Rattle.feed_files.specs.declared.names.ColumnName.{ColumnName}
use Rattle.feed_files.specs.declared.names.ColumnName.TheVariants as column

-- the files of a feed, in the order in which they are read and judged
abbrev pub all_files : List FileName
all_files =
    file.Stops ∷ file.Routes ∷ file.Trips ∷ file.StopTimes ∷ file.Calendar ∷ file.CalendarDates ∷ file.Frequencies
    ∷ file.Transfers ∷ file.Areas ∷ file.StopAreas ∷ file.Networks ∷ file.RouteNetworks ∷ file.Timeframes
    ∷ file.RiderCategories ∷ file.FareMedia ∷ file.FareProducts ∷ file.FareLegRules ∷ file.FareTransferRules
    ∷ file.FareLegJoinRules ∷ []

-- the place of a file in that order
abbrev pub place : FileName → ℕ
place file.Stops = 0
place file.Routes = 1
place file.Trips = 2
place file.StopTimes = 3
place file.Calendar = 4
place file.CalendarDates = 5
place file.Frequencies = 6
place file.Transfers = 7
place file.Areas = 8
place file.StopAreas = 9
place file.Networks = 10
place file.RouteNetworks = 11
place file.Timeframes = 12
place file.RiderCategories = 13
place file.FareMedia = 14
place file.FareProducts = 15
place file.FareLegRules = 16
place file.FareTransferRules = 17
place file.FareLegJoinRules = 18

-- a file's name in the folder
abbrev pub file_text : FileName → List ℕ
file_text file.Stops = codes "stops.txt"
file_text file.Routes = codes "routes.txt"
file_text file.Trips = codes "trips.txt"
file_text file.StopTimes = codes "stop_times.txt"
file_text file.Calendar = codes "calendar.txt"
file_text file.CalendarDates = codes "calendar_dates.txt"
file_text file.Frequencies = codes "frequencies.txt"
file_text file.Transfers = codes "transfers.txt"
file_text file.Areas = codes "areas.txt"
file_text file.StopAreas = codes "stop_areas.txt"
file_text file.Networks = codes "networks.txt"
file_text file.RouteNetworks = codes "route_networks.txt"
file_text file.Timeframes = codes "timeframes.txt"
file_text file.RiderCategories = codes "rider_categories.txt"
file_text file.FareMedia = codes "fare_media.txt"
file_text file.FareProducts = codes "fare_products.txt"
file_text file.FareLegRules = codes "fare_leg_rules.txt"
file_text file.FareTransferRules = codes "fare_transfer_rules.txt"
file_text file.FareLegJoinRules = codes "fare_leg_join_rules.txt"

-- the columns that are read, in the order in which they are declared
abbrev pub all_columns : List ColumnName
all_columns =
    column.StopId ∷ column.LocationType ∷ column.ParentStation ∷ column.RouteId ∷ column.NetworkId ∷
    column.ServiceId ∷ column.TripId ∷ column.StopSequence ∷ column.ArrivalTime ∷ column.DepartureTime ∷
    column.PickupType ∷ column.DropOffType ∷ column.Monday ∷ column.Tuesday ∷ column.Wednesday ∷ column.Thursday ∷
    column.Friday ∷ column.Saturday ∷ column.Sunday ∷ column.StartDate ∷ column.EndDate ∷ column.Date ∷
    column.ExceptionType ∷ column.StartTime ∷ column.EndTime ∷ column.HeadwaySecs ∷ column.ExactTimes ∷
    column.TransferType ∷ column.FromStopId ∷ column.ToStopId ∷ column.MinTransferTime ∷ column.AreaId ∷
    column.TimeframeGroupId ∷ column.RiderCategoryId ∷ column.IsDefaultFareCategory ∷ column.FareMediaId ∷
    column.FareMediaType ∷ column.FareProductId ∷ column.Currency ∷ column.Amount ∷ column.LegGroupId ∷
    column.FromAreaId ∷ column.ToAreaId ∷ column.FromTimeframeGroupId ∷ column.ToTimeframeGroupId ∷
    column.RulePriority ∷ column.FromLegGroupId ∷ column.ToLegGroupId ∷ column.TransferCount ∷ column.DurationLimit ∷
    column.DurationLimitType ∷ column.FareTransferType ∷ column.FromNetworkId ∷ column.ToNetworkId ∷
    column.LocationGroupId ∷ column.LocationId ∷ column.FromRouteId ∷ column.ToRouteId ∷ column.FromTripId ∷
    column.ToTripId ∷ []

-- a column's name in a header
abbrev pub column_text : ColumnName → List ℕ
column_text column.StopId = codes "stop_id"
column_text column.LocationType = codes "location_type"
column_text column.ParentStation = codes "parent_station"
column_text column.RouteId = codes "route_id"
column_text column.NetworkId = codes "network_id"
column_text column.ServiceId = codes "service_id"
column_text column.TripId = codes "trip_id"
column_text column.StopSequence = codes "stop_sequence"
column_text column.ArrivalTime = codes "arrival_time"
column_text column.DepartureTime = codes "departure_time"
column_text column.PickupType = codes "pickup_type"
column_text column.DropOffType = codes "drop_off_type"
column_text column.Monday = codes "monday"
column_text column.Tuesday = codes "tuesday"
column_text column.Wednesday = codes "wednesday"
column_text column.Thursday = codes "thursday"
column_text column.Friday = codes "friday"
column_text column.Saturday = codes "saturday"
column_text column.Sunday = codes "sunday"
column_text column.StartDate = codes "start_date"
column_text column.EndDate = codes "end_date"
column_text column.Date = codes "date"
column_text column.ExceptionType = codes "exception_type"
column_text column.StartTime = codes "start_time"
column_text column.EndTime = codes "end_time"
column_text column.HeadwaySecs = codes "headway_secs"
column_text column.ExactTimes = codes "exact_times"
column_text column.TransferType = codes "transfer_type"
column_text column.FromStopId = codes "from_stop_id"
column_text column.ToStopId = codes "to_stop_id"
column_text column.MinTransferTime = codes "min_transfer_time"
column_text column.AreaId = codes "area_id"
column_text column.TimeframeGroupId = codes "timeframe_group_id"
column_text column.RiderCategoryId = codes "rider_category_id"
column_text column.IsDefaultFareCategory = codes "is_default_fare_category"
column_text column.FareMediaId = codes "fare_media_id"
column_text column.FareMediaType = codes "fare_media_type"
column_text column.FareProductId = codes "fare_product_id"
column_text column.Currency = codes "currency"
column_text column.Amount = codes "amount"
column_text column.LegGroupId = codes "leg_group_id"
column_text column.FromAreaId = codes "from_area_id"
column_text column.ToAreaId = codes "to_area_id"
column_text column.FromTimeframeGroupId = codes "from_timeframe_group_id"
column_text column.ToTimeframeGroupId = codes "to_timeframe_group_id"
column_text column.RulePriority = codes "rule_priority"
column_text column.FromLegGroupId = codes "from_leg_group_id"
column_text column.ToLegGroupId = codes "to_leg_group_id"
column_text column.TransferCount = codes "transfer_count"
column_text column.DurationLimit = codes "duration_limit"
column_text column.DurationLimitType = codes "duration_limit_type"
column_text column.FareTransferType = codes "fare_transfer_type"
column_text column.FromNetworkId = codes "from_network_id"
column_text column.ToNetworkId = codes "to_network_id"
column_text column.LocationGroupId = codes "location_group_id"
column_text column.LocationId = codes "location_id"
column_text column.FromRouteId = codes "from_route_id"
column_text column.ToRouteId = codes "to_route_id"
column_text column.FromTripId = codes "from_trip_id"
column_text column.ToTripId = codes "to_trip_id"
