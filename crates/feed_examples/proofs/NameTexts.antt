-- The texts of files and columns, as the reference lists them (GTFS Schedule Reference: Dataset Files, Field Definitions), and
-- of the kinds of faults.
use Rattle.std.proofs.Common.{◌≡◌, ℕ, List, [], ◌∷◌, refl}
use Rattle.std.specs.Prelude.{codes, map}
use Rattle.feed_files.specs.declared.names.FileName.TheVariants as file
use Rattle.feed_files.specs.declared.names.ColumnName.TheVariants as column
use Rattle.feed_files.specs.declared.faults.FaultKind.{FaultKind}
use Rattle.feed_files.specs.declared.faults.FaultKind.TheVariants as kind
use Rattle.feed_files.specs.Names.{file_text, column_text}
use Rattle.feed_files.specs.Faults.{fault_number, fault_text}

files :
    map file_text
    (file.Stops ∷ file.Routes ∷ file.Trips ∷ file.StopTimes ∷ file.Calendar ∷ file.CalendarDates ∷ file.Frequencies
    ∷ file.Transfers ∷ file.Areas ∷ file.StopAreas ∷ file.Networks ∷ file.RouteNetworks ∷ file.Timeframes
    ∷ file.RiderCategories ∷ file.FareMedia ∷ file.FareProducts ∷ file.FareLegRules ∷ file.FareTransferRules
    ∷ file.FareLegJoinRules ∷ [])
    ≡ codes "stops.txt" ∷ codes "routes.txt" ∷ codes "trips.txt" ∷ codes "stop_times.txt" ∷ codes "calendar.txt"
    ∷ codes "calendar_dates.txt" ∷ codes "frequencies.txt" ∷ codes "transfers.txt" ∷ codes "areas.txt"
    ∷ codes "stop_areas.txt" ∷ codes "networks.txt" ∷ codes "route_networks.txt" ∷ codes "timeframes.txt"
    ∷ codes "rider_categories.txt" ∷ codes "fare_media.txt" ∷ codes "fare_products.txt" ∷ codes "fare_leg_rules.txt"
    ∷ codes "fare_transfer_rules.txt" ∷ codes "fare_leg_join_rules.txt" ∷ []
files = refl

columns :
    map column_text
    (column.StopId ∷ column.LocationType ∷ column.ParentStation ∷ column.RouteId ∷ column.NetworkId
    ∷ column.ServiceId ∷ column.TripId ∷ column.StopSequence ∷ column.ArrivalTime ∷ column.DepartureTime
    ∷ column.PickupType ∷ column.DropOffType ∷ column.Monday ∷ column.Tuesday ∷ column.Wednesday ∷ column.Thursday
    ∷ column.Friday ∷ column.Saturday ∷ column.Sunday ∷ column.StartDate ∷ column.EndDate ∷ column.Date
    ∷ column.ExceptionType ∷ column.StartTime ∷ column.EndTime ∷ column.HeadwaySecs ∷ column.ExactTimes
    ∷ column.TransferType ∷ column.FromStopId ∷ column.ToStopId ∷ column.MinTransferTime ∷ column.AreaId
    ∷ column.TimeframeGroupId ∷ column.RiderCategoryId ∷ column.IsDefaultFareCategory ∷ column.FareMediaId
    ∷ column.FareMediaType ∷ column.FareProductId ∷ column.Currency ∷ column.Amount ∷ column.LegGroupId
    ∷ column.FromAreaId ∷ column.ToAreaId ∷ column.FromTimeframeGroupId ∷ column.ToTimeframeGroupId
    ∷ column.RulePriority ∷ column.FromLegGroupId ∷ column.ToLegGroupId ∷ column.TransferCount
    ∷ column.DurationLimit ∷ column.DurationLimitType ∷ column.FareTransferType ∷ column.FromNetworkId
    ∷ column.ToNetworkId ∷ column.LocationGroupId ∷ column.LocationId ∷ column.FromRouteId ∷ column.ToRouteId
    ∷ column.FromTripId ∷ column.ToTripId ∷ [])
    ≡ codes "stop_id" ∷ codes "location_type" ∷ codes "parent_station" ∷ codes "route_id" ∷ codes "network_id"
    ∷ codes "service_id" ∷ codes "trip_id" ∷ codes "stop_sequence" ∷ codes "arrival_time" ∷ codes "departure_time"
    ∷ codes "pickup_type" ∷ codes "drop_off_type" ∷ codes "monday" ∷ codes "tuesday" ∷ codes "wednesday"
    ∷ codes "thursday" ∷ codes "friday" ∷ codes "saturday" ∷ codes "sunday" ∷ codes "start_date" ∷ codes "end_date"
    ∷ codes "date" ∷ codes "exception_type" ∷ codes "start_time" ∷ codes "end_time" ∷ codes "headway_secs"
    ∷ codes "exact_times" ∷ codes "transfer_type" ∷ codes "from_stop_id" ∷ codes "to_stop_id"
    ∷ codes "min_transfer_time" ∷ codes "area_id" ∷ codes "timeframe_group_id" ∷ codes "rider_category_id"
    ∷ codes "is_default_fare_category" ∷ codes "fare_media_id" ∷ codes "fare_media_type" ∷ codes "fare_product_id"
    ∷ codes "currency" ∷ codes "amount" ∷ codes "leg_group_id" ∷ codes "from_area_id" ∷ codes "to_area_id"
    ∷ codes "from_timeframe_group_id" ∷ codes "to_timeframe_group_id" ∷ codes "rule_priority"
    ∷ codes "from_leg_group_id" ∷ codes "to_leg_group_id" ∷ codes "transfer_count" ∷ codes "duration_limit"
    ∷ codes "duration_limit_type" ∷ codes "fare_transfer_type" ∷ codes "from_network_id" ∷ codes "to_network_id"
    ∷ codes "location_group_id" ∷ codes "location_id"
    ∷ codes "from_route_id" ∷ codes "to_route_id" ∷ codes "from_trip_id" ∷ codes "to_trip_id" ∷ []
columns = refl

-- a kind as it is printed
abbrev printed : FaultKind → ℕ × List ℕ
printed k = (fault_number k, fault_text k)

kinds :
    map printed
    (kind.MissingFile ∷ kind.FileTooLarge ∷ kind.NotUtf8 ∷ kind.TooManyRows ∷ kind.MissingColumn ∷ kind.DoubledColumn
    ∷ kind.LongRow ∷ kind.EmptyRequired ∷ kind.BadNumber ∷ kind.BadTime ∷ kind.BadDate ∷ kind.BadAmount
    ∷ kind.BadCurrency ∷ kind.MixedCurrency ∷ kind.DoubledKey ∷ kind.UnknownReference ∷ kind.BadParent
    ∷ kind.WrongStopKind ∷ kind.TimesDecrease ∷ kind.EndTimeMissing ∷ kind.TimeframeFault ∷ kind.TransferFields
    ∷ kind.ForbiddenTogether ∷ kind.BadText ∷ kind.FlexRow ∷ kind.DatesReversed
    ∷ kind.JoinStops ∷ [])
    ≡ (1, codes "MissingFile") ∷ (2, codes "FileTooLarge") ∷ (3, codes "NotUtf8") ∷ (4, codes "TooManyRows")
    ∷ (5, codes "MissingColumn") ∷ (6, codes "DoubledColumn") ∷ (7, codes "LongRow") ∷ (8, codes "EmptyRequired")
    ∷ (9, codes "BadNumber") ∷ (10, codes "BadTime") ∷ (11, codes "BadDate") ∷ (12, codes "BadAmount")
    ∷ (13, codes "BadCurrency") ∷ (14, codes "MixedCurrency") ∷ (15, codes "DoubledKey")
    ∷ (16, codes "UnknownReference") ∷ (17, codes "BadParent") ∷ (18, codes "WrongStopKind")
    ∷ (19, codes "TimesDecrease") ∷ (20, codes "EndTimeMissing") ∷ (21, codes "TimeframeFault")
    ∷ (22, codes "TransferFields") ∷ (23, codes "ForbiddenTogether") ∷ (24, codes "BadText") ∷ (25, codes "FlexRow")
    ∷ (26, codes "DatesReversed") ∷ (27, codes "JoinStops") ∷ []
kinds = refl
