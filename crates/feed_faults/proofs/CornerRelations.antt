-- The second pass at its edges: the order of the files and of the checks of a row, and what a check compares.
use Rattle.std.proofs.Common.{◌≡◌, ℕ, List, [], ◌∷◌, ◌++◌, Option, None, refl}
use Rattle.std.specs.Prelude.{codes, map, bytes_eq, if◌then◌else◌}
use Rattle.jiff_core.specs.Calendar.{days_from_civil, day_count, days_of_years, days_of_months}
use Rattle.feed_files.specs.declared.names.FileName.TheVariants as file
use Rattle.feed_files.specs.declared.names.ColumnName.TheVariants as column
use Rattle.feed_files.specs.declared.faults.FaultKind.TheVariants as kind
use Rattle.feed_files.specs.declared.faults.FeedFault.{FeedFault}
use Rattle.feed_faults.specs.OnLiterals.{feeds_on_literals}
use Rattle.feed_faults.proofs.Folders.{Folder, with_file, without_file}
use Rattle.feed_faults.proofs.BaseFeed.{base}
use Rattle.feed_faults.proofs.FullFeed.{full}
use Rattle.feed_faults.proofs.Expected.{Answers, fault, plain_fault, fault_of}

-- ---- the order of the files

-- a file, rows that are put at its end, and the fault that they make
abbrev BadRows : Type 0
BadRows = List ℕ × List ℕ × Option FeedFault

-- a folder with rows put at the end of a file
with_rows : List ℕ → List ℕ → Folder → Folder
with_rows name rows folder = map (λ f. if bytes_eq name f.0 then (f.0, f.1 ++ rows) else f) folder

-- the full feed with all these rows
with_bad_rows : List BadRows → Folder
with_bad_rows [] = full
with_bad_rows (bad ∷ others) = with_rows bad.0 bad.1 (with_bad_rows others)

-- its first faults with all these rows, with all but those of the first file, and so on down to none
faults_without_first : List BadRows → List (Option FeedFault)
faults_without_first [] = fault_of full ∷ []
faults_without_first (bad ∷ others) = fault_of (with_bad_rows (bad ∷ others)) ∷ faults_without_first others

-- rows that make a fault in each file
bad_rows : List BadRows
bad_rows =
    (codes "stops.txt", codes "A,,,\n", fault kind.DoubledKey file.Stops 6 column.StopId)
    ∷ (codes "routes.txt", codes "R1,\n", fault kind.DoubledKey file.Routes 4 column.RouteId)
    ∷ (codes "trips.txt", codes "T1,R1,S2\n", fault kind.DoubledKey file.Trips 4 column.TripId)
    ∷ (codes "stop_times.txt", codes "T9,8:00:00,,A,1,,\n", fault kind.UnknownReference file.StopTimes 4 column.TripId)
    ∷ (codes "calendar.txt", codes "S0,1,1,1,1,1,1,1,20250101,20250101\n", fault kind.DoubledKey file.Calendar 3 column.ServiceId)
    ∷ (codes "calendar_dates.txt", codes "S2,20250602,1\n", fault kind.DoubledKey file.CalendarDates 4 column.Date)
    ∷ (codes "frequencies.txt", codes "T9,8:20:00,9:20:00,1800,\n", fault kind.UnknownReference file.Frequencies 2 column.TripId)
    ∷ (codes "transfers.txt", codes "A,X,,,\n", fault kind.UnknownReference file.Transfers 6 column.ToStopId)
    ∷ (codes "areas.txt", codes "z1,\n", fault kind.DoubledKey file.Areas 3 column.AreaId)
    ∷ (codes "stop_areas.txt", codes "z9,A\n", fault kind.UnknownReference file.StopAreas 3 column.AreaId)
    ∷ (codes "networks.txt", codes "n1\n", fault kind.DoubledKey file.Networks 3 column.NetworkId)
    ∷ (codes "route_networks.txt", codes "n1,R1\n", fault kind.DoubledKey file.RouteNetworks 3 column.RouteId)
    ∷ (codes "timeframes.txt", codes "peak,,,S9\n", fault kind.UnknownReference file.Timeframes 4 column.ServiceId)
    ∷ (codes "rider_categories.txt", codes "adult,\n", fault kind.DoubledKey file.RiderCategories 3 column.RiderCategoryId)
    ∷ (codes "fare_media.txt", codes "card,\n", fault kind.DoubledKey file.FareMedia 3 column.FareMediaId)
    ∷ (codes "fare_products.txt", codes "single,senior,,1,KWD\n", fault kind.UnknownReference file.FareProducts 5 column.RiderCategoryId)
    ∷ (codes "fare_leg_rules.txt", codes ",,,,,,half,\n", fault kind.UnknownReference file.FareLegRules 4 column.FareProductId)
    ∷ (codes "fare_transfer_rules.txt", codes "gx,,,,,0,\n", fault kind.UnknownReference file.FareTransferRules 5 column.FromLegGroupId)
    ∷ (codes "fare_leg_join_rules.txt", codes "n1,n9,,\n", fault kind.UnknownReference file.FareLegJoinRules 3 column.ToNetworkId) ∷ []

-- of files that all have a fault, the first in order is told; the full feed has none
order_of_files : faults_without_first bad_rows ≡ map (λ bad. bad.2) bad_rows ++ None ∷ []
unfolding feeds_on_literals with_rows with_bad_rows faults_without_first bad_rows days_from_civil day_count days_of_years days_of_months
order_of_files = refl

-- ---- stops, trips and their services

-- an id that stands twice is told before its parent
stop_twice_before_parent : Answers base (codes "stops.txt")
    ((codes "stop_id,parent_station\nA\nB\nC\nA,Nowhere\n", fault kind.DoubledKey file.Stops 4 column.StopId) ∷ [])
unfolding feeds_on_literals
stop_twice_before_parent = refl

-- a calendar with these rows
calendar_text : List ℕ → List ℕ
calendar_text rows = codes "service_id,monday,tuesday,wednesday,thursday,friday,saturday,sunday,start_date,end_date\n" ++ rows

-- a calendar alone tells of the services, also where no day of the week runs
services_of_calendar : Answers (without_file (codes "calendar_dates.txt") base) (codes "calendar.txt")
    ((calendar_text (codes "W,0,0,0,0,0,0,0,20250602,20250602\n"), None)
    ∷ (calendar_text (codes "V,1,1,1,1,1,1,1,20250602,20250602\n"), fault kind.UnknownReference file.Trips 1 column.ServiceId) ∷ [])
unfolding feeds_on_literals calendar_text days_from_civil day_count days_of_years days_of_months
services_of_calendar = refl

-- a service that stands twice is told before its dates, and rows in their order
calendar_rows : Answers base (codes "calendar.txt")
    ((calendar_text (codes "V,1,1,1,1,1,1,1,20250101,20250101\nV,1,1,1,1,1,1,1,20250102,20250101\n"), fault kind.DoubledKey file.Calendar 2 column.ServiceId)
    ∷ (calendar_text (codes "V,1,1,1,1,1,1,1,20250102,20250101\nV,1,1,1,1,1,1,1,20250102,20250101\n"), fault kind.DatesReversed file.Calendar 1 column.EndDate) ∷ [])
unfolding feeds_on_literals calendar_text days_from_civil day_count days_of_years days_of_months
calendar_rows = refl

-- ---- stop times

-- an unknown trip is told, though its rows have no times
unknown_trip_without_times : Answers base (codes "stop_times.txt")
    ((codes "trip_id,stop_id,stop_sequence,arrival_time\nT9,A,1,\nT9,B,1,\n", fault kind.UnknownReference file.StopTimes 1 column.TripId) ∷ [])
unfolding feeds_on_literals
unknown_trip_without_times = refl

-- a stop time at a station is told before its place in the trip, which stands twice
station_before_sequence : Answers (with_file (codes "stops.txt") (codes "stop_id,location_type\nA\nB\nC\nP,1\n") base) (codes "stop_times.txt")
    ((codes "trip_id,stop_id,stop_sequence,arrival_time\nT1,A,1,8:00:00\nT1,P,1,8:00:00\n", fault kind.WrongStopKind file.StopTimes 2 column.StopId) ∷ [])
unfolding feeds_on_literals
station_before_sequence = refl

-- rows of equal sequences stand in the order of their rows: a row without times is no end of the trip where the other of its
-- sequence lies beyond it, and times are compared in that order
equal_sequences : Answers base (codes "stop_times.txt")
    ((codes "trip_id,stop_id,stop_sequence,arrival_time\nT1,A,1,\nT1,B,0,8:00:00\nT1,C,1,9:00:00\n", fault kind.DoubledKey file.StopTimes 3 column.StopSequence)
    ∷ (codes "trip_id,stop_id,stop_sequence,arrival_time\nT1,A,1,8:00:00\nT1,B,2,9:00:00\nT1,C,1,\n", fault kind.DoubledKey file.StopTimes 3 column.StopSequence)
    ∷ (codes "trip_id,stop_id,stop_sequence,arrival_time\nT1,A,2,8:30:00\nT1,B,1,8:00:00\nT1,C,2,8:40:00\n", fault kind.DoubledKey file.StopTimes 3 column.StopSequence)
    ∷ (codes "trip_id,stop_id,stop_sequence,arrival_time\nT1,A,2,8:30:00\nT1,B,3,8:35:00\nT1,C,2,8:40:00\n", fault kind.TimesDecrease file.StopTimes 2 column.ArrivalTime) ∷ [])
unfolding feeds_on_literals
equal_sequences = refl

-- a time is compared with the nearest timed row before it alone: C comes after B, and may come before A
nearest_time_alone : Answers base (codes "stop_times.txt")
    ((codes "trip_id,stop_id,stop_sequence,arrival_time\nT1,C,3,8:25:00\nT1,B,2,8:20:00\nT1,A,1,8:30:00\n", fault kind.TimesDecrease file.StopTimes 2 column.ArrivalTime) ∷ [])
unfolding feeds_on_literals
nearest_time_alone = refl

-- ---- networks

-- networks in a file of their own are forbidden where any route has one itself, not the first alone
network_of_second_route : Answers (with_file (codes "routes.txt") (codes "route_id,network_id\nR1,\nR2,rail\n") base) (codes "networks.txt")
    ((codes "network_id\nbus\n", plain_fault kind.ForbiddenTogether file.Networks 0) ∷ [])
unfolding feeds_on_literals
network_of_second_route = refl

-- a route that stands twice is told before its network
route_twice_before_network : Answers
    (with_file (codes "routes.txt") (codes "route_id\nR1\nR2\n") (with_file (codes "networks.txt") (codes "network_id\nbus\nrail\n") base))
    (codes "route_networks.txt")
    ((codes "network_id,route_id\nrail,R2\ntram,R2\n", fault kind.DoubledKey file.RouteNetworks 2 column.RouteId) ∷ [])
unfolding feeds_on_literals
route_twice_before_network = refl

-- ---- fares

-- timeframes that meet don't overlap, also where the later one stands first, and one that begins at the end of the day is empty
meeting_timeframes : Answers base (codes "timeframes.txt")
    ((codes "timeframe_group_id,start_time,end_time,service_id\npeak,9:00:00,24:00:00,W\npeak,0:00:00,9:00:00,W\n", None)
    ∷ (codes "timeframe_group_id,start_time,end_time,service_id\npeak,24:00:00,24:00:00,W\n", fault kind.TimeframeFault file.Timeframes 1 column.StartTime) ∷ [])
unfolding feeds_on_literals
meeting_timeframes = refl

-- a product may be sold on two media and on none, but not twice on one; an unknown rider category is told before an unknown
-- medium
products_on_media : Answers (with_file (codes "fare_media.txt") (codes "fare_media_id\ncard\ncash\n") base) (codes "fare_products.txt")
    ((codes "fare_product_id,fare_media_id,amount,currency\nsingle,card,2.50,EUR\nsingle,cash,3,EUR\nsingle,,3,EUR\nrail,,4,EUR\nchange,,0,EUR\n", None)
    ∷ (codes "fare_product_id,fare_media_id,amount,currency\nsingle,card,2.50,EUR\nsingle,card,2.50,EUR\n", fault kind.DoubledKey file.FareProducts 2 column.FareProductId)
    ∷ (codes "fare_product_id,rider_category_id,fare_media_id,amount,currency\nsingle,x,y,2.50,EUR\n", fault kind.UnknownReference file.FareProducts 1 column.RiderCategoryId) ∷ [])
unfolding feeds_on_literals
products_on_media = refl

-- a leg rule whose fields are all unknown, with one column less in each case: the order of the checks isn't that of the file
leg_rule_checks : Answers (without_file (codes "fare_transfer_rules.txt") base) (codes "fare_leg_rules.txt")
    ((codes "fare_product_id,to_timeframe_group_id,from_timeframe_group_id,to_area_id,from_area_id,network_id\nu,u,u,u,u,u\n", fault kind.UnknownReference file.FareLegRules 1 column.NetworkId)
    ∷ (codes "fare_product_id,to_timeframe_group_id,from_timeframe_group_id,to_area_id,from_area_id\nu,u,u,u,u\n", fault kind.UnknownReference file.FareLegRules 1 column.FromAreaId)
    ∷ (codes "fare_product_id,to_timeframe_group_id,from_timeframe_group_id,to_area_id\nu,u,u,u\n", fault kind.UnknownReference file.FareLegRules 1 column.ToAreaId)
    ∷ (codes "fare_product_id,to_timeframe_group_id,from_timeframe_group_id\nu,u,u\n", fault kind.UnknownReference file.FareLegRules 1 column.FromTimeframeGroupId)
    ∷ (codes "fare_product_id,to_timeframe_group_id\nu,u\n", fault kind.UnknownReference file.FareLegRules 1 column.ToTimeframeGroupId) ∷ [])
unfolding feeds_on_literals
leg_rule_checks = refl

-- a transfer rule: the count is told before the limit, the limit before the groups, and those before the product
transfer_rule_checks : Answers base (codes "fare_transfer_rules.txt")
    ((codes "from_leg_group_id,to_leg_group_id,transfer_count,duration_limit,duration_limit_type,fare_transfer_type,fare_product_id\ngx,gy,1,600,,0,half\n", fault kind.TransferFields file.FareTransferRules 1 column.TransferCount)
    ∷ (codes "from_leg_group_id,to_leg_group_id,transfer_count,duration_limit,duration_limit_type,fare_transfer_type,fare_product_id\ngx,gy,,600,,0,half\n", fault kind.TransferFields file.FareTransferRules 1 column.DurationLimitType)
    ∷ (codes "from_leg_group_id,to_leg_group_id,transfer_count,duration_limit,duration_limit_type,fare_transfer_type,fare_product_id\ngx,gb,,,,0,half\n", fault kind.UnknownReference file.FareTransferRules 1 column.FromLegGroupId)
    ∷ (codes "from_leg_group_id,to_leg_group_id,transfer_count,duration_limit,duration_limit_type,fare_transfer_type,fare_product_id\ngb,gy,,,,0,half\n", fault kind.UnknownReference file.FareTransferRules 1 column.ToLegGroupId) ∷ [])
unfolding feeds_on_literals
transfer_rule_checks = refl
