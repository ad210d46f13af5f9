-- The second pass at its edges.
use Rattle.std.proofs.Common.{◌≡◌, [], ◌∷◌, None, refl}
use Rattle.std.specs.Prelude.{codes, map}
use Rattle.feed_files.specs.declared.names.FileName.TheVariants as file
use Rattle.feed_files.specs.declared.names.ColumnName.TheVariants as column
use Rattle.feed_files.specs.declared.faults.FaultKind.TheVariants as kind
use Rattle.feed_faults.specs.AcceptedFeed.{feed_of}
use Rattle.feed_faults.specs.OnLiterals.{feeds_on_literals}
use Rattle.feed_faults.proofs.Folders.{Folder, files_in, with_file, without_file}
use Rattle.feed_faults.proofs.BaseFeed.{base, base_rows}
use Rattle.feed_faults.proofs.Expected.{Answers, fault, plain_fault, fault_of}

-- parents: an id of several rows is that of the earliest, so row 1 is at fault before row 5
parents : Answers base (codes "stops.txt")
    ((codes "stop_id,location_type,parent_station\nA,0,P\nB\nC\nP,0\nP,1\n", fault kind.BadParent file.Stops 1 column.ParentStation)
    ∷ (codes "stop_id,location_type,parent_station\nA,0,P\nB\nC\nP,1\nP,0\n", fault kind.DoubledKey file.Stops 5 column.StopId)
    ∷ (codes "stop_id,location_type,parent_station\nA,,P\nB\nC\nP,1\n", None)
    ∷ (codes "stop_id,location_type,parent_station\nA,,P\nB\nC\n", fault kind.UnknownReference file.Stops 1 column.ParentStation)
    ∷ (codes "stop_id,location_type,parent_station\nA,0,A\nB\nC\n", fault kind.BadParent file.Stops 1 column.ParentStation)
    ∷ (codes "stop_id,location_type,parent_station\nA\nB\nC\nP,1,Q\nQ,1\n", fault kind.BadParent file.Stops 4 column.ParentStation)
    ∷ (codes "stop_id,location_type,parent_station\nA\nB\nC\nP,1,Q\n", fault kind.UnknownReference file.Stops 4 column.ParentStation)
    ∷ (codes "stop_id,location_type,parent_station\nA\nB\nC\nE,2,Nowhere\nF,3,A\nG,4,G\n", None)
    ∷ (codes "stop_id\nA\nB\nC\na\nA\n", fault kind.DoubledKey file.Stops 5 column.StopId) ∷ [])
unfolding feeds_on_literals
parents = refl

-- a platform's parent is a station, and neither an entrance, a node nor a boarding area
parents_of_other_kinds : Answers base (codes "stops.txt")
    ((
      codes "stop_id,location_type,parent_station\nA,0,E\nB\nC\nE,2\n",
      fault kind.BadParent file.Stops 1 column.ParentStation,
    )
    ∷ (
      codes "stop_id,location_type,parent_station\nA\nB,,N\nC\nN,3\n",
      fault kind.BadParent file.Stops 2 column.ParentStation,
    )
    ∷ (
      codes "stop_id,location_type,parent_station\nA\nB\nC,0,Q\nQ,4\n",
      fault kind.BadParent file.Stops 3 column.ParentStation,
    ) ∷ [])
unfolding feeds_on_literals
parents_of_other_kinds = refl

-- routes and trips
routes : Answers base (codes "routes.txt")
    ((codes "route_id,network_id\nR1,bus\nR2,rail\nR1,bus\n", fault kind.DoubledKey file.Routes 3 column.RouteId)
    ∷ (codes "route_id,network_id\nR1,bus\nR3,rail\n", fault kind.UnknownReference file.Trips 2 column.RouteId)
    ∷ (codes "route_id,network_id\nR1,bus\nR2,\n", fault kind.UnknownReference file.FareLegRules 2 column.NetworkId) ∷ [])
unfolding feeds_on_literals
routes = refl

trips : Answers base (codes "trips.txt")
    ((codes "route_id,service_id,trip_id\nR1,W,T1\nR2,V,T2\nR1,W,T3\n", fault kind.UnknownReference file.Trips 2 column.ServiceId)
    ∷ (codes "route_id,service_id,trip_id\nR1,W,T1\nR9,V,T2\nR1,W,T1\n", fault kind.UnknownReference file.Trips 2 column.RouteId)
    ∷ (codes "route_id,service_id,trip_id\nR1,W,T1\nR9,V,T1\n", fault kind.DoubledKey file.Trips 2 column.TripId)
    ∷ (codes "route_id,service_id,trip_id\nR1,W,T1\nR2,W,T2\n", fault kind.UnknownReference file.StopTimes 5 column.TripId)
    ∷ (codes "route_id,service_id,trip_id\nR1,W,T1\nR2,W,T2\nR1,W,T3\nR1,W,Unused\n", None) ∷ [])
unfolding feeds_on_literals
trips = refl

-- stop times: one sequence in two spellings, and kinds of stops
stop_times_keys : Answers base (codes "stop_times.txt")
    ((codes "trip_id,stop_id,stop_sequence,arrival_time\nT1,A,1,8:00:00\nT1,B,01,8:00:00\n", fault kind.DoubledKey file.StopTimes 2 column.StopSequence)
    ∷ (codes "trip_id,stop_id,stop_sequence,arrival_time\nT1,A,1,8:00:00\nT2,B,1,8:00:00\nT1,C,10,8:00:00\n", None)
    ∷ (codes "trip_id,stop_id,stop_sequence,arrival_time\nT1,A,1,8:00:00\nT9,X,1,8:00:00\n", fault kind.UnknownReference file.StopTimes 2 column.TripId)
    ∷ (codes "trip_id,stop_id,stop_sequence\nT1,A,1\nT1,B,1\n", fault kind.EndTimeMissing file.StopTimes 1 column.ArrivalTime)
    ∷ (codes "trip_id,stop_id,stop_sequence,arrival_time\nT1,A,1,8:00:00\nT1,B,1,\n", fault kind.DoubledKey file.StopTimes 2 column.StopSequence)
    ∷ (codes "trip_id,stop_id,stop_sequence,arrival_time\nT1,A,1,8:00:00\nT1,B,1,7:00:00\n", fault kind.DoubledKey file.StopTimes 2 column.StopSequence) ∷ [])
unfolding feeds_on_literals
stop_times_keys = refl

-- the ends of a trip, by sequence and not by row: a row within may be without times, and one time is enough
trip_ends : Answers base (codes "stop_times.txt")
    ((codes "trip_id,stop_id,stop_sequence,arrival_time,departure_time\nT1,A,1,8:00:00,\nT1,B,5,,\nT1,C,9,,9:00:00\n", None)
    ∷ (codes "trip_id,stop_id,stop_sequence,arrival_time,departure_time\nT1,A,1,8:00:00,\nT1,B,5,9:00:00,\nT1,C,9,,\n", fault kind.EndTimeMissing file.StopTimes 3 column.ArrivalTime)
    ∷ (codes "trip_id,stop_id,stop_sequence,arrival_time,departure_time\nT1,A,1,8:00:00,\nT1,C,9,,\nT1,B,5,9:00:00,\n", fault kind.EndTimeMissing file.StopTimes 2 column.ArrivalTime)
    ∷ (codes "trip_id,stop_id,stop_sequence,arrival_time,departure_time\nT1,B,5,,\nT1,C,9,9:00:00,\nT1,A,1,8:00:00,\n", None)
    ∷ (codes "trip_id,stop_id,stop_sequence,arrival_time,departure_time\nT1,A,0,,\n", fault kind.EndTimeMissing file.StopTimes 1 column.ArrivalTime)
    ∷ (codes "trip_id,stop_id,stop_sequence,arrival_time,departure_time\nT1,A,1,8:00:00,\nT2,A,1,,\nT1,B,2,8:00:00,\n", fault kind.EndTimeMissing file.StopTimes 2 column.ArrivalTime) ∷ [])
unfolding feeds_on_literals
trip_ends = refl

-- times within a row, against the nearest timed row before, and across the order of the file
times : Answers base (codes "stop_times.txt")
    ((codes "trip_id,stop_id,stop_sequence,arrival_time,departure_time\nT1,A,1,8:00:00,7:59:59\n", fault kind.TimesDecrease file.StopTimes 1 column.ArrivalTime)
    ∷ (codes "trip_id,stop_id,stop_sequence,arrival_time,departure_time\nT1,A,1,8:00:00,8:05:00\nT1,B,2,8:05:00,\n", None)
    ∷ (codes "trip_id,stop_id,stop_sequence,arrival_time,departure_time\nT1,A,1,8:00:00,8:05:00\nT1,B,2,8:04:59,8:06:00\n", fault kind.TimesDecrease file.StopTimes 2 column.ArrivalTime)
    ∷ (codes "trip_id,stop_id,stop_sequence,arrival_time,departure_time\nT1,A,1,,8:05:00\nT1,B,2,,8:04:59\n", fault kind.TimesDecrease file.StopTimes 2 column.ArrivalTime)
    ∷ (codes "trip_id,stop_id,stop_sequence,arrival_time,departure_time\nT1,A,1,8:10:00,\nT1,B,2,,\nT1,C,3,8:09:00,\n", fault kind.TimesDecrease file.StopTimes 3 column.ArrivalTime)
    ∷ (codes "trip_id,stop_id,stop_sequence,arrival_time,departure_time\nT1,C,3,8:09:00,\nT1,B,2,,\nT1,A,1,8:10:00,\n", fault kind.TimesDecrease file.StopTimes 1 column.ArrivalTime)
    ∷ (codes "trip_id,stop_id,stop_sequence,arrival_time,departure_time\nT1,A,1,8:10:00,\nT2,B,2,8:00:00,\nT1,C,3,8:11:00,\n", None)
    ∷ (codes "trip_id,stop_id,stop_sequence,arrival_time,departure_time\nT1,A,1,8:00:00,\nT1,C,3,8:20:00,\nT1,B,2,8:30:00,\n", fault kind.TimesDecrease file.StopTimes 2 column.ArrivalTime)
    ∷ (codes "trip_id,stop_id,stop_sequence,arrival_time,departure_time\nT1,A,1,8:30:00,\nT1,B,2,8:20:00,\nT1,C,3,8:25:00,\n", fault kind.TimesDecrease file.StopTimes 2 column.ArrivalTime) ∷ [])
unfolding feeds_on_literals
times = refl

-- a stop time at a station, at an entrance, and at an id of several rows, which a later row makes a fault of its own
kinds_of_stops : map (λ text. fault_of (with_file (codes "stops.txt") text base))
    (codes "stop_id,location_type\nA,1\nB\nC\n" ∷ codes "stop_id,location_type\nA\nB\nC,2\n" ∷ codes "stop_id,location_type\nA\nB\nC\nA,1\n" ∷ [])
    ≡ fault kind.WrongStopKind file.StopTimes 1 column.StopId ∷ fault kind.WrongStopKind file.StopTimes 4 column.StopId ∷ fault kind.DoubledKey file.Stops 4 column.StopId ∷ []
unfolding feeds_on_literals
kinds_of_stops = refl

-- and at a node and at a boarding area
other_kinds_of_stops : map (λ text. fault_of (with_file (codes "stops.txt") text base))
    (codes "stop_id,location_type\nA\nB,3\nC\n" ∷ codes "stop_id,location_type\nA\nB\nC,4\n"
    ∷ codes "stop_id,location_type\nA,0\nB\nC,00\n" ∷ [])
    ≡ fault kind.WrongStopKind file.StopTimes 2 column.StopId
    ∷ fault kind.WrongStopKind file.StopTimes 4 column.StopId ∷ None ∷ []
unfolding feeds_on_literals
other_kinds_of_stops = refl

-- frequencies: one start in two spellings; a start that isn't before the end is no fault
frequencies : Answers base (codes "frequencies.txt")
    ((codes "trip_id,start_time,end_time,headway_secs\nT3,8:20:00,9:20:00,1800\nT3,08:20:00,10:00:00,600\n", fault kind.DoubledKey file.Frequencies 2 column.StartTime)
    ∷ (codes "trip_id,start_time,end_time,headway_secs\nT3,8:20:00,9:20:00,1800\nT1,08:20:00,10:00:00,600\n", None)
    ∷ (codes "trip_id,start_time,end_time,headway_secs\nT3,9:20:00,8:20:00,1800\nT3,8:20:00,8:20:00,1\n", None)
    ∷ (codes "trip_id,start_time,end_time,headway_secs\nT4,8:20:00,9:20:00,1800\n", fault kind.UnknownReference file.Frequencies 1 column.TripId)
    ∷ (codes "trip_id,start_time,end_time,headway_secs\nT3,8:20:00,9:20:00,0\n", fault kind.BadNumber file.Frequencies 1 column.HeadwaySecs)
    ∷ (codes "trip_id,start_time,end_time,headway_secs,exact_times\nT3,8:20:00,,60,2\n", fault kind.EmptyRequired file.Frequencies 1 column.EndTime) ∷ [])
unfolding feeds_on_literals
frequencies = refl

-- transfers: doubled rows and stops of any kind are accepted
transfers : Answers base (codes "transfers.txt")
    ((codes "from_stop_id,to_stop_id\nA,C\nA,C\n", None)
    ∷ (codes "from_stop_id,to_stop_id\nA,C\nX,Y\n", fault kind.UnknownReference file.Transfers 2 column.FromStopId)
    ∷ (codes "from_stop_id,to_stop_id\nA,C\nA,Y\n", fault kind.UnknownReference file.Transfers 2 column.ToStopId) ∷ [])
unfolding feeds_on_literals
transfers = refl

-- areas and the areas of stops
areas : Answers (with_file (codes "areas.txt") (codes "area_id\nz1\nz2\n") base) (codes "stop_areas.txt")
    ((codes "area_id,stop_id\nz1,A\nz2,A\nz1,A\n", None)
    ∷ (codes "area_id,stop_id\nz1,A\nz3,X\n", fault kind.UnknownReference file.StopAreas 2 column.AreaId)
    ∷ (codes "area_id,stop_id\nz1,X\n", fault kind.UnknownReference file.StopAreas 1 column.StopId) ∷ [])
unfolding feeds_on_literals
areas = refl

areas_doubled : Answers base (codes "areas.txt") ((codes "area_id\nz1\nz2\nz1\n", fault kind.DoubledKey file.Areas 3 column.AreaId) ∷ [])
unfolding feeds_on_literals
areas_doubled = refl

-- networks of routes by files of their own: forbidden where a route has one itself, before the rows, but a header is no row
networks_beside : Answers base (codes "networks.txt")
    ((codes "network_id\n", None)
    ∷ (codes "network_id\nbus\nbus\n", plain_fault kind.ForbiddenTogether file.Networks 0)
    ∷ (codes "network_name\nbus\n", fault kind.MissingColumn file.Networks 0 column.NetworkId) ∷ [])
unfolding feeds_on_literals
networks_beside = refl

route_networks_beside : map fault_of
    (with_file (codes "route_networks.txt") (codes "network_id,route_id\nbus,R1\nbus,R1\n") base
    ∷ with_file (codes "route_networks.txt") (codes "network_id,route_id\nbus,R1\n") (with_file (codes "networks.txt") (codes "network_id\nbus\nbus\n") base)
    ∷ with_file (codes "route_networks.txt") (codes "network_id,route_id\n") base ∷ [])
    ≡ plain_fault kind.ForbiddenTogether file.RouteNetworks 0 ∷ plain_fault kind.ForbiddenTogether file.Networks 0 ∷ None ∷ []
unfolding feeds_on_literals
route_networks_beside = refl

-- the base feed with its networks in files of their own
abbrev apart : Folder
apart =
    with_file (codes "routes.txt") (codes "route_id,network_id\nR1,\nR2\n")
    (with_file (codes "networks.txt") (codes "network_id\nbus\nrail\n") base)

networks_apart : Answers apart (codes "route_networks.txt")
    ((codes "network_id,route_id\nrail,R2\nbus,R1\n", None)
    ∷ (codes "network_id,route_id\n", None)
    ∷ (codes "network_id,route_id\nrail,R2\nbus,R1\nbus,R2\n", fault kind.DoubledKey file.RouteNetworks 3 column.RouteId)
    ∷ (codes "network_id,route_id\ntram,R9\n", fault kind.UnknownReference file.RouteNetworks 1 column.NetworkId)
    ∷ (codes "network_id,route_id\nrail,R9\n", fault kind.UnknownReference file.RouteNetworks 1 column.RouteId) ∷ [])
unfolding feeds_on_literals
networks_apart = refl

networks_apart_read : feed_of (files_in (with_file (codes "route_networks.txt") (codes "network_id,route_id\nrail,R2\nbus,R1\n") apart)) ≡ base_rows
unfolding feeds_on_literals
networks_apart_read = refl

networks_doubled : Answers apart (codes "networks.txt") ((codes "network_id\nbus\nrail\nbus\n", fault kind.DoubledKey file.Networks 3 column.NetworkId) ∷ [])
unfolding feeds_on_literals
networks_doubled = refl

-- timeframes: one time alone, starts against ends, overlaps and neighbours
timeframes : Answers base (codes "timeframes.txt")
    ((codes "timeframe_group_id,start_time,end_time,service_id\npeak,0:00:00,9:00:00,W\npeak,9:00:00,24:00:00,W\n", None)
    ∷ (codes "timeframe_group_id,start_time,end_time,service_id\npeak,9:00:00,24:00:00,W\npeak,0:00:00,9:00:01,W\n", fault kind.TimeframeFault file.Timeframes 2 column.StartTime)
    ∷ (codes "timeframe_group_id,start_time,end_time,service_id\npeak,9:00:00,24:00:00,W\npeak,10:00:00,11:00:00,W\n", fault kind.TimeframeFault file.Timeframes 2 column.StartTime)
    ∷ (codes "timeframe_group_id,start_time,end_time,service_id\npeak,9:00:00,24:00:00,W\noff,10:00:00,11:00:00,W\n", None)
    ∷ (codes "timeframe_group_id,start_time,end_time,service_id\npeak,,,W\npeak,,,W\n", fault kind.TimeframeFault file.Timeframes 2 column.StartTime)
    ∷ (codes "timeframe_group_id,start_time,end_time,service_id\npeak,,,W\n", None)
    ∷ (codes "timeframe_group_id,start_time,end_time,service_id\npeak,9:00:00,,W\n", fault kind.TimeframeFault file.Timeframes 1 column.StartTime)
    ∷ (codes "timeframe_group_id,start_time,end_time,service_id\npeak,,9:00:00,W\n", fault kind.TimeframeFault file.Timeframes 1 column.StartTime)
    ∷ (codes "timeframe_group_id,start_time,end_time,service_id\npeak,9:00:00,09:00:00,W\n", fault kind.TimeframeFault file.Timeframes 1 column.StartTime)
    ∷ (codes "timeframe_group_id,start_time,end_time,service_id\npeak,9:00:00,8:00:00,W\n", fault kind.TimeframeFault file.Timeframes 1 column.StartTime)
    ∷ (codes "timeframe_group_id,start_time,end_time,service_id\npeak,9:00:00,8:00:00,V\n", fault kind.UnknownReference file.Timeframes 1 column.ServiceId) ∷ [])
unfolding feeds_on_literals
timeframes = refl

-- the same group at one time for two services
two_services : Answers (with_file (codes "calendar_dates.txt") (codes "service_id,date,exception_type\nW,20250602,1\nV,20250602,1\n") base) (codes "timeframes.txt")
    ((codes "timeframe_group_id,start_time,end_time,service_id\npeak,0:00:00,9:00:00,W\npeak,0:00:00,9:00:00,V\n", None) ∷ [])
unfolding feeds_on_literals
two_services = refl

-- rider categories and media
riders_and_media : map fault_of
    (with_file (codes "rider_categories.txt") (codes "rider_category_id\nadult\nchild\nadult\n") base
    ∷ with_file (codes "fare_media.txt") (codes "fare_media_id\ncard\ncard\n") base ∷ [])
    ≡ fault kind.DoubledKey file.RiderCategories 3 column.RiderCategoryId ∷ fault kind.DoubledKey file.FareMedia 2 column.FareMediaId ∷ []
unfolding feeds_on_literals
riders_and_media = refl

-- products: unknown references, and one key with empty fields
products : Answers (with_file (codes "rider_categories.txt") (codes "rider_category_id\nadult\nchild\n") base) (codes "fare_products.txt")
    ((codes "fare_product_id,rider_category_id,amount,currency\nsingle,adult,2.50,EUR\nsingle,child,1.20,EUR\nsingle,,3,EUR\nrail,,4,EUR\nchange,,0,EUR\n", None)
    ∷ (codes "fare_product_id,rider_category_id,amount,currency\nsingle,adult,2.50,EUR\nsingle,senior,1.20,EUR\n", fault kind.UnknownReference file.FareProducts 2 column.RiderCategoryId)
    ∷ (codes "fare_product_id,fare_media_id,amount,currency\nsingle,card,2.50,EUR\n", fault kind.UnknownReference file.FareProducts 1 column.FareMediaId)
    ∷ (codes "fare_product_id,rider_category_id,amount,currency\nsingle,,2.50,EUR\nsingle,,1.20,USD\n", fault kind.DoubledKey file.FareProducts 2 column.FareProductId) ∷ [])
unfolding feeds_on_literals
products = refl

-- leg rules: each reference, by its place, and no row at all
leg_rules : Answers (without_file (codes "fare_transfer_rules.txt") base) (codes "fare_leg_rules.txt")
    ((codes "fare_product_id\n", None)
    ∷ (codes "network_id,fare_product_id\ntram,single\n", fault kind.UnknownReference file.FareLegRules 1 column.NetworkId)
    ∷ (codes "from_area_id,fare_product_id\nz1,single\n", fault kind.UnknownReference file.FareLegRules 1 column.FromAreaId)
    ∷ (codes "to_area_id,fare_product_id\nz1,single\n", fault kind.UnknownReference file.FareLegRules 1 column.ToAreaId)
    ∷ (codes "from_timeframe_group_id,fare_product_id\npeak,single\n", fault kind.UnknownReference file.FareLegRules 1 column.FromTimeframeGroupId)
    ∷ (codes "to_timeframe_group_id,fare_product_id\npeak,single\n", fault kind.UnknownReference file.FareLegRules 1 column.ToTimeframeGroupId)
    ∷ (codes "fare_product_id\nsingle\nsingle\nhalf\n", fault kind.UnknownReference file.FareLegRules 3 column.FareProductId) ∷ [])
unfolding feeds_on_literals
leg_rules = refl

-- transfer rules: the count against the groups, then the limit, then the references
transfer_rules : Answers base (codes "fare_transfer_rules.txt")
    ((codes "from_leg_group_id,to_leg_group_id,transfer_count,fare_transfer_type\ngb,gb,1,0\ngb,gb,-1,0\ngb,gr,,0\n,gb,,0\ngb,,,0\n,,,0\n,,3,0\n", None)
    ∷ (codes "from_leg_group_id,to_leg_group_id,transfer_count,fare_transfer_type\ngb,gb,,0\n", fault kind.TransferFields file.FareTransferRules 1 column.TransferCount)
    ∷ (codes "from_leg_group_id,to_leg_group_id,transfer_count,fare_transfer_type\ngb,gr,1,0\n", fault kind.TransferFields file.FareTransferRules 1 column.TransferCount)
    ∷ (codes "from_leg_group_id,to_leg_group_id,transfer_count,fare_transfer_type\ngb,,-1,0\n", fault kind.TransferFields file.FareTransferRules 1 column.TransferCount)
    ∷ (codes "from_leg_group_id,to_leg_group_id,transfer_count,fare_transfer_type\n,gr,1,0\n", fault kind.TransferFields file.FareTransferRules 1 column.TransferCount)
    ∷ (codes "from_leg_group_id,to_leg_group_id,transfer_count,fare_transfer_type\ngx,gx,,0\n", fault kind.TransferFields file.FareTransferRules 1 column.TransferCount)
    ∷ (codes "from_leg_group_id,duration_limit,duration_limit_type,fare_transfer_type\ngb,600,2,0\n", None)
    ∷ (codes "from_leg_group_id,duration_limit,duration_limit_type,fare_transfer_type\ngx,600,,0\n", fault kind.TransferFields file.FareTransferRules 1 column.DurationLimitType)
    ∷ (codes "from_leg_group_id,duration_limit,duration_limit_type,fare_transfer_type\ngb,,0,0\n", fault kind.TransferFields file.FareTransferRules 1 column.DurationLimitType)
    ∷ (codes "from_leg_group_id,to_leg_group_id,fare_transfer_type\ngx,gy,0\n", fault kind.UnknownReference file.FareTransferRules 1 column.FromLegGroupId)
    ∷ (codes "from_leg_group_id,to_leg_group_id,fare_transfer_type\ngb,gy,0\n", fault kind.UnknownReference file.FareTransferRules 1 column.ToLegGroupId)
    ∷ (codes "from_leg_group_id,to_leg_group_id,fare_transfer_type,fare_product_id\ngb,gr,0,change\ngb,gr,0,half\n", fault kind.UnknownReference file.FareTransferRules 2 column.FareProductId) ∷ [])
unfolding feeds_on_literals
transfer_rules = refl
