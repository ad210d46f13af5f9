-- What the definitions make of generated feeds: the numbers drawn from the seed 7, the files of 2 lines in full, and
-- parts of those of 16.
use Rattle.std.specs.Prelude.{◌≡◌, refl, ℕ, ◌==◌, if◌then◌else◌, List, [], ◌∷◌, ◌++◌, map, None, false, pos, codes}
use Rattle.std.specs.Fmt.{digits}
use Rattle.jiff_core.specs.Calendar.{days_from_civil, day_count, days_of_years, days_of_months}
use Rattle.transit_base.specs.DateTexts.{time_text}
use Rattle.feed_files.specs.HeldFiles.{HeldFile}
use Rattle.feed_rows.specs.GeneratedFeed.{drawn, offset, hop, route_name, network_name, area_name, trip_time, row_text, generated_stop_time_row, stops_file, routes_file, trips_file, calendar_file, areas_file, stop_areas_file, timeframes_file, fare_products_file, fare_leg_rules_file, fare_transfer_rules_file, generated}
use Rattle.commands.specs.GeneratedPlan.{generated_plan}
use Rattle.feed_files.specs.declared.names.FileName.TheVariants as file

-- a text with `;` for each line feed
abbrev pub lined : List ℕ → List ℕ
lined [] = []
lined (byte ∷ bytes) = (if byte == 59 then 10 else byte) ∷ lined bytes

-- ---- drawn numbers

-- the seed itself, and the number after each draw
draws : map (drawn 7) (0 ∷ 1 ∷ 2 ∷ 3 ∷ 4 ∷ 5 ∷ 6 ∷ 7 ∷ 8 ∷ [])
    ≡ 7 ∷ 599 ∷ 44_999 ∷ 32_612 ∷ 21_105 ∷ 10_061 ∷ 33_742 ∷ 40_318 ∷ 9_222 ∷ []
draws = refl

-- draws at the ends: the greatest seed, and a draw that gives 0, and one that passes 65,536
draws_at_ends : (drawn 65_535 1 ≡ 65_461) × (drawn 0 1 ≡ 74) × (drawn 45_438 1 ≡ 0) × (drawn 32_768 1 ≡ 32_805)
draws_at_ends = (refl, refl, refl, refl)

-- each route draws twice
offsets : map (offset 7) (0 ∷ 1 ∷ 2 ∷ 3 ∷ []) ≡ 9 ∷ 2 ∷ 1 ∷ 8 ∷ []
offsets = refl

hops : map (hop 7) (0 ∷ 1 ∷ 2 ∷ 3 ∷ []) ≡ 179 ∷ 165 ∷ 82 ∷ 162 ∷ []
hops = refl

-- V0 departs at 07:01:00, H1 at 07:12:00 to arrive at 07:14:45, H0 at 09:09:00, and V1 at 09:18:00 to arrive at 09:20:42
known_trips :
    map (λ (at : ℕ × ℕ × ℕ). time_text (trip_time 7 (at.0) (at.1) (at.2)))
    ((2, 6, 0) ∷ (1, 7, 0) ∷ (1, 7, 1) ∷ (0, 18, 0) ∷ (3, 19, 0) ∷ (3, 19, 1) ∷ [])
    ≡ codes "07:01:00" ∷ codes "07:12:00" ∷ codes "07:14:45" ∷ codes "09:09:00" ∷ codes "09:18:00" ∷ codes "09:20:42" ∷ []
unfolding time_text
known_trips = refl

-- ---- the files of 2 lines

stops : stops_file 2 ≡ lined (codes "stop_id;s_0_0;s_0_1;s_1_0;s_1_1;")
unfolding stops_file digits
stops = refl

routes : routes_file 2 ≡ lined (codes "route_id,network_id;H0,bus;H1,tram;V0,rail;V1,bus;")
unfolding routes_file digits
routes = refl

trips :
    trips_file 2
    ≡ lined
    (codes "route_id,service_id,trip_id;H0,W,H0_0;H0,W,H0_1;H0,W,H0_2;H0,W,H0_3;H0,W,H0_4;H0,W,H0_5;H0,W,H0_6;H0,W,H0_7;"
    ++ codes "H0,W,H0_8;H0,W,H0_9;H0,W,H0_10;H0,W,H0_11;H0,W,H0_12;H0,W,H0_13;H0,W,H0_14;H0,W,H0_15;H0,W,H0_16;"
    ++ codes "H0,W,H0_17;H0,W,H0_18;H0,W,H0_19;H0,W,H0_20;H0,W,H0_21;H0,W,H0_22;H0,W,H0_23;H1,W,H1_0;H1,W,H1_1;"
    ++ codes "H1,W,H1_2;H1,W,H1_3;H1,W,H1_4;H1,W,H1_5;H1,W,H1_6;H1,W,H1_7;H1,W,H1_8;H1,W,H1_9;H1,W,H1_10;"
    ++ codes "H1,W,H1_11;H1,W,H1_12;H1,W,H1_13;H1,W,H1_14;H1,W,H1_15;H1,W,H1_16;H1,W,H1_17;H1,W,H1_18;H1,W,H1_19;"
    ++ codes "H1,W,H1_20;H1,W,H1_21;H1,W,H1_22;H1,W,H1_23;V0,W,V0_0;V0,W,V0_1;V0,W,V0_2;V0,W,V0_3;V0,W,V0_4;"
    ++ codes "V0,W,V0_5;V0,W,V0_6;V0,W,V0_7;V0,W,V0_8;V0,W,V0_9;V0,W,V0_10;V0,W,V0_11;V0,W,V0_12;V0,W,V0_13;"
    ++ codes "V0,W,V0_14;V0,W,V0_15;V0,W,V0_16;V0,W,V0_17;V0,W,V0_18;V0,W,V0_19;V0,W,V0_20;V0,W,V0_21;V0,W,V0_22;"
    ++ codes "V0,W,V0_23;V1,W,V1_0;V1,W,V1_1;V1,W,V1_2;V1,W,V1_3;V1,W,V1_4;V1,W,V1_5;V1,W,V1_6;V1,W,V1_7;"
    ++ codes "V1,W,V1_8;V1,W,V1_9;V1,W,V1_10;V1,W,V1_11;V1,W,V1_12;V1,W,V1_13;V1,W,V1_14;V1,W,V1_15;V1,W,V1_16;"
    ++ codes "V1,W,V1_17;V1,W,V1_18;V1,W,V1_19;V1,W,V1_20;V1,W,V1_21;V1,W,V1_22;V1,W,V1_23;")
unfolding trips_file digits
trips = refl

calendar :
    calendar_file
    ≡ lined
    (codes "service_id,monday,tuesday,wednesday,thursday,friday,saturday,sunday,start_date,end_date;"
    ++ codes "W,1,1,1,1,1,1,1,20250101,20251231;")
unfolding calendar_file
calendar = refl

areas : areas_file ≡ lined (codes "area_id;z0;z1;")
unfolding areas_file
areas = refl

stop_areas : stop_areas_file 2 ≡ lined (codes "area_id,stop_id;z0,s_0_0;z0,s_0_1;z0,s_1_0;z1,s_1_1;")
unfolding stop_areas_file digits
stop_areas = refl

timeframes :
    timeframes_file
    ≡ lined
    (codes "timeframe_group_id,start_time,end_time,service_id;"
    ++ codes "peak,00:00:00,09:00:00,W;"
    ++ codes "off,09:00:00,24:00:00,W;")
unfolding timeframes_file
timeframes = refl

fare_products :
    fare_products_file
    ≡ lined
    (codes "fare_product_id,currency,amount;bus_peak,EUR,2.00;bus_off,EUR,1.00;tram,EUR,1.50;"
    ++ codes "rail_far,EUR,3.00;rail_near,EUR,2.00;change,EUR,0.50;bonus,EUR,-0.30;"
    ++ codes "combi,EUR,2.20;")
unfolding fare_products_file
fare_products = refl

fare_leg_rules :
    fare_leg_rules_file
    ≡ lined
    (codes "leg_group_id,network_id,to_area_id,from_timeframe_group_id,fare_product_id,rule_priority;"
    ++ codes "g_bus,bus,,peak,bus_peak,0;"
    ++ codes "g_bus,bus,,off,bus_off,0;"
    ++ codes "g_tram,tram,,,tram,0;"
    ++ codes "g_rail,rail,z1,,rail_far,1;"
    ++ codes "g_rail,rail,,,rail_near,0;")
unfolding fare_leg_rules_file
fare_leg_rules = refl

fare_transfer_rules :
    fare_transfer_rules_file
    ≡ lined
    (codes "from_leg_group_id,to_leg_group_id,transfer_count,duration_limit,duration_limit_type,fare_transfer_type,fare_product_id;"
    ++ codes "g_bus,g_bus,-1,3600,1,0,;"
    ++ codes "g_bus,g_tram,,,,0,change;"
    ++ codes "g_rail,g_tram,,,,0,bonus;"
    ++ codes "g_tram,g_bus,,,,2,combi;")
unfolding fare_transfer_rules_file
fare_transfer_rules = refl

-- each file under its name, and no other
named_files : map (generated 7 2)
    (file.Stops ∷ file.Routes ∷ file.Trips ∷ file.Calendar ∷ file.CalendarDates ∷ file.Frequencies ∷ file.Transfers
    ∷ file.Areas
    ∷ file.StopAreas ∷ file.Networks ∷ file.RouteNetworks ∷ file.Timeframes ∷ file.RiderCategories ∷ file.FareMedia
    ∷ file.FareProducts ∷ file.FareLegRules ∷ file.FareTransferRules ∷ [])
    ≡ HeldFile.Bytes (stops_file 2) ∷ HeldFile.Bytes (routes_file 2) ∷ HeldFile.Bytes (trips_file 2)
    ∷ HeldFile.Bytes calendar_file
    ∷ HeldFile.Missing ∷ HeldFile.Missing ∷ HeldFile.Missing ∷ HeldFile.Bytes areas_file
    ∷ HeldFile.Bytes (stop_areas_file 2) ∷ HeldFile.Missing ∷ HeldFile.Missing ∷ HeldFile.Bytes timeframes_file
    ∷ HeldFile.Missing ∷ HeldFile.Missing
    ∷ HeldFile.Bytes fare_products_file ∷ HeldFile.Bytes fare_leg_rules_file ∷ HeldFile.Bytes fare_transfer_rules_file
    ∷ []
named_files = refl

-- ---- parts of the files of 16 lines

some_routes : map (λ i. row_text (route_name 16 i ∷ network_name i ∷ [])) (0 ∷ 9 ∷ 10 ∷ 15 ∷ 16 ∷ 25 ∷ 26 ∷ 31 ∷ [])
    ≡ map lined
    (codes "H0,bus;" ∷ codes "H9,bus;" ∷ codes "H10,tram;" ∷ codes "H15,bus;" ∷ codes "V0,tram;" ∷ codes "V9,tram;"
    ∷ codes "V10,rail;" ∷ codes "V15,tram;" ∷ [])
unfolding digits
some_routes = refl

-- rows of stop times: at both ends of a trip, of the first and the last trip, and of routes both ways
some_stop_times :
    map (λ (at : ℕ × ℕ × ℕ). row_text (generated_stop_time_row 7 16 (at.0) (at.1) (at.2)))
    ((0, 0, 0) ∷ (0, 0, 15) ∷ (0, 23, 1) ∷ (1, 0, 0) ∷ (9, 10, 2) ∷ (15, 23, 15) ∷ (16, 0, 0) ∷ (16, 0, 15)
    ∷ (17, 9, 11) ∷ (30, 12, 7) ∷ (31, 23, 15) ∷ [])
    ≡ map lined
    (codes "H0_0,s_0_0,0,06:09:00,06:09:00;"
    ∷ codes "H0_0,s_0_15,15,06:53:45,06:53:45;"
    ∷ codes "H0_23,s_0_1,1,10:01:59,10:01:59;"
    ∷ codes "H1_0,s_1_0,0,06:02:00,06:02:00;"
    ∷ codes "H9_10,s_9_2,2,07:44:46,07:44:46;"
    ∷ codes "H15_23,s_15_15,15,10:15:30,10:15:30;"
    ∷ codes "V0_0,s_0_0,0,06:03:00,06:03:00;"
    ∷ codes "V0_0,s_15_0,15,06:47:00,06:47:00;"
    ∷ codes "V1_9,s_11_1,11,07:52:14,07:52:14;"
    ∷ codes "V14_12,s_7_14,7,08:12:44,08:12:44;"
    ∷ codes "V15_23,s_15_15,15,10:14:45,10:14:45;" ∷ [])
unfolding digits time_text
some_stop_times = refl

-- the areas of stops on both sides of the diagonal
some_areas : map (λ (at : ℕ × ℕ). area_name 16 (at.0) (at.1)) ((0, 0) ∷ (0, 15) ∷ (1, 14) ∷ (1, 15) ∷ (7, 8) ∷ (8, 8)
    ∷ (15, 0) ∷ (15, 1) ∷ (15, 15) ∷ [])
    ≡ codes "z0" ∷ codes "z0" ∷ codes "z0" ∷ codes "z1" ∷ codes "z0" ∷ codes "z1" ∷ codes "z0" ∷ codes "z1"
    ∷ codes "z1" ∷ []
some_areas = refl

-- ---- the plan

plan_of_two : generated_plan 2
    ≡ record { from = codes "s_0_0"; to = codes "s_1_1"; departure = pos 1_748_847_600; rides = 4; rider = None; window = 86_400; stats = false }
unfolding digits days_from_civil day_count days_of_years days_of_months
plan_of_two = refl

stops_of_sixteen : (generated_plan 16).to ≡ codes "s_15_15"
unfolding digits days_from_civil day_count days_of_years days_of_months
stops_of_sixteen = refl
