-- The feed of the seed 7 with 3 lines: where 2 lines stand, a double and a square are one number.
use Rattle.std.specs.Prelude.{◌≡◌, refl, ℕ, ◌+◌, ◌-◌, ◌==◌, if◌then◌else◌, List, [], ◌∷◌, ◌++◌, length, drop, map, codes}
use Rattle.std.specs.Fmt.{digits}
use Rattle.transit_base.specs.DateTexts.{time_text}
use Rattle.feed_rows.specs.GeneratedFeed.{drawn, offset, hop, stops_file, routes_file, trips_file, stop_areas_file, stop_times_file}
use Rattle.commands.specs.GeneratedPlan.{generated_plan}
use Rattle.feed_examples.proofs.GeneratedChecks.{lined}

-- the numbers of the last three routes, by the seventh to the twelfth draw
later_draws : map (drawn 7) (7 ∷ 8 ∷ 9 ∷ 10 ∷ 11 ∷ 12 ∷ []) ≡ 40_318 ∷ 9_222 ∷ 36_354 ∷ 39_607 ∷ 21_434 ∷ 34_736 ∷ []
later_draws = refl

later_routes : (map (offset 7) (3 ∷ 4 ∷ 5 ∷ []) ≡ 8 ∷ 4 ∷ 4 ∷ []) × (map (hop 7) (3 ∷ 4 ∷ 5 ∷ []) ≡ 162 ∷ 67 ∷ 116 ∷ [])
later_routes = (refl, refl)

-- nine stops, row by row
stops : stops_file 3 ≡ lined (codes "stop_id;s_0_0;s_0_1;s_0_2;s_1_0;s_1_1;s_1_2;s_2_0;s_2_1;s_2_2;")
unfolding stops_file digits
stops = refl

-- six routes: three along the rows, and three along the columns
routes : routes_file 3 ≡ lined (codes "route_id,network_id;H0,bus;H1,tram;H2,rail;V0,bus;V1,tram;V2,rail;")
unfolding routes_file digits
routes = refl

-- 24 trips of each of the six
trips :
    trips_file 3
    ≡ lined
    (codes "route_id,service_id,trip_id;H0,W,H0_0;H0,W,H0_1;H0,W,H0_2;H0,W,H0_3;H0,W,H0_4;H0,W,H0_5;H0,W,H0_6;"
    ++ codes "H0,W,H0_7;H0,W,H0_8;H0,W,H0_9;H0,W,H0_10;H0,W,H0_11;H0,W,H0_12;H0,W,H0_13;H0,W,H0_14;H0,W,H0_15;"
    ++ codes "H0,W,H0_16;H0,W,H0_17;H0,W,H0_18;H0,W,H0_19;H0,W,H0_20;H0,W,H0_21;H0,W,H0_22;H0,W,H0_23;H1,W,H1_0;"
    ++ codes "H1,W,H1_1;H1,W,H1_2;H1,W,H1_3;H1,W,H1_4;H1,W,H1_5;H1,W,H1_6;H1,W,H1_7;H1,W,H1_8;H1,W,H1_9;"
    ++ codes "H1,W,H1_10;H1,W,H1_11;H1,W,H1_12;H1,W,H1_13;H1,W,H1_14;H1,W,H1_15;H1,W,H1_16;H1,W,H1_17;H1,W,H1_18;"
    ++ codes "H1,W,H1_19;H1,W,H1_20;H1,W,H1_21;H1,W,H1_22;H1,W,H1_23;H2,W,H2_0;H2,W,H2_1;H2,W,H2_2;H2,W,H2_3;"
    ++ codes "H2,W,H2_4;H2,W,H2_5;H2,W,H2_6;H2,W,H2_7;H2,W,H2_8;H2,W,H2_9;H2,W,H2_10;H2,W,H2_11;H2,W,H2_12;"
    ++ codes "H2,W,H2_13;H2,W,H2_14;H2,W,H2_15;H2,W,H2_16;H2,W,H2_17;H2,W,H2_18;H2,W,H2_19;H2,W,H2_20;H2,W,H2_21;"
    ++ codes "H2,W,H2_22;H2,W,H2_23;V0,W,V0_0;V0,W,V0_1;V0,W,V0_2;V0,W,V0_3;V0,W,V0_4;V0,W,V0_5;V0,W,V0_6;"
    ++ codes "V0,W,V0_7;V0,W,V0_8;V0,W,V0_9;V0,W,V0_10;V0,W,V0_11;V0,W,V0_12;V0,W,V0_13;V0,W,V0_14;V0,W,V0_15;"
    ++ codes "V0,W,V0_16;V0,W,V0_17;V0,W,V0_18;V0,W,V0_19;V0,W,V0_20;V0,W,V0_21;V0,W,V0_22;V0,W,V0_23;V1,W,V1_0;"
    ++ codes "V1,W,V1_1;V1,W,V1_2;V1,W,V1_3;V1,W,V1_4;V1,W,V1_5;V1,W,V1_6;V1,W,V1_7;V1,W,V1_8;V1,W,V1_9;"
    ++ codes "V1,W,V1_10;V1,W,V1_11;V1,W,V1_12;V1,W,V1_13;V1,W,V1_14;V1,W,V1_15;V1,W,V1_16;V1,W,V1_17;V1,W,V1_18;"
    ++ codes "V1,W,V1_19;V1,W,V1_20;V1,W,V1_21;V1,W,V1_22;V1,W,V1_23;V2,W,V2_0;V2,W,V2_1;V2,W,V2_2;V2,W,V2_3;"
    ++ codes "V2,W,V2_4;V2,W,V2_5;V2,W,V2_6;V2,W,V2_7;V2,W,V2_8;V2,W,V2_9;V2,W,V2_10;V2,W,V2_11;V2,W,V2_12;"
    ++ codes "V2,W,V2_13;V2,W,V2_14;V2,W,V2_15;V2,W,V2_16;V2,W,V2_17;V2,W,V2_18;V2,W,V2_19;V2,W,V2_20;V2,W,V2_21;"
    ++ codes "V2,W,V2_22;V2,W,V2_23;")
unfolding trips_file digits
trips = refl

-- the stops before the diagonal from the last row to the last column are in the one area, and those on it and behind it
-- in the other
stop_areas :
    stop_areas_file 3
    ≡ lined (codes "area_id,stop_id;z0,s_0_0;z0,s_0_1;z0,s_0_2;z0,s_1_0;z0,s_1_1;z1,s_1_2;z0,s_2_0;z1,s_2_1;z1,s_2_2;")
unfolding stop_areas_file digits
stop_areas = refl

-- how many line feeds a text has
abbrev lines_of : List ℕ → ℕ
lines_of [] = 0
lines_of (byte ∷ bytes) = if byte == 10 then lines_of bytes + 1 else lines_of bytes

-- a header, and 6 * 24 trips of 3 stop times
stop_times_count : lines_of (stop_times_file 7 3) ≡ 433
unfolding stop_times_file digits time_text
stop_times_count = refl

-- the last so many bytes of a text
abbrev last_bytes : ℕ → List ℕ → List ℕ
last_bytes count text = drop (length text - count) text

-- the last trip goes down the last column
last_trip :
    last_bytes 96 (stop_times_file 7 3)
    ≡ lined
    (codes "V2_23,s_0_2,0,09:54:00,09:54:00;V2_23,s_1_2,1,09:55:56,09:55:56;V2_23,s_2_2,2,09:57:52,09:57:52;")
unfolding stop_times_file digits time_text
last_trip = refl

-- the plan goes to the last of the nine stops
last_stop : (generated_plan 3).to ≡ codes "s_2_2"
unfolding digits
last_stop = refl
