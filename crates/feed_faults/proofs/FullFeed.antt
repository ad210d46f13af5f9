-- A feed with a row in each file.
use Rattle.std.proofs.Common.{◌≡◌, true, false, [], ◌∷◌, None, Some, refl}
use Rattle.std.specs.Prelude.{codes, pos, negsuc}
use Rattle.transit_base.specs.Dates.{day_number}
use Rattle.feed_faults.specs.FormFaults.{first_form_fault}
use Rattle.feed_faults.specs.AcceptedFeed.{feed_of}
use Rattle.feed_faults.specs.OnLiterals.{feeds_on_literals}
use Rattle.feed_faults.proofs.Folders.{Folder, files_in, with_file, without_file}
use Rattle.feed_faults.proofs.BaseFeed.{base, base_rows}
use Rattle.feed_faults.proofs.Expected.{fault_of}

-- its files
abbrev pub full : Folder
full =
    (codes "stops.txt", codes "stop_id,stop_name,location_type,parent_station\nP,Main,1,\nA,Ash,0,P\nB,Birch,,P\nC,Cedar,0,\nE,Door,2,P\n")
    ∷ (codes "routes.txt", codes "route_id,route_type\nR1,3\nR2,2\nR3,0\n")
    ∷ (codes "trips.txt", codes "trip_id,route_id,service_id\nT1,R1,S2\nT2,R2,S1\nT3,R3,S2\n")
    ∷ (codes "stop_times.txt", codes "trip_id,arrival_time,departure_time,stop_id,stop_sequence,pickup_type,drop_off_type\nT1,08:00:00,,A,1,0,1\nT1,,,B,5,2,3\nT1,,25:10:00,C,010,1,\n")
    ∷ (codes "calendar.txt", codes "service_id,monday,tuesday,wednesday,thursday,friday,saturday,sunday,start_date,end_date\nS0,1,1,1,1,1,0,0,20250101,20251231\nS1,0,0,0,0,0,1,01,20250601,20250602\n")
    ∷ (codes "calendar_dates.txt", codes "service_id,date,exception_type\nS2,20250602,1\nS3,20250601,2\nS0,20250602,02\n")
    ∷ (codes "frequencies.txt", codes "trip_id,start_time,end_time,headway_secs,exact_times\nT3,8:20:00,09:20:00,1800,1\n")
    ∷ (codes "transfers.txt", codes "from_stop_id,to_stop_id,transfer_type,min_transfer_time,from_route_id\nA,C,2,120,\nP,P,3,,\nA,B,4,,\nE,A,,60,\nA,B,1,,R1\n")
    ∷ (codes "areas.txt", codes "area_id,area_name\nz1,Inner\nz2,Outer\n")
    ∷ (codes "stop_areas.txt", codes "area_id,stop_id\nz2,A\nz1,P\n")
    ∷ (codes "networks.txt", codes "network_id\nn1\nn2\n")
    ∷ (codes "route_networks.txt", codes "network_id,route_id\nn2,R1\nn1,R2\n")
    ∷ (codes "timeframes.txt", codes "timeframe_group_id,start_time,end_time,service_id\npeak,00:00:00,09:00:00,S1\nall,,,S2\npeak,09:00:00,24:00:00,S1\n")
    ∷ (codes "rider_categories.txt", codes "rider_category_id,is_default_fare_category\nadult,1\nchild,\n")
    ∷ (codes "fare_media.txt", codes "fare_media_id,fare_media_type\ncard,2\ncash,\n")
    ∷ (codes "fare_products.txt", codes "fare_product_id,rider_category_id,fare_media_id,amount,currency\nsingle,adult,card,2.505,KWD\nsingle,child,,1.2,KWD\nrail,,,4,KWD\nbonus,,cash,-0.300,KWD\n")
    ∷ (codes "fare_leg_rules.txt", codes "leg_group_id,network_id,from_area_id,to_area_id,from_timeframe_group_id,to_timeframe_group_id,fare_product_id,rule_priority\ng1,n2,z1,,peak,,single,1\n,,,,,,rail,\ng2,n1,,z2,,all,rail,007\n")
    ∷ (codes "fare_transfer_rules.txt", codes "from_leg_group_id,to_leg_group_id,transfer_count,duration_limit,duration_limit_type,fare_transfer_type,fare_product_id\ng1,g1,-1,3600,1,0,\ng1,g1,3,,,1,bonus\ng1,g2,,,,2,bonus\n,,,900,3,0,\n")
    ∷ (codes "fare_leg_join_rules.txt", codes "from_network_id,to_network_id,from_stop_id,to_stop_id\nn2,n1,B,P\nn2,n2,,\n")
    ∷ []

-- its rows: services by first appearance are S2 and S1 of the trips, S0 of the calendar and S3 of the exceptions
full_read : feed_of (files_in full)
    ≡ record {
      stops = record { id = codes "P"; kind = 1; parent = None }
          ∷ record { id = codes "A"; kind = 0; parent = Some (record { 0 = 0 }) }
          ∷ record { id = codes "B"; kind = 0; parent = Some (record { 0 = 0 }) }
          ∷ record { id = codes "C"; kind = 0; parent = None }
          ∷ record { id = codes "E"; kind = 2; parent = None } ∷ [];
      routes = record { id = codes "R1"; network = Some (record { 0 = 1 }) }
          ∷ record { id = codes "R2"; network = Some (record { 0 = 0 }) }
          ∷ record { id = codes "R3"; network = None } ∷ [];
      trips = record { id = codes "T1"; route = record { 0 = 0 }; service = record { 0 = 0 } }
          ∷ record { id = codes "T2"; route = record { 0 = 1 }; service = record { 0 = 1 } }
          ∷ record { id = codes "T3"; route = record { 0 = 2 }; service = record { 0 = 0 } } ∷ [];
      stop_times = record { trip = record { 0 = 0 }; stop = record { 0 = 1 }; sequence = 1; arrival = Some 28800; departure = None; pickup = true; drop_off = false }
          ∷ record { trip = record { 0 = 0 }; stop = record { 0 = 2 }; sequence = 5; arrival = None; departure = None; pickup = true; drop_off = true }
          ∷ record { trip = record { 0 = 0 }; stop = record { 0 = 3 }; sequence = 10; arrival = None; departure = Some 90600; pickup = false; drop_off = true } ∷ [];
      services = record { service = record { 0 = 2 }; days = true ∷ true ∷ true ∷ true ∷ true ∷ false ∷ false ∷ []; first = record { 0 = day_number 2025 1 1 }; last = record { 0 = day_number 2025 12 31 } }
          ∷ record { service = record { 0 = 1 }; days = false ∷ false ∷ false ∷ false ∷ false ∷ true ∷ true ∷ []; first = record { 0 = day_number 2025 6 1 }; last = record { 0 = day_number 2025 6 2 } } ∷ [];
      exceptions = record { service = record { 0 = 0 }; day = record { 0 = day_number 2025 6 2 }; added = true }
          ∷ record { service = record { 0 = 3 }; day = record { 0 = day_number 2025 6 1 }; added = false }
          ∷ record { service = record { 0 = 2 }; day = record { 0 = day_number 2025 6 2 }; added = false } ∷ [];
      frequencies = record { trip = record { 0 = 2 }; start = 30000; end = 33600; headway = 1800 } ∷ [];
      links = record { from = record { 0 = 1 }; to = record { 0 = 3 }; forbidden = false; seconds = 120 }
          ∷ record { from = record { 0 = 0 }; to = record { 0 = 0 }; forbidden = true; seconds = 0 }
          ∷ record { from = record { 0 = 4 }; to = record { 0 = 1 }; forbidden = false; seconds = 60 } ∷ [];
      areas = record { id = codes "z1" } ∷ record { id = codes "z2" } ∷ [];
      stop_areas = record { area = record { 0 = 1 }; stop = record { 0 = 1 } } ∷ record { area = record { 0 = 0 }; stop = record { 0 = 0 } } ∷ [];
      timeframes = record { frame = record { 0 = 0 }; start = 0; end = 32400; service = record { 0 = 1 } }
          ∷ record { frame = record { 0 = 1 }; start = 0; end = 86400; service = record { 0 = 0 } }
          ∷ record { frame = record { 0 = 0 }; start = 32400; end = 86400; service = record { 0 = 1 } } ∷ [];
      riders = record { id = codes "adult"; default = true } ∷ record { id = codes "child"; default = false } ∷ [];
      media = record { id = codes "card" } ∷ record { id = codes "cash" } ∷ [];
      products = record { product = record { 0 = 0 }; rider = Some (record { 0 = 0 }); medium = Some (record { 0 = 0 }); amount = record { 0 = pos 2505 } }
          ∷ record { product = record { 0 = 0 }; rider = Some (record { 0 = 1 }); medium = None; amount = record { 0 = pos 1200 } }
          ∷ record { product = record { 0 = 1 }; rider = None; medium = None; amount = record { 0 = pos 4000 } }
          ∷ record { product = record { 0 = 2 }; rider = None; medium = Some (record { 0 = 1 }); amount = record { 0 = negsuc 299 } } ∷ [];
      leg_rules = record { group = Some (record { 0 = 0 }); network = Some (record { 0 = 1 }); from_area = Some (record { 0 = 0 }); to_area = None; from_frame = Some (record { 0 = 0 }); to_frame = None; product = record { 0 = 0 }; priority = 1 }
          ∷ record { group = None; network = None; from_area = None; to_area = None; from_frame = None; to_frame = None; product = record { 0 = 1 }; priority = 0 }
          ∷ record { group = Some (record { 0 = 1 }); network = Some (record { 0 = 0 }); from_area = None; to_area = Some (record { 0 = 1 }); from_frame = None; to_frame = Some (record { 0 = 1 }); product = record { 0 = 1 }; priority = 7 } ∷ [];
      transfer_rules = record { from = Some (record { 0 = 0 }); to = Some (record { 0 = 0 }); count = None; limit = Some (record { seconds = 3600; kind = 1 }); kind = 0; product = None }
          ∷ record { from = Some (record { 0 = 0 }); to = Some (record { 0 = 0 }); count = Some 3; limit = None; kind = 1; product = Some (record { 0 = 2 }) }
          ∷ record { from = Some (record { 0 = 0 }); to = Some (record { 0 = 1 }); count = None; limit = None; kind = 2; product = Some (record { 0 = 2 }) }
          ∷ record { from = None; to = None; count = None; limit = Some (record { seconds = 900; kind = 3 }); kind = 0; product = None } ∷ [];
      joins = record { from_network = record { 0 = 1 }; to_network = record { 0 = 0 }; from_stop = Some (record { 0 = 2 }); to_stop = Some (record { 0 = 0 }) }
          ∷ record { from_network = record { 0 = 1 }; to_network = record { 0 = 1 }; from_stop = None; to_stop = None } ∷ [];
      service_names = codes "S2" ∷ codes "S1" ∷ codes "S0" ∷ codes "S3" ∷ [];
      network_names = codes "n1" ∷ codes "n2" ∷ [];
      frame_names = codes "peak" ∷ codes "all" ∷ [];
      product_names = codes "single" ∷ codes "rail" ∷ codes "bonus" ∷ [];
      group_names = codes "g1" ∷ codes "g2" ∷ [];
      has_priority = true;
      currency = Some (codes "KWD");
      decimals = 3;
    }
unfolding feeds_on_literals
full_read = refl

-- no file has a fault by itself
full_formed : first_form_fault (files_in full) ≡ None
unfolding feeds_on_literals
full_formed = refl

-- and the feed has none, where exceptions alone say when its services run
full_good : fault_of (with_file (codes "calendar_dates.txt") (codes "service_id,date,exception_type\nS2,20250602,1\nS3,20250601,2\nS1,20250602,2\n") (without_file (codes "calendar.txt") full)) ≡ None
unfolding feeds_on_literals
full_good = refl

-- a feed without products has no currency
without_products_read : feed_of (files_in (with_file (codes "fare_products.txt") (codes "fare_product_id,amount,currency\n")
    (with_file (codes "fare_leg_rules.txt") (codes "fare_product_id,rule_priority\n") (without_file (codes "fare_transfer_rules.txt") base))))
    ≡ record base_rows { products = []; leg_rules = []; transfer_rules = []; product_names = []; group_names = []; has_priority = true; currency = None; decimals = 2 }
unfolding feeds_on_literals
without_products_read = refl

-- it is accepted all the same
without_products_good : fault_of (with_file (codes "fare_products.txt") (codes "fare_product_id,amount,currency\n")
    (with_file (codes "fare_leg_rules.txt") (codes "fare_product_id,rule_priority\n") (without_file (codes "fare_transfer_rules.txt") base)))
    ≡ None
unfolding feeds_on_literals
without_products_good = refl
