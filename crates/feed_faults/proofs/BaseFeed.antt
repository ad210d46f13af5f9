-- A small feed: two routes, three trips and three stops, with a fare for each route and one for the change.
use Rattle.std.proofs.Common.{◌≡◌, true, false, [], ◌∷◌, None, Some, refl}
use Rattle.std.specs.Prelude.{codes, pos}
use Rattle.transit_base.specs.Dates.{day_number}
use Rattle.feed_rows.specs.FeedRows.{FeedRows}
use Rattle.feed_faults.specs.FirstFault.{first_fault}
use Rattle.feed_faults.specs.AcceptedFeed.{feed_of}
use Rattle.feed_faults.proofs.Folders.{Folder, files_in, without_file}
use Rattle.feed_faults.specs.OnLiterals.{feeds_on_literals}

-- its files
abbrev pub base : Folder
base =
    (codes "stops.txt", codes "stop_id,stop_name\nA,Ash\nB,Birch\nC,Cedar\n")
    ∷ (codes "routes.txt", codes "route_id,route_type,network_id\nR1,3,bus\nR2,2,rail\n")
    ∷ (codes "trips.txt", codes "route_id,service_id,trip_id\nR1,W,T1\nR2,W,T2\nR1,W,T3\n")
    ∷ (codes "stop_times.txt", codes "trip_id,stop_id,stop_sequence,arrival_time,departure_time\nT1,A,1,08:00:00,08:00:00\nT1,B,2,08:10:00,08:10:00\nT2,B,1,08:15:00,08:15:00\nT2,C,2,08:30:00,08:30:00\nT3,A,1,08:05:00,08:05:00\nT3,C,2,09:00:00,09:00:00\n")
    ∷ (codes "calendar_dates.txt", codes "service_id,date,exception_type\nW,20250602,1\n")
    ∷ (codes "fare_products.txt", codes "fare_product_id,amount,currency\nsingle,2.50,EUR\nrail,4.00,EUR\nchange,0.50,EUR\n")
    ∷ (codes "fare_leg_rules.txt", codes "leg_group_id,network_id,fare_product_id\ngb,bus,single\ngr,rail,rail\n")
    ∷ (codes "fare_transfer_rules.txt", codes "from_leg_group_id,to_leg_group_id,fare_transfer_type,fare_product_id\ngb,gr,0,change\n")
    ∷ []

-- its rows
abbrev pub base_rows : FeedRows
base_rows =
    record {
      stops = record { id = codes "A"; kind = 0; parent = None } ∷ record { id = codes "B"; kind = 0; parent = None } ∷ record { id = codes "C"; kind = 0; parent = None } ∷ [];
      routes = record { id = codes "R1"; network = Some (record { 0 = 0 }) } ∷ record { id = codes "R2"; network = Some (record { 0 = 1 }) } ∷ [];
      trips = record { id = codes "T1"; route = record { 0 = 0 }; service = record { 0 = 0 } }
          ∷ record { id = codes "T2"; route = record { 0 = 1 }; service = record { 0 = 0 } }
          ∷ record { id = codes "T3"; route = record { 0 = 0 }; service = record { 0 = 0 } } ∷ [];
      stop_times = record { trip = record { 0 = 0 }; stop = record { 0 = 0 }; sequence = 1; arrival = Some 28800; departure = Some 28800; pickup = true; drop_off = true }
          ∷ record { trip = record { 0 = 0 }; stop = record { 0 = 1 }; sequence = 2; arrival = Some 29400; departure = Some 29400; pickup = true; drop_off = true }
          ∷ record { trip = record { 0 = 1 }; stop = record { 0 = 1 }; sequence = 1; arrival = Some 29700; departure = Some 29700; pickup = true; drop_off = true }
          ∷ record { trip = record { 0 = 1 }; stop = record { 0 = 2 }; sequence = 2; arrival = Some 30600; departure = Some 30600; pickup = true; drop_off = true }
          ∷ record { trip = record { 0 = 2 }; stop = record { 0 = 0 }; sequence = 1; arrival = Some 29100; departure = Some 29100; pickup = true; drop_off = true }
          ∷ record { trip = record { 0 = 2 }; stop = record { 0 = 2 }; sequence = 2; arrival = Some 32400; departure = Some 32400; pickup = true; drop_off = true } ∷ [];
      services = [];
      exceptions = record { service = record { 0 = 0 }; day = record { 0 = day_number 2025 6 2 }; added = true } ∷ [];
      frequencies = [];
      links = [];
      areas = [];
      stop_areas = [];
      timeframes = [];
      riders = [];
      media = [];
      products = record { product = record { 0 = 0 }; rider = None; medium = None; amount = record { 0 = pos 250 } }
          ∷ record { product = record { 0 = 1 }; rider = None; medium = None; amount = record { 0 = pos 400 } }
          ∷ record { product = record { 0 = 2 }; rider = None; medium = None; amount = record { 0 = pos 50 } } ∷ [];
      leg_rules = record { group = Some (record { 0 = 0 }); network = Some (record { 0 = 0 }); from_area = None; to_area = None; from_frame = None; to_frame = None; product = record { 0 = 0 }; priority = 0 }
          ∷ record { group = Some (record { 0 = 1 }); network = Some (record { 0 = 1 }); from_area = None; to_area = None; from_frame = None; to_frame = None; product = record { 0 = 1 }; priority = 0 } ∷ [];
      transfer_rules = record { from = Some (record { 0 = 0 }); to = Some (record { 0 = 1 }); count = None; limit = None; kind = 0; product = Some (record { 0 = 2 }) } ∷ [];
      joins = [];
      service_names = codes "W" ∷ [];
      network_names = codes "bus" ∷ codes "rail" ∷ [];
      frame_names = [];
      product_names = codes "single" ∷ codes "rail" ∷ codes "change" ∷ [];
      group_names = codes "gb" ∷ codes "gr" ∷ [];
      has_priority = false;
      currency = Some (codes "EUR");
      decimals = 2;
    }

-- it has no fault
base_good : first_fault (files_in base) ≡ None
unfolding feeds_on_literals
base_good = refl

-- and these are its rows
base_read : feed_of (files_in base) ≡ base_rows
unfolding feeds_on_literals
base_read = refl

-- the same without a rule for changes
base_without_changes_good : first_fault (files_in (without_file (codes "fare_transfer_rules.txt") base)) ≡ None
unfolding feeds_on_literals
base_without_changes_good = refl

base_without_changes_read : feed_of (files_in (without_file (codes "fare_transfer_rules.txt") base)) ≡ record base_rows { transfer_rules = [] }
unfolding feeds_on_literals
base_without_changes_read = refl
