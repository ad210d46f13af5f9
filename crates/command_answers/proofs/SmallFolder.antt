-- The folder of the worked checks: a bus from A to B on one day, with its ticket; and the rows that it gives.
use Rattle.std.specs.Prelude.{◌≡◌, refl, ℕ, ◌+◌, ◌*◌, true, false, [], ◌∷◌, Some, None, pos, codes}
use Rattle.jiff_core.specs.Calendar.{days_from_civil, day_count, days_of_years, days_of_months}
use Rattle.feed_files.specs.declared.names.FileName.{FileName}
use Rattle.feed_files.specs.declared.names.FileName.TheVariants as file
use Rattle.feed_files.specs.HeldFiles.{HeldFile}
use Rattle.feed_rows.specs.FeedRows.{FeedRows}
use Rattle.feed_rows.specs.declared.journeys.Buyer.{Buyer}
use Rattle.feed_rows.specs.declared.journeys.Query.{Query}
use Rattle.feed_rows.specs.declared.journeys.Ride.{Ride}
use Rattle.feed_faults.specs.AcceptedFeed.{feed_of}
use Rattle.feed_faults.specs.OnLiterals.{feeds_on_literals}

-- its files
abbrev pub files : FileName → HeldFile
files file.Stops = HeldFile.Bytes (codes "stop_id\nA\nB\n")
files file.Routes = HeldFile.Bytes (codes "route_id,network_id\nR1,bus\n")
files file.Trips = HeldFile.Bytes (codes "route_id,service_id,trip_id\nR1,W,T1\n")
files file.StopTimes =
    HeldFile.Bytes (codes "trip_id,stop_id,stop_sequence,arrival_time\nT1,A,1,8:00:00\nT1,B,2,8:10:00\n")
files file.CalendarDates = HeldFile.Bytes (codes "service_id,date,exception_type\nW,20250602,1\n")
files file.FareProducts = HeldFile.Bytes (codes "fare_product_id,amount,currency\nsingle,2.50,EUR\n")
files file.FareLegRules = HeldFile.Bytes (codes "leg_group_id,network_id,fare_product_id\ngb,bus,single\n")
files other = HeldFile.Missing

-- its rows; 2025-06-02 is day 20241
abbrev pub rows : FeedRows
rows =
    record {
      stops =
          record { id = codes "A"; kind = 0; parent = None } ∷ record { id = codes "B"; kind = 0; parent = None } ∷ [];
      routes = record { id = codes "R1"; network = Some (record { 0 = 0 }) } ∷ [];
      trips = record { id = codes "T1"; route = record { 0 = 0 }; service = record { 0 = 0 } } ∷ [];
      stop_times =
          record {
            trip = record { 0 = 0 };
            stop = record { 0 = 0 };
            sequence = 1;
            arrival = Some 28800;
            departure = None;
            pickup = true;
            drop_off = true;
          }
          ∷ record {
            trip = record { 0 = 0 };
            stop = record { 0 = 1 };
            sequence = 2;
            arrival = Some 29400;
            departure = None;
            pickup = true;
            drop_off = true;
          } ∷ [];
      services = [];
      exceptions = record { service = record { 0 = 0 }; day = record { 0 = pos 20241 }; added = true } ∷ [];
      frequencies = [];
      links = [];
      areas = [];
      stop_areas = [];
      timeframes = [];
      riders = [];
      media = [];
      products =
          record { product = record { 0 = 0 }; rider = None; medium = None; amount = record { 0 = pos 250 } } ∷ [];
      leg_rules =
          record {
            group = Some (record { 0 = 0 });
            network = Some (record { 0 = 0 });
            from_area = None;
            to_area = None;
            from_frame = None;
            to_frame = None;
            product = record { 0 = 0 };
            priority = 0;
          } ∷ [];
      transfer_rules = [];
      joins = [];
      service_names = codes "W" ∷ [];
      network_names = codes "bus" ∷ [];
      frame_names = [];
      product_names = codes "single" ∷ [];
      group_names = codes "gb" ∷ [];
      has_priority = false;
      currency = Some (codes "EUR");
      decimals = 2;
    }

rows_of_files : feed_of files ≡ rows
unfolding feeds_on_literals days_from_civil day_count days_of_years days_of_months
rows_of_files = refl

-- so many seconds after the start of 2025-06-02
abbrev pub on_the_day : ℕ → ℕ
on_the_day seconds = 20241 * 86400 + seconds

-- who buys without a rider category
abbrev pub no_category : Buyer
no_category = record { rider = None }

-- from A to A at 08:00:00, without a ride
abbrev pub stay : Query
stay =
    record {
      from = record { 0 = 0 };
      to = record { 0 = 0 };
      departure = record { 0 = pos (on_the_day 28800) };
      rides = 0;
      window = 86400;
      buyer = no_category;
    }

-- the bus from A to B
abbrev pub bus : Ride
bus = record { trip = record { 0 = 0 }; day = record { 0 = pos 20241 }; shift = pos 0; from = 0; to = 1 }
