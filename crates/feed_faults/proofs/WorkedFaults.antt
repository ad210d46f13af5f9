-- Faults and amounts of the base feed with a change.
use Rattle.std.proofs.Common.{◌≡◌, [], ◌∷◌, None, Some, refl}
use Rattle.std.specs.Prelude.{codes, pos, map}
use Rattle.feed_files.specs.declared.names.FileName.TheVariants as file
use Rattle.feed_files.specs.declared.names.ColumnName.TheVariants as column
use Rattle.feed_files.specs.declared.faults.FaultKind.TheVariants as kind
use Rattle.feed_faults.specs.AcceptedFeed.{feed_of}
use Rattle.feed_faults.specs.OnLiterals.{feeds_on_literals}
use Rattle.feed_faults.proofs.Folders.{Folder, files_in, with_file, without_file}
use Rattle.feed_faults.proofs.BaseFeed.{base, base_rows}
use Rattle.feed_faults.proofs.Expected.{Answers, fault, plain_fault, fault_of}

-- amounts and currencies of the product single, and one currency beside another
amounts : Answers base (codes "fare_products.txt")
    ((codes "fare_product_id,amount,currency\nsingle,2.505,EUR\nrail,4.00,EUR\nchange,0.50,EUR\n", fault kind.BadAmount file.FareProducts 1 column.Amount)
    ∷ (codes "fare_product_id,amount,currency\nsingle,2.5,EUR\nrail,4.00,EUR\nchange,0.50,EUR\n", None)
    ∷ (codes "fare_product_id,amount,currency\nsingle,2.500,EUR\nrail,4.00,EUR\nchange,0.50,EUR\n", None)
    ∷ (codes "fare_product_id,amount,currency\nsingle,300,JPY\nrail,400,JPY\nchange,50,JPY\n", None)
    ∷ (codes "fare_product_id,amount,currency\nsingle,2.50,EUR\nrail,4.00,USD\nchange,0.50,EUR\n", fault kind.MixedCurrency file.FareProducts 2 column.Currency)
    ∷ (codes "fare_product_id,amount,currency\nsingle,1000000000001,JPY\nrail,4.00,EUR\nchange,0.50,EUR\n", fault kind.BadAmount file.FareProducts 1 column.Amount)
    ∷ (codes "fare_product_id,amount,currency\nsingle,x,eur\nrail,4.00,EUR\n", fault kind.BadCurrency file.FareProducts 1 column.Currency)
    ∷ (codes "fare_product_id,amount,currency\nsingle,x,\nrail,4.00,EUR\n", fault kind.EmptyRequired file.FareProducts 1 column.Currency)
    ∷ (codes "fare_product_id,amount,currency\nsingle,,EUR\n", fault kind.EmptyRequired file.FareProducts 1 column.Amount) ∷ [])
unfolding feeds_on_literals
amounts = refl

-- amounts of fewer and of more digits than the currency's decimals
amounts_read : map (λ text. feed_of (files_in (with_file (codes "fare_products.txt") text base)))
    (codes "fare_product_id,amount,currency\nsingle,2.5,EUR\nrail,4,EUR\nchange,0.500,EUR\n" ∷ [])
    ≡ base_rows ∷ []
unfolding feeds_on_literals
amounts_read = refl

-- amounts in yen
yen_read : feed_of (files_in (with_file (codes "fare_products.txt") (codes "fare_product_id,amount,currency\nsingle,300,JPY\nrail,400,JPY\nchange,50,JPY\n") base))
    ≡ record base_rows {
      products = record { product = record { 0 = 0 }; rider = None; medium = None; amount = record { 0 = pos 300 } }
          ∷ record { product = record { 0 = 1 }; rider = None; medium = None; amount = record { 0 = pos 400 } }
          ∷ record { product = record { 0 = 2 }; rider = None; medium = None; amount = record { 0 = pos 50 } } ∷ [];
      currency = Some (codes "JPY");
      decimals = 0;
    }
unfolding feeds_on_literals
yen_read = refl

-- stop_times.txt that is cut within a time, and with a stop X
abbrev with_stop_x : Folder
with_stop_x = with_file (codes "stop_times.txt") (codes "trip_id,stop_id,stop_sequence,arrival_time,departure_time\nT1,A,1,08:00:00,08:00:00\nT1,B,2,08:10:00,08:10:00\nT2,X,1,08:15:00,08:15:00\nT2,C,2,08:30:00,08:30:00\nT3,A,1,08:05:00,08:05:00\nT3,C,2,09:00:00,09:00:00\n") base

cut_file : Answers base (codes "stop_times.txt")
    ((
      codes "trip_id,stop_id,stop_sequence,arrival_time,departure_time\nT1,A,1,08:00:00,08:00:00\nT1,B,2,08:10:00,08:10:00\nT2,B,1,08:15:00,08:15:00\nT2,C,2,08:30:00,08:30:00\nT3,A,1,08:05:00,08:05:00\nT3,C,2,09:0",
      fault kind.BadTime file.StopTimes 6 column.ArrivalTime,
    ) ∷ [])
unfolding feeds_on_literals
cut_file = refl

-- a date that doesn't exist is found before a stop that doesn't, since the first pass goes over all files
date_before_reference : Answers with_stop_x (codes "calendar_dates.txt")
    ((codes "service_id,date,exception_type\nW,20250631,1\n", fault kind.BadDate file.CalendarDates 1 column.Date)
    ∷ (codes "service_id,date,exception_type\nW,20250630,1\n", fault kind.UnknownReference file.StopTimes 3 column.StopId) ∷ [])
unfolding feeds_on_literals
date_before_reference = refl

-- each file that a feed needs
missing_files : map (λ name. fault_of (without_file name base))
    (codes "stops.txt" ∷ codes "routes.txt" ∷ codes "trips.txt" ∷ codes "stop_times.txt" ∷ codes "calendar_dates.txt" ∷ codes "fare_products.txt" ∷ codes "fare_leg_rules.txt" ∷ [])
    ≡ plain_fault kind.MissingFile file.Stops 0 ∷ plain_fault kind.MissingFile file.Routes 0 ∷ plain_fault kind.MissingFile file.Trips 0 ∷ plain_fault kind.MissingFile file.StopTimes 0
    ∷ plain_fault kind.MissingFile file.Calendar 0 ∷ plain_fault kind.MissingFile file.FareProducts 0 ∷ plain_fault kind.MissingFile file.FareLegRules 0 ∷ []
unfolding feeds_on_literals
missing_files = refl
