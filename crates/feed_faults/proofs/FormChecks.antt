-- The first pass at its edges: bytes, headers, rows and fields.
use Rattle.std.proofs.Common.{◌≡◌, true, false, [], ◌∷◌, ◌++◌, Option, None, Some, refl}
use Rattle.std.specs.Prelude.{codes, map, replicate}
use Rattle.feed_files.specs.declared.names.FileName.{FileName}
use Rattle.feed_files.specs.declared.names.FileName.TheVariants as file
use Rattle.feed_files.specs.declared.names.ColumnName.TheVariants as column
use Rattle.feed_files.specs.declared.faults.FaultKind.TheVariants as kind
use Rattle.feed_files.specs.declared.faults.FeedFault.{FeedFault}
use Rattle.feed_files.specs.HeldFiles.{HeldFile, held_within}
use Rattle.feed_faults.specs.FormFaults.{form_fault_of_bytes}
use Rattle.feed_faults.specs.FirstFault.{first_fault}
use Rattle.feed_faults.specs.AcceptedFeed.{feed_of}
use Rattle.feed_faults.specs.OnLiterals.{feeds_on_literals}
use Rattle.feed_faults.proofs.Folders.{files_in, with_file, without_file}
use Rattle.feed_faults.proofs.BaseFeed.{base, base_rows}
use Rattle.feed_faults.proofs.ExporterForm.{marked}
use Rattle.feed_faults.proofs.Expected.{Answers, fault, plain_fault}

-- byte order marks, blank lines, and files without a record
marks_and_lines : Answers base (codes "stops.txt")
    ((marked (codes "stop_id\nA\nB\nC\n"), None)
    ∷ (marked (marked (codes "stop_id\nA\nB\nC\n")), fault kind.MissingColumn file.Stops 0 column.StopId)
    ∷ (marked [], plain_fault kind.MissingFile file.Stops 0)
    ∷ ([], plain_fault kind.MissingFile file.Stops 0)
    ∷ (codes "\n\r\n\n", plain_fault kind.MissingFile file.Stops 0)
    ∷ (codes "\"", fault kind.MissingColumn file.Stops 0 column.StopId)
    ∷ (codes " ", fault kind.MissingColumn file.Stops 0 column.StopId)
    ∷ (codes "stop_id\n\nA\n\n\nB\nC", None)
    ∷ (codes "\n\nstop_id\nA\nB\nC\n", None)
    ∷ (codes "stop_id\nA\n\n \nB\nC\n", fault kind.EmptyRequired file.Stops 2 column.StopId)
    ∷ (codes "stop_id\n", fault kind.UnknownReference file.StopTimes 1 column.StopId) ∷ [])
unfolding feeds_on_literals
marks_and_lines = refl

-- bytes that aren't UTF-8 come before all else of a file; UTF-16 isn't UTF-8
not_utf8 : Answers base (codes "stops.txt")
    ((255 ∷ 254 ∷ 115 ∷ 0 ∷ [], plain_fault kind.NotUtf8 file.Stops 0)
    ∷ (marked (255 ∷ []), plain_fault kind.NotUtf8 file.Stops 0)
    ∷ (codes "stop_id,stop_id\nA,,\n" ++ 195 ∷ [], plain_fault kind.NotUtf8 file.Stops 0)
    ∷ (codes "stop_id,stop_name\nA,Z" ++ 195 ∷ 188 ∷ codes "rich\nB\nC\n", None) ∷ [])
unfolding feeds_on_literals
not_utf8 = refl

-- a file that isn't needed has no fault where it isn't there, and is judged where it is
optional_file : Answers base (codes "fare_media.txt")
    (([], None) ∷ (codes "\n", None) ∷ (marked [], None) ∷ (codes "fare_media_id\n", None) ∷ (255 ∷ [], plain_fault kind.NotUtf8 file.FareMedia 0)
    ∷ (codes "fare_media_type\n", fault kind.MissingColumn file.FareMedia 0 column.FareMediaId)
    ∷ (codes "fare_media_id,fare_media_type\nm,5\n", fault kind.BadNumber file.FareMedia 1 column.FareMediaType) ∷ [])
unfolding feeds_on_literals
optional_file = refl

-- names of columns: blanks and quotes, letters of the other case, doubled columns before missing ones, each by the listed order
headers : Answers base (codes "trips.txt")
    ((codes " route_id ,\"service_id\",\ttrip_id\nR1,W,T1\nR2,W,T2\nR1,W,T3\n", None)
    ∷ (codes "Route_ID,service_id,trip_id\nR1,W,T1\n", fault kind.MissingColumn file.Trips 0 column.RouteId)
    ∷ (codes "trip_id,trip_id,service_id,service_id\nT1\n", fault kind.DoubledColumn file.Trips 0 column.ServiceId)
    ∷ (codes "trip_id\nT1\n", fault kind.MissingColumn file.Trips 0 column.RouteId)
    ∷ (codes "trip_id,route_id\nT1\n", fault kind.MissingColumn file.Trips 0 column.ServiceId)
    ∷ (codes "route_id,service_id,trip_id,stop_id,stop_id,,\nR1,W,T1\nR2,W,T2\nR1,W,T3\n", None) ∷ [])
unfolding feeds_on_literals
headers = refl

-- a listed column that need not be there may not stand twice either
optional_column_twice : Answers base (codes "stops.txt")
    ((codes "stop_id,parent_station,parent_station\nA\n", fault kind.DoubledColumn file.Stops 0 column.ParentStation)
    ∷ (codes "parent_station,parent_station\nA\n", fault kind.DoubledColumn file.Stops 0 column.ParentStation)
    ∷ (codes "stop_id,stop_name,stop_name\nA\nB\nC\n", None) ∷ [])
unfolding feeds_on_literals
optional_column_twice = refl

-- a field past the header, which comes before what is wrong with the columns
long_rows : Answers base (codes "stops.txt")
    ((codes "stop_id\nA,\nB, ,\nC\n", None)
    ∷ (codes "stop_id\nA\nB,x\nC\n", plain_fault kind.LongRow file.Stops 2)
    ∷ (codes "stop_id\nA\nB,,,x\nC\n", plain_fault kind.LongRow file.Stops 2)
    ∷ (codes "stop_id\n,x\n", plain_fault kind.LongRow file.Stops 1) ∷ [])
unfolding feeds_on_literals
long_rows = refl

-- ids: tabs in quotes, blanks at the ends, and their length
ids : Answers base (codes "stops.txt")
    ((codes "stop_id\n A\n\tB \nC\n", None)
    ∷ (codes "stop_id\n\"A\tA\"\n", fault kind.BadText file.Stops 1 column.StopId)
    ∷ (codes "stop_id\n\"A\nA\"\n", fault kind.BadText file.Stops 1 column.StopId)
    ∷ (codes "stop_id\nA\nB\nC\n" ++ replicate 255 68 ++ codes "\n", None)
    ∷ (codes "stop_id\nA\nB\nC\n" ++ replicate 256 68 ++ codes "\n", fault kind.BadText file.Stops 4 column.StopId)
    ∷ (codes "stop_id,location_type\nA,x\n", fault kind.BadNumber file.Stops 1 column.LocationType)
    ∷ (codes "stop_id,location_type\nA,00\nB, 0\nC,-0\n", None) ∷ [])
unfolding feeds_on_literals
ids = refl

-- bytes that are no blanks stay: a carriage return at the end of a quoted field is a fault, and a vertical tab, which
-- is none, makes another id of it
ends_of_ids : Answers base (codes "stops.txt")
    ((codes "stop_id\nA\nB\n\"C\r\"\n", fault kind.BadText file.Stops 3 column.StopId)
    ∷ (codes "stop_id\r\nA\r\nB\r\n\"C\"\r\n", None)
    ∷ (codes "stop_id\nA\nB\nC" ++ 11 ∷ codes "\n", fault kind.UnknownReference file.StopTimes 4 column.StopId)
    ∷ (codes "stop_id\nA\nB\nC\nx" ++ 11 ∷ codes "y\n", None) ∷ [])
unfolding feeds_on_literals
ends_of_ids = refl

-- stop times without a stop: of GTFS-Flex or not, and in which order
flex_rows : Answers base (codes "stop_times.txt")
    ((codes "trip_id,stop_id,stop_sequence,location_id\nT1,,1,z\n", fault kind.FlexRow file.StopTimes 1 column.StopId)
    ∷ (codes "trip_id,stop_id,stop_sequence,location_group_id\nT1,,1,z\n", fault kind.FlexRow file.StopTimes 1 column.StopId)
    ∷ (codes "trip_id,stop_id,stop_sequence,location_group_id\nT1,,1,\n", fault kind.EmptyRequired file.StopTimes 1 column.StopId)
    ∷ (codes "trip_id,stop_id,stop_sequence,location_id\n,,1,z\n", fault kind.EmptyRequired file.StopTimes 1 column.TripId)
    ∷ (codes "trip_id,stop_sequence,location_id\nT1,1,z\n", fault kind.MissingColumn file.StopTimes 0 column.StopId)
    ∷ (codes "trip_id,stop_id,stop_sequence,location_id,location_id\nT1,,1,,z\n", fault kind.EmptyRequired file.StopTimes 1 column.StopId)
    ∷ (codes "trip_id,stop_id,stop_sequence,arrival_time,location_id\nT1,A,1,8:00:00,z\n", None)
    ∷ (codes "trip_id,stop_id,stop_sequence,pickup_type\nT1,A,1,4\n", fault kind.BadNumber file.StopTimes 1 column.PickupType)
    ∷ (codes "trip_id,stop_id,stop_sequence,arrival_time\nT1,A,2147483648,168:00:00\n", fault kind.BadNumber file.StopTimes 1 column.StopSequence)
    ∷ (codes "trip_id,stop_id,stop_sequence,arrival_time\nT1,A,2147483647,168:00:00\n", fault kind.BadTime file.StopTimes 1 column.ArrivalTime)
    ∷ (codes "trip_id,stop_id,stop_sequence,arrival_time\nT1,A,2147483647,167:59:59\n", None) ∷ [])
unfolding feeds_on_literals
flex_rows = refl

-- rows of transfers.txt that are passed over: a field past the header and a bad type are faults still
passed_over : Answers base (codes "transfers.txt")
    ((codes "transfer_type,from_stop_id,to_stop_id,from_trip_id,min_transfer_time\n4,,,,x\n05,X,Y,,\n2,Nowhere,,T1,x\n2,A,C,,60\n", None)
    ∷ (codes "transfer_type,from_stop_id,to_stop_id\n4,,,x\n", plain_fault kind.LongRow file.Transfers 1)
    ∷ (codes "transfer_type,from_stop_id,to_stop_id,to_route_id\n6,,,R\n", fault kind.BadNumber file.Transfers 1 column.TransferType)
    ∷ (codes "transfer_type,from_stop_id,to_stop_id,to_trip_id\n,,,T\n3,,C,\n", fault kind.EmptyRequired file.Transfers 2 column.FromStopId)
    ∷ (codes "transfer_type,from_stop_id\n4,A\n", fault kind.MissingColumn file.Transfers 0 column.ToStopId)
    ∷ (codes "transfer_type,from_stop_id,to_stop_id,from_route_id\n4,,,\n,,,R\n,A,X,\n", fault kind.UnknownReference file.Transfers 3 column.ToStopId)
    ∷ (codes "transfer_type,from_stop_id,to_stop_id\n \n", fault kind.EmptyRequired file.Transfers 1 column.FromStopId) ∷ [])
unfolding feeds_on_literals
passed_over = refl

-- and they give no rows
passed_over_read : feed_of (files_in (with_file (codes "transfers.txt") (codes "transfer_type,from_stop_id,to_stop_id,from_trip_id,min_transfer_time\n4,,,,x\n3,A,B,,90\n2,Nowhere,,T1,x\n,A,C,,\n") base))
    ≡ record base_rows {
      links = record { from = record { 0 = 0 }; to = record { 0 = 1 }; forbidden = true; seconds = 90 }
          ∷ record { from = record { 0 = 0 }; to = record { 0 = 2 }; forbidden = false; seconds = 0 } ∷ [];
    }
unfolding feeds_on_literals
passed_over_read = refl

-- fields of the other grammars
rule_fields : Answers base (codes "fare_transfer_rules.txt")
    ((codes "fare_transfer_type,transfer_count\n0,0\n", fault kind.BadNumber file.FareTransferRules 1 column.TransferCount)
    ∷ (codes "fare_transfer_type,transfer_count\n0,-1\n0,\n0,1\n", None)
    ∷ (codes "fare_transfer_type,duration_limit,duration_limit_type\n0,0,1\n", fault kind.BadNumber file.FareTransferRules 1 column.DurationLimit)
    ∷ (codes "fare_transfer_type\n3\n", fault kind.BadNumber file.FareTransferRules 1 column.FareTransferType)
    ∷ (codes "fare_transfer_type,from_leg_group_id\n,gb\n", fault kind.EmptyRequired file.FareTransferRules 1 column.FareTransferType) ∷ [])
unfolding feeds_on_literals
rule_fields = refl

-- times of timeframes
frame_fields : Answers base (codes "timeframes.txt")
    ((codes "timeframe_group_id,start_time,end_time,service_id\npeak,00:00:00,24:00:00,W\n", None)
    ∷ (codes "timeframe_group_id,start_time,end_time,service_id\npeak,00:00:00,24:00:01,W\n", fault kind.BadTime file.Timeframes 1 column.EndTime)
    ∷ (codes "timeframe_group_id,start_time,end_time,service_id\npeak,,,\n", fault kind.EmptyRequired file.Timeframes 1 column.ServiceId) ∷ [])
unfolding feeds_on_literals
frame_fields = refl

-- a calendar is needed where there are no exceptions; exceptions that are too large or no text are there all the same
with_held : FileName → HeldFile → Option FeedFault
with_held file.CalendarDates now = first_fault (exceptions now)
  where
    exceptions : HeldFile → FileName → HeldFile
    exceptions held file.CalendarDates = held
    exceptions held name = files_in base name
with_held file.Stops now = first_fault (stops now)
  where
    stops : HeldFile → FileName → HeldFile
    stops held file.Stops = held
    stops held name = files_in base name
with_held other now = None

too_large_files : with_held file.CalendarDates HeldFile.TooLarge ∷ with_held file.CalendarDates HeldFile.Missing ∷ with_held file.Stops HeldFile.TooLarge ∷ []
    ≡ plain_fault kind.FileTooLarge file.CalendarDates 0 ∷ plain_fault kind.MissingFile file.Calendar 0 ∷ plain_fault kind.FileTooLarge file.Stops 0 ∷ []
unfolding feeds_on_literals with_held
too_large_files = refl

exceptions_alone : Answers base (codes "calendar_dates.txt")
    ((255 ∷ [], plain_fault kind.NotUtf8 file.CalendarDates 0)
    ∷ (codes "service_id,date,exception_type\n", fault kind.UnknownReference file.Trips 1 column.ServiceId)
    ∷ (codes "\n", plain_fault kind.MissingFile file.Calendar 0) ∷ [])
unfolding feeds_on_literals
exceptions_alone = refl

calendar_alone : Answers (without_file (codes "calendar_dates.txt") base) (codes "calendar.txt")
    ((codes "service_id,monday,tuesday,wednesday,thursday,friday,saturday,sunday,start_date,end_date\n", fault kind.UnknownReference file.Trips 1 column.ServiceId)
    ∷ (codes "service_id,monday,tuesday,wednesday,thursday,friday,saturday,sunday,start_date,end_date\nW,1,1,1,1,1,2,,20250101,20251231\n", fault kind.BadNumber file.Calendar 1 column.Saturday) ∷ [])
unfolding feeds_on_literals
calendar_alone = refl

-- limits of bytes and of rows, at small sizes
bytes_limit : held_within 16 (Some (replicate 16 65)) ∷ held_within 15 (Some (replicate 16 65)) ∷ held_within 0 None ∷ []
    ≡ HeldFile.Bytes (replicate 16 65) ∷ HeldFile.TooLarge ∷ HeldFile.Missing ∷ []
bytes_limit = refl

rows_limit : map (λ most. form_fault_of_bytes true most file.Stops (codes "stop_id,stop_id\nA\n\nB\nC\n")) (3 ∷ 2 ∷ [])
    ≡ fault kind.DoubledColumn file.Stops 0 column.StopId ∷ plain_fault kind.TooManyRows file.Stops 0 ∷ []
unfolding feeds_on_literals
rows_limit = refl
