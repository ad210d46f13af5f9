-- The first pass at its edges: the order of the files, the limit of rows, and rows that are passed over.
use Rattle.std.proofs.Common.{◌≡◌, ℕ, Bool, List, [], ◌∷◌, ◌++◌, Option, None, refl}
use Rattle.std.specs.Prelude.{codes, map}
use Rattle.std.specs.Option.{option_or}
use Rattle.feed_files.specs.declared.names.FileName.{FileName}
use Rattle.feed_files.specs.declared.names.FileName.TheVariants as file
use Rattle.feed_files.specs.declared.names.ColumnName.TheVariants as column
use Rattle.feed_files.specs.declared.faults.FaultKind.TheVariants as kind
use Rattle.feed_files.specs.declared.faults.FeedFault.{FeedFault}
use Rattle.feed_files.specs.HeldFiles.{HeldFile}
use Rattle.feed_faults.specs.Records.{table_of_bytes}
use Rattle.feed_faults.specs.FormFaults.{form_fault_of_held, form_fault_of_bytes, form_fault_of_rows, first_form_fault}
use Rattle.feed_faults.specs.OnLiterals.{feeds_on_literals}
use Rattle.feed_faults.proofs.Folders.{Folder, files_in, with_file}
use Rattle.feed_faults.proofs.BaseFeed.{base}
use Rattle.feed_faults.proofs.FullFeed.{full}
use Rattle.feed_faults.proofs.Expected.{Answers, fault, plain_fault}

-- a file may have four million data rows
rows_at_most : (needed : Bool) (name : FileName) (bytes : List ℕ) →
    form_fault_of_held needed name (HeldFile.Bytes bytes)
    ≡ option_or (form_fault_of_bytes needed 4000000 name bytes) (form_fault_of_rows name (table_of_bytes bytes))
rows_at_most needed name bytes = refl

-- the files of a feed, in the order in which they are judged
all_files : List (List ℕ)
all_files =
    codes "stops.txt" ∷ codes "routes.txt" ∷ codes "trips.txt" ∷ codes "stop_times.txt" ∷ codes "calendar.txt" ∷ codes "calendar_dates.txt"
    ∷ codes "frequencies.txt" ∷ codes "transfers.txt" ∷ codes "areas.txt" ∷ codes "stop_areas.txt" ∷ codes "networks.txt" ∷ codes "route_networks.txt"
    ∷ codes "timeframes.txt" ∷ codes "rider_categories.txt" ∷ codes "fare_media.txt" ∷ codes "fare_products.txt" ∷ codes "fare_leg_rules.txt" ∷ codes "fare_transfer_rules.txt"
    ∷ codes "fare_leg_join_rules.txt" ∷ []

-- the full feed, with these files no text
no_text : List (List ℕ) → Folder
no_text [] = full
no_text (name ∷ names) = with_file name (255 ∷ []) (no_text names)

-- its first faults with all these files no text, with all but the first, and so on down to none
faults_without_first : List (List ℕ) → List (Option FeedFault)
faults_without_first [] = first_form_fault (files_in full) ∷ []
faults_without_first (name ∷ names) = first_form_fault (files_in (no_text (name ∷ names))) ∷ faults_without_first names

-- of files that all have a fault, the first in order is told
order_of_files : faults_without_first all_files
    ≡ map (λ f. plain_fault kind.NotUtf8 f 0)
    (file.Stops ∷ file.Routes ∷ file.Trips ∷ file.StopTimes ∷ file.Calendar ∷ file.CalendarDates ∷ file.Frequencies ∷ file.Transfers ∷ file.Areas
    ∷ file.StopAreas ∷ file.Networks ∷ file.RouteNetworks ∷ file.Timeframes ∷ file.RiderCategories ∷ file.FareMedia ∷ file.FareProducts ∷ file.FareLegRules ∷ file.FareTransferRules
    ∷ file.FareLegJoinRules ∷ [])
    ++ None ∷ []
unfolding feeds_on_literals all_files no_text faults_without_first
order_of_files = refl

-- each of the four columns of routes and trips passes a row over, and no other type does
rows_passed_over : Answers base (codes "transfers.txt")
    ((codes "transfer_type,from_stop_id,to_stop_id,from_route_id\n2,,,R\n", None)
    ∷ (codes "transfer_type,from_stop_id,to_stop_id,to_route_id\n2,,,R\n", None)
    ∷ (codes "transfer_type,from_stop_id,to_stop_id,from_trip_id\n2,,,T\n", None)
    ∷ (codes "transfer_type,from_stop_id,to_stop_id,to_trip_id\n2,,,T\n", None)
    ∷ (codes "transfer_type,from_stop_id,to_stop_id\n5,,\n3,,\n", fault kind.EmptyRequired file.Transfers 2 column.FromStopId) ∷ [])
unfolding feeds_on_literals
rows_passed_over = refl

-- a place of GTFS-Flex is told before what is wrong in later columns
flex_before_later_columns : Answers base (codes "stop_times.txt")
    ((codes "trip_id,stop_id,stop_sequence,location_id,arrival_time\nT1,,x,z,9\n", fault kind.FlexRow file.StopTimes 1 column.StopId) ∷ [])
unfolding feeds_on_literals
flex_before_later_columns = refl
