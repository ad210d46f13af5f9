-- The tables of files, and what is kept of the numbers that their rows tell.
use Rattle.std.specs.Prelude.{◌≡◌, ℕ, suc, Bool, true, false, List, [], ◌∷◌, Option, ℤ}
use Rattle.feed_rows.specs.Limits.{most_rows}
use Rattle.feed_files.specs.HeldFiles.{HeldFile}
use Rattle.feed_files.specs.Names.{place}
use Rattle.feed_files.specs.declared.names.FileName.{FileName}
use Rattle.feed_files.specs.declared.names.FileName.TheVariants as file
use Rattle.feed_files.specs.declared.faults.FeedFault.{FeedFault}
use Rattle.std.specs.Option.{option_or}
use Rattle.feed_files.specs.declared.faults.FaultKind.TheVariants as kind
use Rattle.plain_laws.specs.Plain.{when, list_below}
use Rattle.feed_faults.specs.FaultPlaces.{row_fault}
use Rattle.feed_faults.specs.Records.{FileTable, Fields, field, row_count}
use Rattle.feed_faults.specs.FeedTables.{table_of}
use Rattle.feed_faults.specs.FormFaults.{form_fault_of_held, form_fault_of_bytes, fault_of_fields}
use Rattle.feed_text.specs.FieldNumbers.{numbers_of}

-- a table of a file
pub record TableOf : Type 0 where
  pub file : FileName
  pub table : FileTable

-- that of a file as it is held
abbrev pub read_of : (FileName → HeldFile) → FileName → TableOf
read_of files file = record { file = file; table = table_of (files file) }

-- what each row of a table tells
abbrev pub numbers_by_row : FileName → FileTable → List (List (Option ℤ))
numbers_by_row file table = list_below (row_count table) (λ row. numbers_of file (field table row))

-- the first fault of a row: that it has a field past the header, and then that of its fields
abbrev pub fault_of_row : FileName → ℕ → Bool → Fields → Option FeedFault
fault_of_row file row long at = option_or (when long (row_fault file row kind.LongRow)) (fault_of_fields file row at)

-- the first fault of a file as it is held, before its rows
abbrev pub held_fault_before_rows : Bool → FileName → HeldFile → Option FeedFault
held_fault_before_rows needed file (HeldFile.Bytes bytes) = form_fault_of_bytes needed most_rows file bytes
held_fault_before_rows needed file held = form_fault_of_held needed file held

-- the files whose tables are kept: all but stop_times.txt, which is most of a feed
abbrev pub has_table : FileName → Bool
has_table file.StopTimes = false
has_table file = true

-- files that follow one another from a place on
abbrev pub StandFrom : ℕ → List FileName → Type 0
StandFrom n [] = Unit {0}
StandFrom n (name ∷ names) = (place name ≡ n) × StandFrom (suc n) names

abbrev pub AreInOrder : List FileName → Type 0
AreInOrder names = (n : ℕ) × StandFrom n names

-- those before stop_times.txt, whose ids its rows name
abbrev pub first_files : List FileName
first_files = file.Stops ∷ file.Routes ∷ file.Trips ∷ []

-- those behind it
abbrev pub other_files : List FileName
other_files =
    file.Calendar ∷ file.CalendarDates ∷ file.Frequencies ∷ file.Transfers ∷ file.Areas ∷ file.StopAreas ∷ file.Networks
    ∷ file.RouteNetworks ∷ file.Timeframes ∷ file.RiderCategories ∷ file.FareMedia ∷ file.FareProducts ∷ file.FareLegRules
    ∷ file.FareTransferRules ∷ file.FareLegJoinRules ∷ []
