-- Files that were read up to stop_times.txt, and what follows of those behind it.
use Rattle.std.specs.Prelude.{◌≡◌, ◌<◌, List, None, Result, map}
use Rattle.plain_laws.specs.Plain.{first_in}
use Rattle.feed_rows.specs.FeedRows.{FeedRows}
use Rattle.feed_files.specs.HeldFiles.{HeldFile, held}
use Rattle.feed_files.specs.Names.{place}
use Rattle.feed_files.specs.declared.names.FileName.{FileName}
use Rattle.feed_files.specs.declared.names.FileName.TheVariants as file
use Rattle.feed_faults.specs.AcceptedFeed.{feed_of}
use Rattle.feed_faults.specs.FirstFault.{first_fault}
use Rattle.feed_faults.specs.FormFaults.{form_fault}
use Rattle.feed_faults.specs.Records.{FileTable}
use Rattle.folder_io.specs.FilePlaces.{stop_times_place}
use Rattle.folder_io.specs.FileReading.{ReadsTo}
use Rattle.folder_io.specs.FolderCalls.{FolderState, WhereTold}
use Rattle.feed_tables.specs.IdColumns.{call_ids}
use Rattle.feed_tables.specs.KeptTables.{tables_with}
use Rattle.feed_tables.specs.RowNumbers.{TableOf, read_of, first_files, other_files}
use Rattle.feed_tables.specs.declared.ids.CallIds.{CallIds}
use Rattle.feed_calls.specs.declared.calls.StopTimes.{StopTimes}
use Rattle.feed_text.specs.TextErrors.{IsErrorOf}
use Rattle.feed_text.specs.declared.errors.TextError.{TextError}
use Rattle.feed_check.specs.FolderCalls.{AreCallsOfHeld}

-- of all files those before stop_times.txt have no fault by themselves, and these tables; this is what stop_times.txt gives by
-- the ids of these; and those behind it are left
pub record AreReadTo (all : FileName → HeldFile) (first : List TableOf) (ids : CallIds) (calls : Result StopTimes TextError) (left : FileName → HeldFile) : Type 0 where
  pub first_are : first ≡ map (read_of all) first_files
  pub first_sound : first_in first_files (form_fault all) ≡ None
  pub ids_are : (table : FileTable) (others : List TableOf) → ids ≡ call_ids (tables_with first table others)
  pub calls_are : AreCallsOfHeld ids (all file.StopTimes) calls
  pub others_left : map (read_of left) other_files ≡ map (read_of all) other_files
  pub faults_left : first_in other_files (form_fault left) ≡ first_in other_files (form_fault all)

-- the error is that of the first fault of all files
pub record Refuses (first : List TableOf) (ids : CallIds) (calls : Result StopTimes TextError) (left : FileName → HeldFile) (why : TextError) : Type 0 where
  pub is_first : (all : FileName → HeldFile) → AreReadTo all first ids calls left → IsErrorOf (first_fault all) why

-- all files have no fault, and this is their feed
pub record Accepts (first : List TableOf) (ids : CallIds) (calls : Result StopTimes TextError) (left : FileName → HeldFile) (feed : FeedRows) : Type 0 where
  pub accepted : (all : FileName → HeldFile) → AreReadTo all first ids calls left → first_fault all ≡ None
  pub is_feed : (all : FileName → HeldFile) → AreReadTo all first ids calls left → feed ≡ feed_of all

-- the tables of the folder's files before stop_times.txt, which have no fault by themselves
pub record AreFirstOf (folder : FolderState) (first : List TableOf) : Type 0 where
  pub files : FileName → HeldFile
  pub gives : (name : FileName) → place name < stop_times_place → WhereTold folder (λ contents. files name ≡ held contents name)
  pub sound : first_in first_files (form_fault files) ≡ None
  pub are : first ≡ map (read_of files) first_files

-- of a folder as it was at the start these files were read and no others
pub record IsBegun (start : FolderState) (first : List TableOf) (now : FolderState) : Type 0 where
  pub are_first : AreFirstOf start first
  pub reads : ReadsTo start stop_times_place now
  pub source : now.source ≡ start.source
