-- Files of a folder that are read one after another: what is answered at each step.
use Rattle.std.proofs.Common.{◌≡◌, refl, ◌∙◌, ◌<◌, ◌≤◌, List, replicate, None, sym, arith}
use Rattle.std.specs.Prelude.{map, Result}
use Rattle.std.proofs.lemmas.List.{get_or-replicate}
use Rattle.std.proofs.lemmas.Option.{unwrap_or-slice_get}
use Rattle.plain_laws.specs.Plain.{first_in}
use Rattle.feed_files.specs.HeldFiles.{HeldFile, held}
use Rattle.feed_files.specs.Names.{place}
use Rattle.feed_files.specs.declared.names.FileName.{FileName}
use Rattle.feed_files.specs.declared.names.FileName.TheVariants as file
use Rattle.feed_faults.specs.FormFaults.{form_fault}
use Rattle.folder_io.specs.declared.files.FileBytes.{FileBytes}
use Rattle.folder_io.specs.declared.files.FileBytes.TheVariants as kept
use Rattle.folder_io.specs.declared.files.TheConstants.{FILE_COUNT}
use Rattle.folder_io.specs.declared.reading.ReadError.{ReadError}
use Rattle.folder_io.specs.declared.reading.ReadError.TheVariants as read
use Rattle.folder_io.specs.FolderCalls.{FolderState, WhereTold}
use Rattle.folder_io.specs.KeptFiles.{AreWithin, file_in, held_in}
use Rattle.folder_io.specs.FileReading.{AreReadBetween, Gives, GivesUpOn, OpensAll, ReadsTo}
use Rattle.folder_io.proofs.LogLaws.{makes_none}
use Rattle.folder_io.proofs.PlaceLaws.{inside}
use Rattle.feed_text.specs.declared.errors.TextError.{TextError}
use Rattle.feed_text.specs.declared.errors.TextError.TheVariants as text
use Rattle.feed_text.specs.TextErrors.{IsErrorOf}
use Rattle.feed_tables.specs.RowNumbers.{TableOf, read_of, first_files}
use Rattle.feed_tables.specs.IdColumns.{call_ids}
use Rattle.feed_tables.specs.KeptTables.{tables_with}
use Rattle.feed_tables.specs.declared.ids.CallIds.{CallIds}
use Rattle.feed_calls.specs.declared.calls.StopTimes.{StopTimes}
use Rattle.feed_faults.specs.FirstFault.{first_fault}
use Rattle.feed_faults.specs.Records.{FileTable}
use Rattle.feed_rows.specs.FeedRows.{FeedRows}
use Rattle.feed_check.specs.FilesBehind.{Accepts, AreFirstOf, AreReadTo, Refuses}
use Rattle.feed_check.specs.FolderCalls.{AreCallsIn}
use Rattle.feed_check.specs.LoadErrors.{unread, refused, IsFeedOf, GivesUpLoading}
use Rattle.feed_check.proofs.FileLaws.{first_error}
use Rattle.feed_check.proofs.JoinedFiles.{joined, first_joined, first_faults, others_joined, others_faults, gives}

-- no file was opened yet
pub began : (folder : FolderState) → ReadsTo folder 0 folder
began folder = record { counts = refl; opens = makes_none folder.opens }

pub opens_all : (folder now : FolderState) → ReadsTo folder FILE_COUNT now → OpensAll folder now
opens_all folder now reads = record { counts = reads.counts; opens = reads.opens }

-- why nothing was loaded
pub unread_gives : (why : ReadError) (folder now : FolderState) → GivesUpOn why folder now → GivesUpLoading (unread why) folder now
unread_gives read.ReadFault folder now gave = record { counts = gave.why.0; ended = gave.why.1; opens = gave.opens }
unread_gives read.NoMemory folder now gave = record { counts = gave.why; opens = gave.opens }

-- no file is within any limit
pub none_within : AreWithin (replicate FILE_COUNT kept.Absent)
none_within name =
    let is : file_in (replicate FILE_COUNT kept.Absent) name ≡ kept.Absent = unwrap_or-slice_get (replicate FILE_COUNT kept.Absent) (place name) kept.Absent ∙ get_or-replicate FILE_COUNT (place name) kept.Absent kept.Absent (inside name) in
    rw is tt

-- the first fault of files that a folder holds
fault_gives : (folder now : FolderState) (files : FileName → HeldFile) → Gives folder files → ReadsTo folder FILE_COUNT now → (why : TextError) → IsErrorOf (first_fault files) why → GivesUpLoading (refused why) folder now
fault_gives folder now files gives reads text.NoMemory is = record { counts = reads.counts; opens = (FILE_COUNT, reads.opens) }
fault_gives folder now files gives reads (text.Fault fault) is = (opens_all folder now reads, record { files = files; gives = gives; is_first = is })

-- that of the files before stop_times.txt, behind which all others were read
module _ (folder now : FolderState) (first others : FileName → HeldFile) (reads : ReadsTo folder FILE_COUNT now)
    (before : (name : FileName) → place name < 3 → WhereTold folder (λ contents. first name ≡ held contents name))
    (behind : (name : FileName) → 3 ≤ place name → WhereTold folder (λ contents. others name ≡ held contents name)) where
  pub first_refused : (why : TextError) → IsErrorOf (first_in first_files (form_fault first)) why → GivesUpLoading (refused why) folder now
  first_refused why is =
      let at = others file.StopTimes in
      let given = gives first at others folder.source.contents before (behind file.StopTimes (omega arith)) (λ name le. behind name (omega (arith, le))) in
      fault_gives folder now (joined first at others) given reads why (first_error (joined first at others) why (rw (first_faults first at others) is))

pub first_of : (folder : FolderState) (before after : List FileBytes) (first : List TableOf) → AreReadBetween folder 0 3 before after → first_in first_files (form_fault (held_in after)) ≡ None → first ≡ map (read_of (held_in after)) first_files → AreFirstOf folder first
first_of folder before after first read sound are = record { files = held_in after; gives = λ name lt. read.given name (omega arith) lt; sound = sound; are = are }

-- what is known once all files were read
pub record AreLoaded (folder now : FolderState) (first : List TableOf) (ids : CallIds) (calls : Result StopTimes TextError) (others : FileName → HeldFile) : Type 0 where
  pub before : AreFirstOf folder first
  pub at : AreCallsIn folder ids calls
  pub behind : (name : FileName) → 4 ≤ place name → WhereTold folder (λ contents. others name ≡ held contents name)
  pub reads : ReadsTo folder FILE_COUNT now

pub loaded_so : (folder mid behind now : FolderState) (first : List TableOf) (ids : CallIds) (calls : Result StopTimes TextError) (before after : List FileBytes) → AreFirstOf folder first → ReadsTo folder 3 mid → mid.source ≡ folder.source
    → AreCallsIn mid ids calls → ((start : FolderState) → ReadsTo start 3 mid → ReadsTo start 4 behind) → behind.source ≡ mid.source
    → AreReadBetween behind 4 FILE_COUNT before after → ((start : FolderState) → ReadsTo start 4 behind → ReadsTo start FILE_COUNT now) → AreLoaded folder now first ids calls (held_in after)
loaded_so folder mid behind now first ids calls before after are reads_first holds_first are_calls reads_calls holds_calls are_others reads_others = record {
  before = are;
  at = record { kept = are_calls.kept; given = rw holds_first at are_calls.given; are = are_calls.are };
  behind = λ name le. rw (holds_calls ∙ holds_first) at (are_others.given name le (inside name));
  reads = reads_others folder (reads_calls folder reads_first);
}

module _ (folder now : FolderState) (first : List TableOf) (ids : CallIds) (calls : Result StopTimes TextError) (others : FileName → HeldFile) (loaded : AreLoaded folder now first ids calls others) where
  abbrev pub files : FileName → HeldFile
  files = joined loaded.before.files loaded.at.kept others

  given : Gives folder files
  given = gives loaded.before.files loaded.at.kept others folder.source.contents loaded.before.gives loaded.at.given loaded.behind

  none : first_in first_files (form_fault files) ≡ None
  none = first_faults loaded.before.files loaded.at.kept others ∙ loaded.before.sound

  -- the files were read up to those behind stop_times.txt
  module _ (ids_are : (table : FileTable) (read : List TableOf) → ids ≡ call_ids (tables_with first table read)) where
    read_to : AreReadTo files first ids calls others
    read_to = record {
      first_are = loaded.before.are ∙ sym (first_joined loaded.before.files loaded.at.kept others);
      first_sound = none;
      ids_are = ids_are;
      calls_are = loaded.at.are;
      others_left = sym (others_joined loaded.before.files loaded.at.kept others);
      faults_left = sym (others_faults loaded.before.files loaded.at.kept others);
    }

    pub is_read : (all : FileName → HeldFile) × AreReadTo all first ids calls others
    is_read = (files, read_to)

    pub refused_so : (why : TextError) → Refuses first ids calls others why → GivesUpLoading (refused why) folder now
    refused_so why refuses = fault_gives folder now files given loaded.reads why (refuses.is_first files read_to)

    pub loaded_feed : (feed : FeedRows) → Accepts first ids calls others feed → IsFeedOf folder feed
    loaded_feed feed accepts = record { files = files; gives = given; accepted = accepts.accepted files read_to; is_feed = accepts.is_feed files read_to }
