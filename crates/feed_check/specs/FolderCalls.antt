-- What stop_times.txt of a folder gives.
use Rattle.std.specs.Prelude.{◌≡◌, ℕ, List, Option, Some, None, IfSome, Result, Ok, Err, Bool, true, false}
use Rattle.feed_files.specs.HeldFiles.{HeldFile, held_within, held, most_bytes}
use Rattle.feed_files.specs.declared.names.FileName.TheVariants as file
use Rattle.feed_faults.specs.FeedTables.{table_of}
use Rattle.feed_faults.specs.FormFaults.{form_fault_of_held}
use Rattle.folder_io.specs.FolderCalls.{FolderState, WhereTold}
use Rattle.feed_tables.specs.ReadCalls.{read_calls}
use Rattle.feed_tables.specs.declared.ids.CallIds.{CallIds}
use Rattle.feed_calls.specs.declared.calls.StopTimes.{StopTimes}
use Rattle.feed_calls.specs.declared.calls.CallError.{CallError}
use Rattle.feed_calls.specs.declared.calls.CallError.TheVariants.{Fault, Record}
use Rattle.feed_faults.specs.FaultPlaces.{file_fault}
use Rattle.feed_text.specs.TextErrors.{IsErrorOf}
use Rattle.feed_text.specs.declared.errors.TextError.{TextError}
use Rattle.feed_text.specs.declared.errors.TextError.TheVariants as text
use Rattle.feed_files.specs.declared.faults.FaultKind.TheVariants as kind

-- these are the stop times and the table of a file as it is held, which has no fault by itself; or the fault is its first
abbrev pub AreCallsOfHeld : CallIds → HeldFile → Result StopTimes TextError → Type 0
AreCallsOfHeld ids held (Ok calls) =
    (form_fault_of_held true file.StopTimes held ≡ None) × (calls.table ≡ table_of held) × (calls.calls ≡ read_calls ids (table_of held))
AreCallsOfHeld ids held (Err why) = IsErrorOf (form_fault_of_held true file.StopTimes held) why

-- the same of a file that is open, of which these bytes are left, where they are told
pub record AreCallsLeft (left : Option (List ℕ)) (ids : CallIds) (calls : Result StopTimes TextError) : Type 0 where
  pub held : HeldFile
  pub told : IfSome left (λ bytes. held ≡ held_within most_bytes (Some bytes))
  pub are : AreCallsOfHeld ids held calls

-- and of that of a folder, where it tells what it holds
pub record AreCallsIn (folder : FolderState) (ids : CallIds) (calls : Result StopTimes TextError) : Type 0 where
  pub kept : HeldFile
  pub given : WhereTold folder (λ contents. kept ≡ held contents file.StopTimes)
  pub are : AreCallsOfHeld ids kept calls

-- nothing but bytes of its open file was asked of a folder since then
pub record IsLeft (start now : FolderState) : Type 0 where
  pub source : now.source ≡ start.source
  pub opens : now.opens ≡ start.opens

-- what is answered where the file was read to its end: that it is no text comes before the faults of its rows
abbrev pub answer_of : Bool → Result StopTimes CallError → Result StopTimes TextError
answer_of false calls = Err (text.Fault (file_fault file.StopTimes kind.NotUtf8))
answer_of true (Ok calls) = Ok calls
answer_of true (Err (Fault fault)) = Err (text.Fault fault)
answer_of true (Err (Record why)) = Err text.NoMemory
