-- Stop times, read record by record.
use Rattle.std.specs.Prelude.{◌≡◌, ℕ, ◌∷◌, [], List, length, get_or, true, Option, None, Some}
use Rattle.std.specs.Option.{option_or}
use Rattle.plain_laws.specs.Plain.{list_below, first_below}
use Rattle.feed_rows.specs.Limits.{most_rows}
use Rattle.feed_files.specs.declared.names.FileName.TheVariants as file
use Rattle.feed_files.specs.declared.faults.FeedFault.{FeedFault}
use Rattle.feed_faults.specs.Records.{FileTable, Fields, table_of_bytes, header, field, is_long}
use Rattle.feed_faults.specs.FormFaults.{header_fault, form_fault_of_table, form_fault_of_rows}
use Rattle.feed_tables.specs.ReadCalls.{read_call, read_calls}
use Rattle.feed_text.specs.Reader.{IsOfText, Explains}
use Rattle.feed_tables.specs.RowNumbers.{fault_of_row}
use Rattle.feed_tables.specs.declared.ids.CallIds.{CallIds}
use Rattle.feed_calls.specs.declared.calls.CallRows.{CallRows}
use Rattle.feed_calls.specs.declared.calls.CallError.{CallError}
use Rattle.feed_calls.specs.declared.calls.CallError.TheVariants.{Fault, Record}
use Rattle.feed_calls.specs.declared.calls.StopTimes.{StopTimes}

-- the fields of a record behind a header
abbrev pub fields_behind : List (List ℕ) → List (List ℕ) → Fields
fields_behind header record_fields = field (header ∷ record_fields ∷ []) 0

-- the fault of a stop time that is this record behind a header
abbrev pub call_fault : List (List ℕ) → ℕ → List (List ℕ) → Option FeedFault
call_fault header row record_fields =
    fault_of_row file.StopTimes row (is_long (header ∷ record_fields ∷ []) 0) (fields_behind header record_fields)

-- the first fault of a table of stop times by itself
abbrev pub calls_fault : FileTable → Option FeedFault
calls_fault table = option_or (form_fault_of_table true most_rows file.StopTimes table) (form_fault_of_rows file.StopTimes table)

-- these are the stop times and the table of a text without a fault, the one that the source told
pub record AreCallsOf (start : Option (List ℕ)) (ids : CallIds) (calls : StopTimes) : Type 0 where
  pub text : List ℕ
  pub is_of : IsOfText start text
  pub sound : calls_fault (table_of_bytes text) ≡ None
  pub table_is : calls.table ≡ table_of_bytes text
  pub calls_are : calls.calls ≡ read_calls ids (table_of_bytes text)

-- the fault is the first of such a text; a record that isn't UTF-8 is none of a text that is
pub record IsFaultOf (start : Option (List ℕ)) (fault : FeedFault) : Type 0 where
  pub text : List ℕ
  pub is_of : IsOfText start text
  pub is_first : calls_fault (table_of_bytes text) ≡ Some fault

abbrev pub IsCallError : Option (List ℕ) → CallError → Type 0
IsCallError start (Fault fault) = IsFaultOf start fault
IsCallError start (Record why) = Explains start why

-- these are the stop times of records behind a header, or their first fault
pub record HasCalls (ids : CallIds) (head : List (List ℕ)) (rows : List (List (List ℕ))) (calls : CallRows) : Type 0 where
  pub header_is : header calls.header ≡ head
  pub table_is : calls.read.table ≡ head ∷ rows
  pub fault_is : calls.fault ≡ option_or (header_fault file.StopTimes (head ∷ [])) (first_below (length rows) (λ k. call_fault head k (get_or rows k [])))
  pub calls_are : calls.fault ≡ None → calls.read.calls ≡ list_below (length rows) (λ k. read_call ids (fields_behind head (get_or rows k [])))
