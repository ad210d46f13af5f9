-- Files that were read one after another, none of which has a fault by itself.
use Rattle.std.proofs.Common.{◌≡◌, refl, sym, ap, ◌∙◌, subst, ◌≤◌, List, length, None, arith}
use Rattle.std.specs.Prelude.{◌≢◌, map, Result, Ok, Err, IfOk, OnOk}
use Rattle.plain_laws.specs.Plain.{first_in}
use Rattle.plain_laws.proofs.Laws.{length-list_below}
use Rattle.feed_rows.specs.Limits.{most_rows}
use Rattle.feed_rows.specs.FeedRows.{FeedRows}
use Rattle.feed_files.specs.HeldFiles.{HeldFile}
use Rattle.feed_files.specs.Names.{place}
use Rattle.feed_files.specs.declared.names.FileName.{FileName}
use Rattle.feed_files.specs.declared.names.FileName.TheVariants as file
use Rattle.feed_faults.specs.Records.{FileTable, row_count}
use Rattle.feed_faults.specs.FeedTables.{FeedTables, table_of, tables_of}
use Rattle.feed_faults.specs.FormFaults.{form_fault, first_form_fault}
use Rattle.feed_faults.specs.AcceptedFeed.{feed_of, rows_of_tables}
use Rattle.feed_faults.specs.FirstFault.{first_fault, first_relation_fault}
use Rattle.feed_soundness.specs.AcceptedTables.{AreFormed}
use Rattle.feed_soundness.proofs.FormedFiles.{formed}
use Rattle.folder_io.specs.declared.files.FileBytes.{FileBytes}
use Rattle.folder_io.specs.KeptFiles.{file_in, held_of, held_in}
use Rattle.feed_text.specs.declared.errors.TextError.{TextError}
use Rattle.feed_text.specs.TextErrors.{IsErrorOf}
use Rattle.feed_tables.specs.LeftFiles.{AreLeft}
use Rattle.feed_tables.specs.RowNumbers.{TableOf, read_of, first_files, other_files}
use Rattle.feed_tables.specs.KeptTables.{tables_with, AreKept}
use Rattle.feed_tables.specs.IdColumns.{call_ids}
use Rattle.feed_tables.specs.declared.ids.CallIds.{CallIds}
use Rattle.feed_tables.specs.ReadCalls.{read_calls}
use Rattle.feed_calls.specs.declared.calls.StopTimes.{StopTimes}
use Rattle.feed_check.specs.FilesBehind.{AreReadTo}
use Rattle.feed_check.specs.FolderCalls.{AreCallsOfHeld}
use Rattle.feed_check.proofs.FileLaws.{tables_are, no_form_fault, related_error, related_sound, calls_held, others_held, other_faults_left, other_tables_left}

-- the tables of files that are read one after another, none of which has a fault by itself
pub record AreReadSo (files : FileName → HeldFile) (first others : List TableOf) (ids : CallIds) (calls : StopTimes) : Type 0 where
  pub first_are : first ≡ map (read_of files) first_files
  pub first_sound : first_in first_files (form_fault files) ≡ None
  pub ids_are : ids ≡ call_ids (tables_with first calls.table others)
  pub calls_are : AreCallsOfHeld ids (files file.StopTimes) (Ok calls)
  pub others_are : others ≡ map (read_of files) other_files
  pub others_sound : first_in other_files (form_fault files) ≡ None

-- what the tables of files that were left are, read behind the others
pub read_so : (all left : FileName → HeldFile) (first others : List TableOf) (ids : CallIds) (calls : StopTimes) → AreReadTo all first ids (Ok calls) left
    → others ≡ map (read_of left) other_files → first_in other_files (form_fault left) ≡ None → AreReadSo all first others ids calls
read_so all left first others ids calls read are sound = record {
  first_are = read.first_are;
  first_sound = read.first_sound;
  ids_are = read.ids_are calls.table others;
  calls_are = read.calls_are;
  others_are = are ∙ read.others_left;
  others_sound = sym read.faults_left ∙ sound;
}

module _ (files : FileName → HeldFile) (first others : List TableOf) (ids : CallIds) (calls : StopTimes) (read : AreReadSo files first others ids calls) where
  abbrev kept : FeedTables
  kept = tables_with first calls.table others

  pub kept_are : kept ≡ tables_of files
  kept_are = rw (read.first_are, read.calls_are.1, read.others_are) (tables_are files)

  no_fault : first_form_fault files ≡ None
  no_fault = no_form_fault files read.first_sound read.calls_are.0 read.others_sound

  pub are_formed : AreFormed kept
  are_formed = subst AreFormed (sym kept_are) (formed files no_fault)

  count : length calls.calls ≡ row_count calls.table
  count = ap length read.calls_are.2 ∙ length-list_below _ _ ∙ ap row_count (sym read.calls_are.1)

  few : row_count (table_of (files file.StopTimes)) ≤ most_rows
  unfolding tables_of
  few = (formed files no_fault file.StopTimes).few

  pub are_kept : AreKept first others calls.table (length calls.calls)
  are_kept = record {
    first_are = rw read.first_are refl;
    others_are = rw read.others_are refl;
    count_is = count;
    few = omega (arith, count, ap row_count read.calls_are.1, few);
  }

  pub are_read : calls.calls ≡ read_calls (call_ids kept) calls.table
  are_read = read.calls_are.2 ∙ ap (read_calls ids) (sym read.calls_are.1) ∙ ap (λ ids. read_calls ids calls.table) read.ids_are

  pub fault_is : (e : TextError) → IsErrorOf (first_relation_fault kept) e → IsErrorOf (first_fault files) e
  fault_is e is = related_error files no_fault e (rw kept_are at is)

  pub sound_is : first_relation_fault kept ≡ None → first_fault files ≡ None
  sound_is is = related_sound files no_fault (rw kept_are at is)

  pub feed_is : rows_of_tables kept ≡ feed_of files
  unfolding feed_of
  feed_is = ap rows_of_tables kept_are

-- what is answered where no file has a fault
pub accepts_so : (result : Result FeedRows TextError) (P : Type 0) (Q R : FeedRows → Type 0) → OnOk result P → IfOk result Q → ((feed : FeedRows) → P → Q feed → R feed) → IfOk result R
accepts_so (Ok feed) P Q R p q make = make feed p q
accepts_so (Err why) P Q R p q make = tt

pub on_accepted : (result : Result FeedRows TextError) (P : Type 0) (Q : FeedRows → Type 0) → IfOk result Q → ((feed : FeedRows) → Q feed → P) → OnOk result P
on_accepted (Ok feed) P Q q make = make feed q
on_accepted (Err why) P Q q make = tt

-- files in memory of which those before stop_times.txt were let go of, and then stop_times.txt itself
pub held_so : (files mid now : List FileBytes) (first : List TableOf) (ids : CallIds) (calls : Result StopTimes TextError) → AreLeft files mid 3 → ((other : FileName) → place other ≢ 3 → file_in now other ≡ file_in mid other)
    → first ≡ map (read_of (held_in files)) first_files → first_in first_files (form_fault (held_in files)) ≡ None → ((table : FileTable) (others : List TableOf) → ids ≡ call_ids (tables_with first table others))
    → AreCallsOfHeld ids (held_of (file_in mid file.StopTimes)) calls → AreReadTo (held_in files) first ids calls (held_in now)
held_so files mid now first ids calls left others are sound ids_are calls_are = record {
  first_are = are;
  first_sound = sound;
  ids_are = ids_are;
  calls_are = rw (calls_held files mid now left others) at calls_are;
  others_left = other_tables_left files now (others_held files mid now left others);
  faults_left = other_faults_left files now (others_held files mid now left others);
}
