-- What the bytes of stop_times.txt give.
use Rattle.std.proofs.Common.{◌≡◌, refl, sym, ap, subst, ◌∙◌, inl, inr, ℕ, ◌+◌, ◌<◌, ◌≤◌, List, [], ◌∷◌, length, take, true, false, nat_lt, Option, Some, None, arith}
use Rattle.std.specs.Prelude.{option_map, IfSome, IfOk, IfErr, Bool, Result, Ok, Err}
use Rattle.std.specs.Str.{is_utf8}
use Rattle.std.proofs.lemmas.List.{take_all}
use Rattle.std.proofs.lemmas.Bool.Decides.{nat_tests}
use Rattle.feed_files.specs.HeldFiles.{HeldFile, held_within, held, most_bytes}
use Rattle.feed_files.specs.Names.{file_text}
use Rattle.feed_files.specs.declared.names.FileName.TheVariants as file
use Rattle.feed_files.specs.declared.faults.FaultKind.TheVariants as kind
use Rattle.feed_files.specs.declared.faults.FeedFault.{FeedFault}
use Rattle.feed_faults.specs.Records.{table_of_bytes}
use Rattle.feed_faults.specs.FaultPlaces.{file_fault}
use Rattle.feed_faults.specs.FormFaults.{form_fault_of_held, form_fault_of_bytes}
use Rattle.feed_tables.specs.declared.ids.CallIds.{CallIds}
use Rattle.feed_calls.specs.CallRows.{calls_fault}
use Rattle.feed_files.specs.FaultCounts.{Rose, Stayed}
use Rattle.folder_io.specs.declared.reading.ReadError.{ReadError}
use Rattle.folder_io.specs.declared.reading.ReadError.TheVariants as error
use Rattle.folder_io.specs.FileReading.{GivesUp}
use Rattle.feed_text.specs.declared.errors.TextError.{TextError}
use Rattle.feed_text.specs.declared.errors.TextError.TheVariants as text
use Rattle.feed_calls.specs.declared.calls.CallError.{CallError}
use Rattle.feed_calls.specs.declared.calls.CallError.TheVariants.{Fault, Record}
use Rattle.feed_calls.specs.CallRows.{AreCallsOf, IsFaultOf, IsCallError}
use Rattle.feed_calls.specs.declared.calls.StopTimes.{StopTimes}
use Rattle.folder_io.specs.declared.folder.Opened.TheVariants as opened
use Rattle.folder_io.specs.FolderCalls.{Contents, FolderState, Finds}
use Rattle.folder_io.proofs.FilesRead.{absent_read}
use Rattle.folder_io.proofs.Utf8Laws.{is_between-utf8_after}
use Rattle.feed_check.specs.FolderCalls.{answer_of, AreCallsOfHeld, AreCallsLeft, AreCallsIn}

pub not_text : (bytes : List ℕ) → is_utf8 bytes ≡ false → form_fault_of_held true file.StopTimes (HeldFile.Bytes bytes) ≡ Some (file_fault file.StopTimes kind.NotUtf8)
unfolding form_fault_of_bytes
not_text bytes e = rw e refl

text_fault : (bytes : List ℕ) → is_utf8 bytes ≡ true → form_fault_of_held true file.StopTimes (HeldFile.Bytes bytes) ≡ calls_fault (table_of_bytes bytes)
unfolding form_fault_of_bytes
text_fault bytes e = rw e refl

-- what was read of a text
module _ (start : Option (List ℕ)) (ids : CallIds) where
  pub text_calls : (calls : StopTimes) (are : AreCallsOf start ids calls) → is_utf8 are.text ≡ true → AreCallsOfHeld ids (HeldFile.Bytes are.text) (Ok calls)
  text_calls calls are utf8 = (text_fault are.text utf8 ∙ are.sound, are.table_is, are.calls_are)

  pub text_refused : (fault : FeedFault) (is : IsFaultOf start fault) → is_utf8 is.text ≡ true → AreCallsOfHeld ids (HeldFile.Bytes is.text) (Err (text.Fault fault))
  text_refused fault is utf8 = text_fault is.text utf8 ∙ is.is_first

-- what was read of an open file, of which these bytes were left
fits_held : (bytes : List ℕ) → length bytes ≤ most_bytes → HeldFile.Bytes bytes ≡ held_within most_bytes (Some bytes)
fits_held bytes le = let fits : nat_lt most_bytes (length bytes) ≡ false = grind (arith, nat_tests, le) in rw fits refl

abbrev pub read_start : Option (List ℕ) → Option (List ℕ)
read_start left = option_map (take (most_bytes + 1)) left

pub left_large : (left : Option (List ℕ)) (ids : CallIds) → IfSome left (λ bytes. most_bytes < length bytes) → AreCallsLeft left ids (Err (text.Fault (file_fault file.StopTimes kind.FileTooLarge)))
left_large None ids long = record { held = HeldFile.TooLarge; told = tt; are = refl }
left_large (Some bytes) ids long =
    let more : nat_lt most_bytes (length bytes) ≡ true = grind (arith, nat_tests, long) in
    record { held = HeldFile.TooLarge; told = rw more refl; are = refl }

-- bytes that are no text
no_text : is_utf8 (255 ∷ []) ≡ false
no_text = sym (is_between-utf8_after (255 ∷ []))

pub left_wrong : (left : Option (List ℕ)) (ids : CallIds) → IfSome left (λ bytes. length bytes ≤ most_bytes) → IfSome left (λ bytes. false ≡ is_utf8 bytes) → AreCallsLeft left ids (Err (text.Fault (file_fault file.StopTimes kind.NotUtf8)))
left_wrong None ids fits wrong = record { held = HeldFile.Bytes (255 ∷ []); told = tt; are = not_text (255 ∷ []) no_text }
left_wrong (Some bytes) ids fits wrong = record { held = HeldFile.Bytes bytes; told = fits_held bytes fits; are = not_text bytes (sym wrong) }

whole : (bytes : List ℕ) → length bytes ≤ most_bytes → take (most_bytes + 1) bytes ≡ bytes
whole bytes le = take_all (most_bytes + 1) bytes (omega (arith, le))

pub left_calls : (left : Option (List ℕ)) (ids : CallIds) (calls : StopTimes) → IfSome left (λ bytes. length bytes ≤ most_bytes) → IfSome left (λ bytes. true ≡ is_utf8 bytes) → AreCallsOf (read_start left) ids calls → AreCallsLeft left ids (Ok calls)
left_calls None ids calls fits utf8 are = record { held = HeldFile.Bytes are.text; told = tt; are = text_calls None ids calls are (are.is_of.utf8 refl) }
left_calls (Some bytes) ids calls fits utf8 are =
    let same : are.text ≡ bytes = are.is_of.told ∙ whole bytes fits in
    record { held = HeldFile.Bytes are.text; told = ap HeldFile.Bytes same ∙ fits_held bytes fits; are = text_calls _ ids calls are (ap is_utf8 same ∙ sym utf8) }

pub left_refused : (left : Option (List ℕ)) (ids : CallIds) (fault : FeedFault) → IfSome left (λ bytes. length bytes ≤ most_bytes) → IfSome left (λ bytes. true ≡ is_utf8 bytes) → IsFaultOf (read_start left) fault → AreCallsLeft left ids (Err (text.Fault fault))
left_refused None ids fault fits utf8 is = record { held = HeldFile.Bytes is.text; told = tt; are = text_refused None ids fault is (is.is_of.utf8 refl) }
left_refused (Some bytes) ids fault fits utf8 is =
    let same : is.text ≡ bytes = is.is_of.told ∙ whole bytes fits in
    record { held = HeldFile.Bytes is.text; told = ap HeldFile.Bytes same ∙ fits_held bytes fits; are = text_refused _ ids fault is (ap is_utf8 same ∙ sym utf8) }

-- what is held of a file that isn't there, and of one that is open
pub absent_in : (folder : FolderState) (left : Option (List ℕ)) (ids : CallIds) → IfSome folder.source.contents (λ contents. Finds (contents (file_text file.StopTimes)) left opened.Absent) → AreCallsIn folder ids (Err (text.Fault (file_fault file.StopTimes kind.MissingFile)))
unfolding held
absent_in folder left ids finds = record { kept = HeldFile.Missing; given = (absent_read folder.source.contents (file_text file.StopTimes) left most_bytes finds).0; are = refl }

left_held : (under left : Option (List ℕ)) (kept : HeldFile) → Finds under left opened.Present → IfSome left (λ bytes. kept ≡ held_within most_bytes (Some bytes)) → kept ≡ held_within most_bytes under
left_held None left kept finds told = absurd finds
left_held (Some bytes) left kept finds told = rw finds at told

given : (holds : Option Contents) (left : Option (List ℕ)) (kept : HeldFile) → IfSome holds (λ contents. Finds (contents (file_text file.StopTimes)) left opened.Present)
    → IfSome left (λ bytes. kept ≡ held_within most_bytes (Some bytes)) → IfSome holds (λ contents. kept ≡ held contents file.StopTimes)
unfolding held
given None left kept finds told = tt
given (Some contents) left kept finds told = left_held (contents (file_text file.StopTimes)) left kept finds told

pub given_in : (folder : FolderState) (left : Option (List ℕ)) (ids : CallIds) (calls : Result StopTimes TextError) → IfSome folder.source.contents (λ contents. Finds (contents (file_text file.StopTimes)) left opened.Present)
    → AreCallsLeft left ids calls → AreCallsIn folder ids calls
given_in folder left ids calls finds are = record { kept = are.held; given = given folder.source.contents left are.held finds are.told; are = are.are }

-- memory was wanting
left_none : (left : Option (List ℕ)) (ids : CallIds) → IfSome left (λ bytes. length bytes ≤ most_bytes) → AreCallsLeft left ids (Err text.NoMemory)
left_none None ids fits = record { held = HeldFile.Missing; told = tt; are = tt }
left_none (Some bytes) ids fits = record { held = HeldFile.Bytes bytes; told = fits_held bytes fits; are = tt }

-- what is answered at the end of an open file
pub left_answer : (left : Option (List ℕ)) (ids : CallIds) (is_text : Bool) (calls : Result StopTimes CallError) → IfSome left (λ bytes. length bytes ≤ most_bytes) → IfSome left (λ bytes. is_text ≡ is_utf8 bytes)
    → IfOk calls (AreCallsOf (read_start left) ids) → IfErr calls (IsCallError (read_start left)) → AreCallsLeft left ids (answer_of is_text calls)
left_answer left ids false calls fits utf8 are why = left_wrong left ids fits utf8
left_answer left ids true (Ok calls) fits utf8 are why = left_calls left ids calls fits utf8 are
left_answer left ids true (Err (Fault fault)) fits utf8 are why = left_refused left ids fault fits utf8 why
left_answer left ids true (Err (Record error)) fits utf8 are why = left_none left ids fits

-- what is answered of bytes that are held
pub held_answer : (bytes : List ℕ) (ids : CallIds) (is_text : Bool) (calls : Result StopTimes CallError) → is_text ≡ is_utf8 bytes
    → IfOk calls (AreCallsOf (Some bytes) ids) → IfErr calls (IsCallError (Some bytes)) → AreCallsOfHeld ids (HeldFile.Bytes bytes) (answer_of is_text calls)
held_answer bytes ids false calls utf8 are why = not_text bytes (sym utf8)
held_answer bytes ids true (Ok calls) utf8 are why =
    subst (λ own. AreCallsOfHeld ids (HeldFile.Bytes own) (Ok calls)) are.is_of.told (text_calls _ ids calls are (ap is_utf8 are.is_of.told ∙ sym utf8))
held_answer bytes ids true (Err (Fault fault)) utf8 are why =
    subst (λ own. AreCallsOfHeld ids (HeldFile.Bytes own) (Err (text.Fault fault))) why.is_of.told (text_refused _ ids fault why (ap is_utf8 why.is_of.told ∙ sym utf8))
held_answer bytes ids true (Err (Record error)) utf8 are why = tt

-- why a reading gave up that began before
pub gives_behind : (why : ReadError) (start before now : FolderState) → Stayed start.faults before.faults → GivesUp why before now → GivesUp why start now
gives_behind error.ReadFault start before now stayed gives = (risen gives.0, gives.1)
  where
    risen : Rose before.faults now.faults → Rose start.faults now.faults
    risen (inl less) = inl (omega (arith, stayed, less))
    risen (inr last) = inr last
gives_behind error.NoMemory start before now stayed gives = gives ∙ stayed
