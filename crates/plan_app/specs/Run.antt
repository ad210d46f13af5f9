-- Each answer of the program with its cause: what holds of the words, and of the folder and the sink before and after.
use Rattle.std.specs.Prelude.{◌≡◌, ◌⊎◌, ℕ, Bool, true, false, IsTrue, List, Result, Ok, Err}
use Rattle.feed_files.specs.FaultCounts.{Rose}
use Rattle.feed_files.specs.HeldFiles.{HeldFile, held}
use Rattle.commands.specs.Requests.{Request}
use Rattle.feed_files.specs.declared.names.FileName.{FileName}
use Rattle.commands.specs.declared.usage.UsageFault.{UsageFault}
use Rattle.folder_io.specs.FolderCalls.{FolderState, WhereTold}
use Rattle.folder_io.specs.FileReading.{OpensAll}
use Rattle.folder_io.specs.SinkCalls.{SinkState}
use Rattle.feed_check.specs.LoadErrors.{FailsReading, StopsReading}
use Rattle.commands.specs.Commands.{read_command}
use Rattle.command_answers.specs.Due.{Task, due, IsDueOver}
use Rattle.command_answers.specs.Written.{WritesAll, WritesSome}
use Rattle.command_answers.specs.declared.status.Status.{Status}
use Rattle.command_answers.specs.declared.status.Status.TheVariants as status

-- the words ask for something of the folder
abbrev pub asks_folder : Result Request UsageFault → Bool
asks_folder (Ok (Request.Asks question)) = true
asks_folder (Ok (Request.Gen request)) = false
asks_folder (Err fault) = false

-- where something is asked of the folder, each file was opened, once and in order, and no call of it failed; else it wasn't
-- touched
abbrev pub ReadsIf : Bool → FolderState → FolderState → Type 0
ReadsIf true folder later = OpensAll folder later
ReadsIf false folder later = later ≡ folder

abbrev pub Reads : Result Request UsageFault → FolderState → FolderState → Type 0
Reads asked folder later = ReadsIf (asks_folder asked) folder later

-- each answer and its cause, by the folder and the sink before and after
pub data Explains (words : List (List ℕ)) (folder later : FolderState) (sink after : SinkState) (answer : Status) : Type 0 where
  -- the lines that are due for this answer were written
  Whole : (lines : List (List ℕ)) → IsDueOver folder words answer lines → Reads (read_command words) folder later → WritesAll sink lines after → Explains words folder later sink after answer
  -- a write failed: of the lines that are due for some answer a first part was written
  Part : (told : Status) → (lines : List (List ℕ)) → IsDueOver folder words told lines → Reads (read_command words) folder later → WritesSome sink lines after → answer ≡ status.WriteFault → Explains words folder later sink after answer
  -- a call of the folder failed, and nothing was written
  Unread : IsTrue (asks_folder (read_command words)) → FailsReading folder later → after ≡ sink → answer ≡ status.ReadFault → Explains words folder later sink after answer
  -- memory was wanting, and nothing was written
  Unmade : StopsReading folder later → after ≡ sink → answer ≡ status.NoMemory → Explains words folder later sink after answer

-- this is so of the files that are asked about, where they are known and no call for them fails: those that a folder tells
-- that it holds; what isn't asked of the folder goes by no file of it
abbrev pub WhereRead : Bool → FolderState → FolderState → ((FileName → HeldFile) → Type 0) → Type 0
WhereRead true folder later fact = WhereTold folder (λ contents. ¬ (Rose folder.faults later.faults) → fact (held contents))
WhereRead false folder later fact = (files : FileName → HeldFile) → fact files

-- where a task is due over the files that are asked about, and nothing fails outside, it is answered, or memory was wanting;
-- so it is of each answer that has its cause (`proofs/CauseLaws`: `all_answered`)
abbrev pub AnswersAll : List (List ℕ) → FolderState → FolderState → SinkState → SinkState → Status → Type 0
AnswersAll words folder later sink after answer =
    WhereRead (asks_folder (read_command words)) folder later (λ files. (task : Task) → due files words ≡ Ok task →
    ¬ (Rose sink.faults after.faults) → (answer ≡ status.Answered) ⊎ (answer ≡ status.NoMemory))

-- these answers stand where nothing was written
abbrev pub writes_nothing : Status → Bool
writes_nothing status.ReadFault = true
writes_nothing status.NoMemory = true
writes_nothing status.Answered = false
writes_nothing (status.Usage fault) = false
writes_nothing (status.Refused fault) = false
writes_nothing status.WriteFault = false
