-- What comes of a command before anything is written.
use Rattle.std.specs.Prelude.{◌≡◌, ℕ, Bool, true, false, List, None, Some, Result, Ok, IsTrue}
use Rattle.folder_io.specs.FolderCalls.{FolderState}
use Rattle.feed_check.specs.LoadErrors.{FailsReading, StopsReading}
use Rattle.feed_rows.specs.FeedRows.{FeedRows}
use Rattle.feed_files.specs.HeldFiles.{HeldFile}
use Rattle.commands.specs.Queries.{query_of}
use Rattle.commands.specs.Requests.{PlanRequest, Request}
use Rattle.feed_rows.specs.declared.journeys.Query.{Query}
use Rattle.commands.specs.declared.usage.UsageFault.{UsageFault}
use Rattle.feed_files.specs.declared.faults.FeedFault.{FeedFault}
use Rattle.feed_files.specs.declared.names.FileName.{FileName}
use Rattle.feed_faults.specs.AcceptedFeed.{feed_of}
use Rattle.feed_faults.specs.FirstFault.{first_fault}
use Rattle.feed_check.specs.declared.folder.LoadError.{LoadError}
use Rattle.feed_check.specs.declared.folder.LoadError.TheVariants as error
use Rattle.folder_io.specs.FileReading.{Gives}
use Rattle.command_answers.specs.Due.{Task, task_by, IsDueOver, files_for}
use Rattle.plan_app.specs.Run.{asks_folder, Reads}
use Rattle.command_answers.specs.declared.outcome.Outcome.{Outcome}
use Rattle.command_answers.specs.declared.outcome.Failure.{Failure}
use Rattle.command_answers.specs.declared.refusal.Refusal.{Refusal}
use Rattle.command_answers.specs.declared.outcome.Failure.TheVariants as failure

-- the answer and the lines are due for these words over files that the folder holds
abbrev pub IsMade : FolderState → List (List ℕ) → Outcome → Type 0
IsMade folder words out = IsDueOver folder words out.told out.text

-- why nothing was made
abbrev pub Fails : Failure → Result Request UsageFault → FolderState → FolderState → Type 0
Fails failure.ReadFault asked folder later = IsTrue (asks_folder asked) × FailsReading folder later
Fails failure.NoMemory asked folder later = StopsReading folder later

-- the feed is that of the files that a request asks about, which have no fault; the folder's are among them as it gave them
pub record IsFeedFor (folder : FolderState) (request : Request) (feed : FeedRows) : Type 0 where
  pub files : FileName → HeldFile
  pub gives : Gives folder files
  pub accepted : first_fault (files_for files request) ≡ None
  pub is_feed : feed ≡ feed_of (files_for files request)

-- the fault is the first of those files
pub record IsFaultFor (folder : FolderState) (request : Request) (fault : FeedFault) : Type 0 where
  pub files : FileName → HeldFile
  pub gives : Gives folder files
  pub is_first : first_fault (files_for files request) ≡ Some fault

-- why there is no feed: a call of the folder failed, or the files have a fault, or want of memory
abbrev pub GivesNone : LoadError → Request → FolderState → FolderState → Type 0
GivesNone error.ReadFault request folder later = IsTrue (asks_folder (Ok request)) × FailsReading folder later
GivesNone (error.Fault fault) request folder later = Reads (Ok request) folder later × IsFaultFor folder request fault
GivesNone error.NoMemory request folder later = StopsReading folder later

-- a plan whose lines are the triples of its answer, as for a generated feed, or else its entries
abbrev pub plan_task : Bool → FeedRows → Bool → Query → Task
plan_task true feed stats query = Task.Generates feed query
plan_task false feed stats query = Task.Plans feed query stats

abbrev pub planned : Bool → FeedRows → PlanRequest → Result Task Refusal
planned triples feed request = task_by (λ query. plan_task triples feed request.stats query) (query_of feed request)
