-- What a command's words and the files of its folder make due: a task, or what refuses it; and the answer and the lines that
-- come of that.
use Rattle.std.specs.Prelude.{◌≡◌, ◌⊎◌, Bool, true, false, List, [], ◌∷◌, ◌++◌, length, Any, ℕ, ℤ, IsTrue, Option, None, Some, Result, Ok, Err}
use Rattle.feed_rows.specs.FeedRows.{FeedRows}
use Rattle.feed_files.specs.HeldFiles.{HeldFile}
use Rattle.feed_rows.specs.ClosedTable.{IsClosedTable}
use Rattle.commands.specs.CommandTexts.{usage_line, refused_line, check_text, stats_line}
use Rattle.feed_rows.specs.EntryText.{lines_of_entries}
use Rattle.feed_rows.specs.JourneyEntries.{IsExactAnswer, CoversOffers, IsOffered}
use Rattle.feed_rows.specs.ParetoTriples.{at_most}
use Rattle.commands.specs.Queries.{chosen_buyer, query_of}
use Rattle.commands.specs.PriceQueries.{PriceQuery, price_query_of}
use Rattle.feed_rows.specs.PriceTexts.{AreJoinedRides, IsLeastPrice, IsUncovered}
use Rattle.feed_rows.specs.GeneratedFeed.{generated}
use Rattle.commands.specs.GeneratedPlan.{generated_plan}
use Rattle.feed_rows.specs.GeneratedTexts.{AreMinimalTriples}
use Rattle.feed_rows.specs.RoundTables.{RoundTable, entries_of}
use Rattle.feed_rows.specs.SoundTable.{IsSoundTable}
use Rattle.feed_rows.specs.declared.journeys.Buyer.{Buyer}
use Rattle.feed_rows.specs.declared.journeys.Ride.{Ride}
use Rattle.feed_rows.specs.declared.fares.Choice.{Choice}
use Rattle.feed_rows.specs.declared.fares.Triple.{Triple}
use Rattle.ticket_explain.specs.CommandLines.{price_lines, uncovered_lines, audit_lines, gen_lines}
use Rattle.feed_rows.specs.FareGaps.{idle_rules, uncovered_pairs}
use Rattle.commands.specs.Requests.{Question, Request}
use Rattle.feed_files.specs.declared.names.FileName.{FileName}
use Rattle.feed_rows.specs.declared.journeys.Query.{Query}
use Rattle.feed_rows.specs.declared.fares.Entry.{Entry}
use Rattle.feed_files.specs.declared.faults.FeedFault.{FeedFault}
use Rattle.commands.specs.declared.usage.UsageFault.{UsageFault}
use Rattle.feed_faults.specs.AcceptedFeed.{feed_of}
use Rattle.folder_io.specs.FolderCalls.{FolderState}
use Rattle.folder_io.specs.FileReading.{Gives}
use Rattle.feed_faults.specs.FirstFault.{first_fault}
use Rattle.commands.specs.Commands.{read_command}
use Rattle.command_answers.specs.declared.refusal.Refusal.{Refusal}
use Rattle.command_answers.specs.declared.refusal.Refusal.TheVariants as refusal
use Rattle.command_answers.specs.declared.status.Status.{Status}
use Rattle.command_answers.specs.declared.status.Status.TheVariants as status

-- what is left to do where words, files and names have no fault; of a plan also whether a last line tells the size of
-- its table, and of an audit the buyer, the first and the last service day
pub data Task : Type 0 where
  Checks : FeedRows → Task
  Plans : FeedRows → Query → Bool → Task
  Prices : FeedRows → PriceQuery → Task
  Audits : FeedRows → Buyer → ℤ → ℤ → Task
  Generates : FeedRows → Query → Task

-- the task over what names stand for, or the fault of one of them
abbrev pub task_by : {X : Type 0} → (X → Task) → Result X UsageFault → Result Task Refusal
task_by make (Ok query) = Ok (make query)
task_by make (Err fault) = Err (refusal.Usage fault)

-- what is asked about a feed that has no fault
abbrev pub task_asked : FeedRows → Question → Result Task Refusal
task_asked feed (Question.Plan request) = task_by (λ query. Task.Plans feed query request.stats) (query_of feed request)
task_asked feed (Question.Price request) = task_by (Task.Prices feed) (price_query_of feed request)
task_asked feed Question.Check = Ok (Task.Checks feed)
task_asked feed (Question.Audit request) = task_by (λ buyer. Task.Audits feed buyer request.first request.last) (chosen_buyer feed request.rider)

-- what is asked for over a feed that has no fault
abbrev pub task_of : FeedRows → Request → Result Task Refusal
task_of feed (Request.Asks question) = task_asked feed question
task_of feed (Request.Gen request) = task_by (Task.Generates feed) (query_of feed (generated_plan request.lines))

-- the files that are asked about: those of the folder, but for the command that makes its own
abbrev pub files_for : (FileName → HeldFile) → Request → FileName → HeldFile
files_for files (Request.Asks question) = files
files_for files (Request.Gen request) = generated request.seed request.lines

-- what is asked for over files with this first fault
abbrev pub task_over : (FileName → HeldFile) → Option FeedFault → Request → Result Task Refusal
task_over files (Some fault) request = Err (refusal.Feed fault)
task_over files None request = task_of (feed_of files) request

-- what these words ask for: their own fault comes first
abbrev pub task_for : (FileName → HeldFile) → Result Request UsageFault → Result Task Refusal
task_for files (Err fault) = Err (refusal.Usage fault)
task_for files (Ok request) = task_over (files_for files request) (first_fault (files_for files request)) request

-- the task, or what refuses it: first a fault of the words, then one of the files, then one of the names
abbrev pub due : (FileName → HeldFile) → List (List ℕ) → Result Task Refusal
due files words = task_for files (read_command words)

-- the lines are those of entries that list in order exactly the minimal triples of arrival, rides and price among all
-- fare-covered journeys of the query, one for each, with such a journey and its tickets; without entry there is no such
-- journey
pub record ArePlanLines (feed : FeedRows) (query : Query) (lines : List (List ℕ)) : Type 0 where
  pub entries : List Entry
  pub exact : IsExactAnswer feed query entries
  pub covers : CoversOffers feed query entries
  pub are_lines : lines ≡ lines_of_entries feed entries

-- the lines are those of such entries, which come from the finals of a sound and closed table of the query, and behind
-- them the one that tells how many labels this table has
pub record AreTableLines (feed : FeedRows) (query : Query) (lines : List (List ℕ)) : Type 0 where
  pub table : RoundTable
  pub sound : IsSoundTable feed query table
  pub closed : IsClosedTable feed query table
  pub entries : List Entry
  pub come : entries_of table ≡ Some entries
  pub exact : IsExactAnswer feed query entries
  pub covers : CoversOffers feed query entries
  pub are_lines : lines ≡ lines_of_entries feed entries ++ stats_line (length table.labels) ∷ []

-- the lines are those of a choice of the least price that the rides have for the buyer, or tell that no choice pays them
abbrev pub ArePriceLines : FeedRows → List Ride → Buyer → List (List ℕ) → Type 0
ArePriceLines feed rides buyer lines =
    ((choice : Choice) × (price : ℤ) × IsLeastPrice feed rides buyer choice price
    × (lines ≡ price_lines feed (length rides) choice price))
    ⊎ (IsUncovered feed rides buyer × (lines ≡ uncovered_lines))

-- the lines are that of the feed's size and those of exactly the minimal triples of the query, in order; without triple there
-- is no fare-covered journey of the query
pub record AreGenLines (feed : FeedRows) (query : Query) (lines : List (List ℕ)) : Type 0 where
  pub triples : List Triple
  pub are_minimal : AreMinimalTriples feed query triples
  pub covers : (offered : Triple) → IsOffered feed query offered → Any (λ triple. IsTrue (at_most triple offered)) triples
  pub are_lines : lines ≡ gen_lines feed triples

-- the lines do the task: those of a check tell how many rows the main files of the feed have; the rides that are priced are
-- rides of the feed, each caught from the one before; those of an audit tell exactly the pairs of stops between which a ride
-- can't be paid, and the leg rules that no ride selects
abbrev pub DoTask : Task → List (List ℕ) → Type 0
DoTask (Task.Checks feed) lines = lines ≡ check_text feed ∷ []
DoTask (Task.Plans feed query false) lines = ArePlanLines feed query lines
DoTask (Task.Plans feed query true) lines = AreTableLines feed query lines
DoTask (Task.Prices feed query) lines = AreJoinedRides feed query.rides × ArePriceLines feed query.rides query.buyer lines
DoTask (Task.Audits feed buyer first last) lines =
    lines ≡ audit_lines feed (uncovered_pairs feed buyer first last) (idle_rules feed first last)
DoTask (Task.Generates feed query) lines = AreGenLines feed query lines

-- the answer and the line of a refusal
abbrev pub refusal_answer : Refusal → Status
refusal_answer (refusal.Usage fault) = status.Usage fault
refusal_answer (refusal.Feed fault) = status.Refused fault

abbrev pub refusal_line : Refusal → List ℕ
refusal_line (refusal.Usage fault) = usage_line fault
refusal_line (refusal.Feed fault) = refused_line fault

-- this answer is due, and these lines before it is given
abbrev pub IsDue : Result Task Refusal → Status → List (List ℕ) → Type 0
IsDue (Ok task) answer lines = (answer ≡ status.Answered) × DoTask task lines
IsDue (Err refused) answer lines = (answer ≡ refusal_answer refused) × (lines ≡ refusal_line refused ∷ [])

-- the same over files that the folder gives: those that it holds, where it tells what it holds
pub record IsDueOver (folder : FolderState) (words : List (List ℕ)) (answer : Status) (lines : List (List ℕ)) : Type 0 where
  pub files : FileName → HeldFile
  pub gives : Gives folder files
  pub is_due : IsDue (due files words) answer lines
