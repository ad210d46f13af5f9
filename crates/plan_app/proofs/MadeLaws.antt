-- What is due over a folder, and for a task.
use Rattle.std.proofs.Common.{◌≡◌, ◌∙◌, ap, arith, ℕ, Bool, true, false, List, [], ◌∷◌, ◌++◌, length, map, Option, refl, sym, subst}
use Rattle.std.proofs.lemmas.Option.{same_Some}
use Rattle.std.proofs.lemmas.List.{get_or-map, length-map}
use Rattle.std.specs.Prelude.{Any, IsTrue, Some, None, Result, Ok, Err, IfOk, IfSome}
use Rattle.feed_rows.specs.FeedRows.{FeedRows}
use Rattle.feed_files.specs.HeldFiles.{HeldFile, held}
use Rattle.feed_rows.specs.JourneyEntries.{IsExactAnswer, CoversOffers}
use Rattle.feed_rows.specs.ParetoTriples.{at_most}
use Rattle.feed_rows.specs.ClosedTable.{IsClosedTable}
use Rattle.commands.specs.CommandTexts.{stats_line}
use Rattle.feed_rows.specs.EntryText.{lines_of_entries}
use Rattle.feed_rows.specs.RoundTables.{RoundTable, entries_of}
use Rattle.feed_rows.specs.SoundTable.{IsSoundTable}
use Rattle.commands.specs.Queries.{query_of}
use Rattle.commands.specs.Requests.{PlanRequest, Request}
use Rattle.feed_rows.specs.declared.fares.Entry.{Entry}
use Rattle.feed_rows.specs.declared.journeys.Query.{Query}
use Rattle.feed_files.specs.declared.faults.FeedFault.{FeedFault}
use Rattle.feed_files.specs.declared.names.FileName.{FileName}
use Rattle.commands.specs.Commands.{read_command}
use Rattle.commands.proofs.GeneratedLaws.{exact_triples}
use Rattle.folder_io.specs.declared.files.TheConstants.{FILE_COUNT}
use Rattle.folder_io.specs.FolderCalls.{Contents, FolderState}
use Rattle.folder_io.proofs.LogLaws.{makes_none}
use Rattle.feed_check.specs.LoadErrors.{StopsReading}
use Rattle.ticket_explain.specs.CommandLines.{gen_lines}
use Rattle.round_table.specs.Tables.{CoversAllOffers}
use Rattle.command_answers.specs.Due.{task_by, task_of, AreGenLines, AreTableLines, DoTask, IsDue, IsDueOver}
use Rattle.command_answers.specs.declared.refusal.Refusal.TheVariants as refusal
use Rattle.plan_app.specs.Made.{IsFeedFor, IsFaultFor, plan_task, planned}
use Rattle.plan_app.specs.Run.{ReadsIf}
use Rattle.command_answers.specs.declared.status.Status.{Status}
use Rattle.command_answers.specs.declared.status.Status.TheVariants as status

-- each folder has files
pub some_files : (holds : Option Contents)
    → (files : FileName → HeldFile) × IfSome holds (λ contents. files ≡ held contents)
some_files None = ((λ name. HeldFile.Missing), tt)
some_files (Some contents) = (held contents, refl)

-- where all was read that was asked for, memory may be wanting later
pub read_stops : (asks : Bool) (folder later : FolderState) → ReadsIf asks folder later → StopsReading folder later
read_stops true folder later all = record { counts = all.counts; opens = (FILE_COUNT, all.opens) }
read_stops false folder later same =
    subst (StopsReading folder) (sym same) (record { counts = refl; opens = (0, makes_none folder.opens) })

-- ---- what is due over a folder, for words that ask for a request

pub due_over : (folder : FolderState) (words : List (List ℕ)) (request : Request) (feed : FeedRows) (told : Status) (text : List (List ℕ))
    → IsFeedFor folder request feed → Ok request ≡ read_command words → IsDue (task_of feed request) told text → IsDueOver folder words told text
due_over folder words request feed told text of asked is = record {
  files = of.files;
  gives = of.gives;
  is_due = rw (← asked, of.accepted, ← of.is_feed) is;
}

pub refused_over : (folder : FolderState) (words : List (List ℕ)) (request : Request) (fault : FeedFault) (told : Status) (text : List (List ℕ))
    → IsFaultFor folder request fault → Ok request ≡ read_command words → IsDue (Err (refusal.Feed fault)) told text → IsDueOver folder words told text
refused_over folder words request fault told text of asked is = record {
  files = of.files;
  gives = of.gives;
  is_due = rw (← asked, of.is_first) is;
}

-- ---- what is due for a task

-- the entries by which the finals of a sound table end, and its size, make the lines of a plan with statistics
pub table_lines : (feed : FeedRows) (query : Query) (table : RoundTable) (entries : List Entry) (size : ℕ)
    (lines : List (List ℕ))
    → IsSoundTable feed query table → IsClosedTable feed query table → CoversAllOffers feed query table
    → entries_of table ≡ Some entries → size ≡ length table.labels
    → lines ≡ lines_of_entries feed entries ++ stats_line size ∷ [] → AreTableLines feed query lines
table_lines feed query table entries size lines sound closed offers come counted are = record {
  table = table;
  sound = sound;
  closed = closed;
  entries = entries;
  come = come;
  exact = subst (IsExactAnswer feed query) (same_Some _ _ (sym sound.exact.1 ∙ come)) sound.exact.2;
  covers = offers entries come;
  are_lines = are ∙ ap (λ n. lines_of_entries feed entries ++ stats_line n ∷ []) counted;
}

-- such lines are due for the plan
pub plan_due : (triples : Bool) (feed : FeedRows) (request : PlanRequest) (query : Query) (told : Status) (text lines : List (List ℕ))
    → Ok query ≡ query_of feed request → told ≡ status.Answered → text ≡ lines
    → DoTask (plan_task triples feed request.stats query) lines → IsDue (planned triples feed request) told text
plan_due triples feed request query told text lines named answered whole done =
    subst (λ q. IsDue (task_by (λ query. plan_task triples feed request.stats query) q) told text) named
    (answered, subst (DoTask (plan_task triples feed request.stats query)) (sym whole) done)

-- some item of a list of values is such where the value of some item is
any_map : {X Y : Type 0} (such : Y → Type 0) (value : X → Y) (items : List X) → Any (λ item. such (value item)) items
    → Any such (map value items)
any_map such value items some = (
  some.0,
  value some.1,
  omega (arith, some.2, length-map items value),
  get_or-map value items some.0 some.1 _ some.2 ∙ ap value some.3,
  some.4,
)

-- the triples of an exact answer make the lines for a generated feed, where memory isn't wanting
pub gen_are : {E : Type 0} (feed : FeedRows) (query : Query) (entries : List Entry) (made : Result (List (List ℕ)) E)
    → IsExactAnswer feed query entries → CoversOffers feed query entries
    → IfOk made (λ lines. lines ≡ gen_lines feed (map (λ entry. entry.triple) entries)) → IfOk made (AreGenLines feed query)
gen_are feed query entries (Ok lines) exact covers are = record {
  triples = map (λ entry. entry.triple) entries;
  are_minimal = exact_triples feed query entries exact;
  covers = λ offered is_offered.
      any_map (λ triple. IsTrue (at_most triple offered)) (λ (entry : Entry). entry.triple) entries
      (covers offered is_offered);
  are_lines = are;
}
gen_are feed query entries (Err error) exact covers are = tt
