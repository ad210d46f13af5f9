-- From the causes to what can be answered.
use Rattle.std.proofs.Common.{◌≡◌, ℕ, List, Bool, true, false, Option, None, refl, ap, ◌∙◌, subst, ◌⊎◌, inl, inr}
use Rattle.std.specs.Prelude.{Some, Result, Ok, Err, IfSome}
use Rattle.feed_files.specs.FaultCounts.{Rose}
use Rattle.feed_files.specs.HeldFiles.{HeldFile, held}
use Rattle.commands.specs.Requests.{Request}
use Rattle.feed_files.specs.declared.names.FileName.{FileName}
use Rattle.commands.specs.declared.usage.UsageFault.{UsageFault}
use Rattle.folder_io.specs.FileReading.{Gives}
use Rattle.folder_io.specs.FolderCalls.{Contents, FolderState}
use Rattle.folder_io.specs.SinkCalls.{SinkState}
use Rattle.commands.specs.Commands.{read_command}
use Rattle.command_answers.specs.Due.{Task, task_for, due, IsDue}
use Rattle.plan_app.specs.Run.{asks_folder, writes_nothing, WhereRead, Explains, AnswersAll}
use Rattle.command_answers.specs.declared.refusal.Refusal.{Refusal}
use Rattle.command_answers.specs.declared.refusal.Refusal.TheVariants as refusal
use Rattle.command_answers.specs.declared.status.Status.{Status}
use Rattle.command_answers.specs.declared.status.Status.TheVariants as status

-- what is so of whatever contents a folder tells is so where it tells them
where_told : (holds : Option Contents) (fact : Contents → Type 0)
    → ((contents : Contents) → holds ≡ Some contents → fact contents) → IfSome holds fact
where_told None fact given = tt
where_told (Some contents) fact given = given contents refl

-- these may be the files that are asked about: where a folder is asked, no call of it failed, and it gives no others
abbrev MayBeAsked : Bool → FolderState → FolderState → (FileName → HeldFile) → Type 0
MayBeAsked asks folder later files =
    asks ≡ true
    → ¬ (Rose folder.faults later.faults) × ((other : FileName → HeldFile) → Gives folder other → other ≡ files)

-- what is so of all such files is so where they are read
where_read : (asks : Bool) (folder later : FolderState) (fact : (FileName → HeldFile) → Type 0)
    → ((files : FileName → HeldFile) → MayBeAsked asks folder later files → fact files)
    → WhereRead asks folder later fact
where_read true folder later fact so =
    where_told folder.source.contents (λ contents. ¬ (Rose folder.faults later.faults) → fact (held contents))
    (λ contents told no_read. so (held contents) (λ asked. (no_read, λ other gives. rw told at gives)))
where_read false folder later fact so = λ files. so files (λ asked. absurd cc)

-- over them the same is due as over those that the folder gave
same_due : (folder later : FolderState) (files other : FileName → HeldFile) (asked : Result Request UsageFault)
    → MayBeAsked (asks_folder asked) folder later files → Gives folder other
    → task_for other asked ≡ task_for files asked
same_due folder later files other (Ok (Request.Gen request)) may gives = refl
same_due folder later files other (Err fault) may gives = refl
same_due folder later files other (Ok (Request.Asks question)) may gives = rw ((may refl).1 other gives) refl

module _ (words : List (List ℕ)) (folder later : FolderState) (sink after : SinkState) (came : Status) where
  -- a task that is due over them is answered, or memory was wanting, where no write failed
  answered : (files : FileName → HeldFile) (task : Task) → MayBeAsked (asks_folder (read_command words)) folder later files
      → due files words ≡ Ok task → ¬ (Rose sink.faults after.faults) → Explains words folder later sink after came
      → (came ≡ status.Answered) ⊎ (came ≡ status.NoMemory)
  answered files task may is no_write (Explains.Whole lines over reads writes) =
      let same = same_due folder later files over.files (read_command words) may over.gives in
      inl (subst (λ task. IsDue task came lines) (same ∙ is) over.is_due).0
  answered files task may is no_write (Explains.Part told lines over reads writes late) =
      absurd (no_write writes.counts)
  answered files task may is no_write (Explains.Unread asks reads silent late) = absurd ((may asks).0 reads.counts)
  answered files task may is no_write (Explains.Unmade reads silent wanting) = inr wanting

  -- so what can be answered is, where nothing fails outside
  pub all_answered : Explains words folder later sink after came → AnswersAll words folder later sink after came
  all_answered why =
      where_read (asks_folder (read_command words)) folder later _
      (λ files may task is no_write. answered files task may is no_write why)

-- what is due is no answer that writes nothing
pub due_writes : (task : Result Task Refusal) (came : Status) (lines : List (List ℕ)) → IsDue task came lines
    → writes_nothing came ≡ false
due_writes (Ok task) came lines is = ap writes_nothing is.0
due_writes (Err (refusal.Usage fault)) came lines is = ap writes_nothing is.0
due_writes (Err (refusal.Feed fault)) came lines is = ap writes_nothing is.0
