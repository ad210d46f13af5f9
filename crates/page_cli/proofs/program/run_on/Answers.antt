use Rattle.std.proofs.Common.{◌≡◌, ◌∙◌, ap, subst, ℕ, List, Bool}
use Rattle.std.specs.Prelude.{Result, [], unwrap_or}
use Rattle.answer_page.specs.declared.showing.Shown.{Shown}
use Rattle.folder_io.specs.FolderCalls.{FolderSource, FolderState}
use Rattle.folder_io.specs.SinkCalls.{SinkState}
use Rattle.folder_io.specs.declared.reading.ReadError.{ReadError}
use Rattle.folder_io.specs.SystemFolder.{unread_folder}
use Rattle.page_cli.specs.Runs.{Comes}
use Rattle.page_cli.proofs.program.run_on.Goals as goal

moved : (words others : List (List ℕ)) (failed : Bool) (folder unread after : FolderState) (sink unwritten written : SinkState) (came : Result Shown ReadError)
    → words ≡ others → folder ≡ unread → sink ≡ unwritten → Comes words failed folder after sink written came
    → Comes others failed unread after unwritten written came
moved words others failed folder unread after sink unwritten written came same start begun comes =
    subst (λ (s : SinkState). Comes others failed unread after s written came) begun (
    subst (λ (f : FolderState). Comes others failed f after sink written came) start (
    subst (λ (w : List (List ℕ)). Comes w failed folder after sink written came) same comes))

pub returns-clause-ran : goal.returns-clause-ran
returns-clause-ran g c =
    let path = c.as_str.ensures.value ∙ c.in-Ok.ensures.path in
    record {
      path = ap (λ (source : FolderSource). unwrap_or source.path [])
          (c.show_text-came.ensures.source ∙ ap (λ (folder : FolderState). folder.source) (c.in-Ok-new.ensures ∙ ap unread_folder path));
      comes = moved _ _ _ _ _ _ _ _ _ _ c.in-Ok.ensures.words (c.in-Ok-new.ensures ∙ ap unread_folder path) c.new-output.ensures c.show_text-came.ensures.comes;
    }
