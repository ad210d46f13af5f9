-- What showing a text as a page comes to.
use Rattle.std.specs.Prelude.{◌≡◌, ℕ, List, [], ◌∷◌, Ok, Err}
use Rattle.folder_io.specs.CallLogs.{Makes}
use Rattle.folder_io.specs.FolderCalls.{CountsFault}
use Rattle.folder_io.specs.SinkCalls.{SinkState, Writes, is_failed_write}
use Rattle.folder_io.specs.declared.sink.Wrote.{Wrote}
use Rattle.folder_io.specs.declared.sink.Wrote.TheVariants as wrote
use Rattle.answer_page.specs.OwnMarkup.{IsOwnMarkup}
use Rattle.answer_page.specs.Pages.{page_html}
use Rattle.answer_page.specs.Readings.{read_answer}
use Rattle.answer_page.specs.declared.answer.Answer.{Answer}
use Rattle.answer_page.specs.declared.names.Names.{Names}
use Rattle.answer_page.specs.declared.showing.Shown.{Shown}
use Rattle.answer_page.specs.declared.showing.Shown.TheVariants as shown

-- the text is that of an answer, and its page was to be written by one write, which answered this
pub record WritesPage (text : List ℕ) (words : List (List ℕ)) (names : Names) (sink after : SinkState) (wrote : Wrote) : Type 0 where
  pub answer : Answer
  pub is_read : read_answer text ≡ Ok answer
  pub own : IsOwnMarkup (page_html words names answer)
  pub counts : CountsFault (is_failed_write wrote) sink.faults after.faults
  pub failed : after.failed ≡ is_failed_write wrote
  pub written : Writes sink.written after.written (page_html words names answer) wrote
  pub writes : Makes sink.writes (page_html words names answer ∷ []) after.writes

-- what was shown, and why
abbrev pub Explains : List ℕ → List (List ℕ) → Names → SinkState → SinkState → Shown → Type 0
Explains text words names sink after shown.Whole = WritesPage text words names sink after wrote.All
Explains text words names sink after shown.WriteFault = WritesPage text words names sink after wrote.Failed
Explains text words names sink after (shown.Refused line) = (read_answer text ≡ Err line) × (after ≡ sink)
Explains text words names sink after shown.NoMemory = after ≡ sink
