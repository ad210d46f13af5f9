-- The page of an answer.
use Rattle.std.specs.Prelude.{ℕ, ◌==◌, if◌then◌else◌, List, [], ◌∷◌, ◌++◌, length, Option, Some, None, slice_get}
use Rattle.std.specs.List.{flat_map}
use Rattle.answer_page.specs.Charts.{arrival_at, chart_html}
use Rattle.answer_page.specs.Html.{filled}
use Rattle.answer_page.specs.Journeys.{journey_html}
use Rattle.answer_page.specs.Scales.{spread}
use Rattle.answer_page.specs.Threads.{numbered}
use Rattle.answer_page.specs.Ways.{leave_at}
use Rattle.answer_page.specs.declared.answer.Answer.{Answer}
use Rattle.answer_page.specs.declared.answer.Entry.{Entry}
use Rattle.answer_page.specs.declared.answer.Head.{Head}
use Rattle.answer_page.specs.declared.answer.Step.{Step}
use Rattle.answer_page.specs.declared.answer.Step.TheVariants as step
use Rattle.answer_page.specs.declared.markup.TheConstants.{DAY, LABELS, NO_JOURNEY, PAGE_END, PAGE_START, QUESTION_END, WORD}
use Rattle.answer_page.specs.declared.names.Names.{Names}
use Rattle.answer_page.specs.declared.page.Value.TheVariants.{Number, Text}
use Rattle.answer_page.specs.declared.scale.Scale.{Scale}

-- the words of the question
abbrev pub word_html : List ℕ → List ℕ
word_html word = filled WORD.now (Text word ∷ [])

unfoldable pub question_html : List (List ℕ) → List ℕ
question_html words = flat_map word_html words ++ filled QUESTION_END.now []

-- the date of a journey: that of its first ride, where it begins with one, and else of its arrival
abbrev pub date_by : Option Step → Head → List ℕ
date_by (Some (step.Ride ride)) head = ride.departure.date
date_by (Some (step.Walk walk)) head = head.arrival.date
date_by (Some (step.Stay stop)) head = head.arrival.date
date_by None head = head.arrival.date

abbrev pub date_of : Entry → List ℕ
date_of entry = date_by (slice_get entry.steps 0) entry.head

-- the date of the page: that of its first journey
abbrev pub page_date : List Entry → List ℕ
page_date [] = []
page_date (entry ∷ entries) = date_of entry

-- from the first leave to the last arrival
abbrev pub times : List Entry → Scale
times entries = spread leave_at arrival_at entries

-- the journeys, behind their picture
unfoldable pub journeys_html : Names → List Entry → List ℕ
journeys_html names entries =
    if length entries == 0 then filled NO_JOURNEY.now []
    else filled DAY.now (Text (page_date entries) ∷ Text (page_date entries) ∷ []) ++ chart_html entries
    ++ numbered (journey_html names (page_date entries) (times entries)) 1 entries

-- how many partial journeys the search kept, where that is told
abbrev pub labels_html : Option ℕ → List ℕ
labels_html None = []
labels_html (Some labels) = filled LABELS.now (Number labels ∷ [])

-- the page of an answer to a question, with these names
unfoldable pub page_html : List (List ℕ) → Names → Answer → List ℕ
page_html words names answer =
    filled PAGE_START.now [] ++ question_html words ++ journeys_html names answer.entries ++ labels_html answer.labels
    ++ filled PAGE_END.now []
