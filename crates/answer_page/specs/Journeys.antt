-- A journey on a page.
use Rattle.std.specs.Prelude.{ℕ, List, [], ◌∷◌, ◌++◌, Option, Some, None, slice_get, ◌+◌}
use Rattle.std.specs.Option.{option_map_or}
use Rattle.answer_page.specs.Html.{filled}
use Rattle.answer_page.specs.Stamps.{time_html}
use Rattle.answer_page.specs.Tickets.{tickets_html}
use Rattle.answer_page.specs.Ways.{bars_html, way_html}
use Rattle.answer_page.specs.declared.answer.Entry.{Entry}
use Rattle.answer_page.specs.declared.answer.Head.{Head}
use Rattle.answer_page.specs.declared.markup.TheConstants.{ALSO, ARRIVES, HEAD_END, JOURNEY_END, JOURNEY_START, LEAVES}
use Rattle.answer_page.specs.declared.names.Names.{Names}
use Rattle.answer_page.specs.declared.page.Value.TheVariants.{Number, Text}
use Rattle.answer_page.specs.declared.scale.Scale.{Scale}
use Rattle.answer_page.specs.declared.stamps.Stamp.{Stamp}

-- when one leaves, where that is told
abbrev pub leave_html : List ℕ → Option Stamp → List ℕ
leave_html date None = []
leave_html date (Some leave) = filled LEAVES.now [] ++ time_html leave date ++ filled ALSO.now []

abbrev pub start_html : ℕ → List ℕ
start_html number = filled JOURNEY_START.now (Number number ∷ Number number ∷ Number number ∷ Number number ∷ [])

-- the rides and the price
abbrev pub end_html : Head → List ℕ
end_html head = filled HEAD_END.now (Number head.rides ∷ Text head.price.text ∷ Text head.currency ∷ [])

-- the head of a journey, which is the one of this number
unfoldable pub head_html : List ℕ → ℕ → Head → List ℕ
head_html date number head =
    start_html number ++ leave_html date head.leave ++ filled ARRIVES.now [] ++ time_html head.arrival date ++ end_html head

-- a journey
unfoldable pub journey_html : Names → List ℕ → Scale → ℕ → Entry → List ℕ
journey_html names date times number entry =
    head_html date number entry.head ++ bars_html names times number entry ++ way_html names date entry
    ++ tickets_html entry ++ filled JOURNEY_END.now []

-- the journey at a place, whose number counts from 1; nothing where there is none
abbrev pub journey_at : Names → List ℕ → Scale → List Entry → ℕ → List ℕ
journey_at names date times entries place = option_map_or (journey_html names date times (place + 1)) (slice_get entries place) []
