-- The picture of all journeys by arrival and price.
use Rattle.std.specs.Prelude.{ℕ, List, [], ◌∷◌, ◌++◌, ℤ}
use Rattle.answer_page.specs.Html.{filled}
use Rattle.answer_page.specs.Scales.{rest_of, share_of, spread}
use Rattle.answer_page.specs.Stamps.{seconds_shown}
use Rattle.answer_page.specs.Threads.{numbered}
use Rattle.answer_page.specs.declared.answer.Entry.{Entry}
use Rattle.answer_page.specs.declared.answer.Head.{Head}
use Rattle.answer_page.specs.declared.markup.TheConstants.{CHART_END, CHART_START, MARK_END, MARK_LABEL, MARK_START}
use Rattle.answer_page.specs.declared.page.Value.TheVariants.{Number, Share, Text}
use Rattle.answer_page.specs.declared.scale.Scale.{Scale}

-- the arrival of a journey, and its price
abbrev pub arrival_at : Entry → ℤ
arrival_at entry = entry.head.arrival.at

abbrev pub price_units : Entry → ℤ
price_units entry = entry.head.price.units

abbrev pub arrivals : List Entry → Scale
arrivals entries = spread arrival_at arrival_at entries

abbrev pub prices : List Entry → Scale
prices entries = spread price_units price_units entries

-- the mark of the journey of this number, so far from the left and from above: its circle with its rides, its label, and what
-- its title says
abbrev pub start_html : ℕ → ℕ → ℕ → ℕ → List ℕ
start_html number left above rides =
    filled MARK_START.now
    (Number number ∷ Share left ∷ Share above ∷ Share left ∷ Share above ∷ Number rides ∷ [])

abbrev pub label_html : ℕ → ℕ → Head → List ℕ
label_html left above head =
    filled MARK_LABEL.now
    (Share left ∷ Share above ∷ Text head.arrival.minute ∷ Text (seconds_shown head.arrival.second) ∷ Text head.price.text
    ∷ [])

abbrev pub end_html : ℕ → Head → List ℕ
end_html number head =
    filled MARK_END.now
    (Number number ∷ Text head.arrival.date ∷ Text head.arrival.minute ∷ Text head.arrival.second ∷ Number head.rides
    ∷ Text head.price.text ∷ Text head.currency ∷ [])

unfoldable pub mark_html : ℕ → ℕ → ℕ → Head → List ℕ
mark_html number left above head =
    start_html number left above head.rides ++ label_html left above head ++ end_html number head

-- the later it arrives the farther right it stands, and the more it costs the higher
abbrev pub place_html : Scale → Scale → ℕ → Entry → List ℕ
place_html arrivals prices number entry =
    mark_html number (share_of arrivals (arrival_at entry)) (rest_of prices (price_units entry)) entry.head

unfoldable pub chart_html : List Entry → List ℕ
chart_html entries =
    filled CHART_START.now [] ++ numbered (place_html (arrivals entries) (prices entries)) 1 entries
    ++ filled CHART_END.now []
