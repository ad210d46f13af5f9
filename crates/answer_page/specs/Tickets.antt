-- The tickets of a journey on a page.
use Rattle.std.specs.Prelude.{ℕ, ◌==◌, if◌then◌else◌, List, [], ◌∷◌, ◌++◌, length, ℤ, pos, int_lt}
use Rattle.std.specs.List.{flat_map}
use Rattle.plain_laws.specs.Plain.{int_same}
use Rattle.answer_page.specs.Html.{filled}
use Rattle.answer_page.specs.declared.answer.Entry.{Entry}
use Rattle.answer_page.specs.declared.answer.Fare.{Fare}
use Rattle.answer_page.specs.declared.answer.Fare.TheVariants as fare
use Rattle.answer_page.specs.declared.answer.Rider.{Rider}
use Rattle.answer_page.specs.declared.answer.Ticket.{Ticket}
use Rattle.answer_page.specs.declared.markup.TheConstants.{BOUGHT, FREE_CHANGE, INCLUDED, PAID_CHANGE, REDUCED, RIDER, TICKETS_END, TICKETS_START}
use Rattle.answer_page.specs.declared.page.Value.TheVariants.{Number, Text}

-- the template of a change, by what it costs
abbrev pub change_template : ℤ → List ℕ
change_template units =
    if int_lt units (pos 0) then REDUCED.now else if int_same units (pos 0) then FREE_CHANGE.now else PAID_CHANGE.now

-- a ticket, by its template
abbrev pub ticket_html : List ℕ → List ℕ → Ticket → List ℕ
ticket_html template currency ticket =
    filled template
    (Number ticket.number ∷ Text ticket.product ∷ Text ticket.medium ∷ Text ticket.amount.text ∷ Text currency ∷ [])

-- whose tickets follow
abbrev pub rider_html : List ℕ → Rider → List ℕ
rider_html currency rider =
    filled RIDER.now (Number rider.number ∷ Text rider.category ∷ Text rider.sum.text ∷ Text currency ∷ [])

-- a line of the tickets
abbrev pub fare_html : List ℕ → Fare → List ℕ
fare_html currency (fare.Rider rider) = rider_html currency rider
fare_html currency (fare.Bought ticket) = ticket_html BOUGHT.now currency ticket
fare_html currency (fare.Included ticket) = ticket_html INCLUDED.now currency ticket
fare_html currency (fare.Change ticket) = ticket_html (change_template ticket.amount.units) currency ticket

-- the tickets of a journey and their sum, where it has any
unfoldable pub tickets_html : Entry → List ℕ
tickets_html entry =
    if length entry.fares == 0 then []
    else filled TICKETS_START.now [] ++ flat_map (fare_html entry.head.currency) entry.fares
    ++ filled TICKETS_END.now (Text entry.head.price.text ∷ Text entry.head.currency ∷ [])
