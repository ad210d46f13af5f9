-- What a line of an answer says, by its fields.
use Rattle.std.specs.Prelude.{ℕ, ◌+◌, ◌==◌, Bool, ◌&&◌, ◌||◌, if◌then◌else◌, List, length, Option, Some, None, option_map, is_some, pos, unsigned_abs, codes, bytes_eq}
use Rattle.std.specs.Option.{option_or}
use Rattle.feed_faults.specs.FieldGrammars.{int_value}
use Rattle.feed_rows.specs.RideWords.{start_value}
use Rattle.plain_laws.specs.Plain.{given, given_last, when}
use Rattle.answer_page.specs.Amounts.{amount_in}
use Rattle.line_cuts.specs.Cuts.{field, fields_in}
use Rattle.answer_page.specs.Stamps.{date_in, stamp_in}
use Rattle.answer_page.specs.declared.answer.AnswerLine.{AnswerLine}
use Rattle.answer_page.specs.declared.answer.AnswerLine.TheVariants as line
use Rattle.answer_page.specs.declared.answer.Fare.{Fare}
use Rattle.answer_page.specs.declared.answer.Fare.TheVariants as fare
use Rattle.answer_page.specs.declared.answer.Frame.{Frame}
use Rattle.answer_page.specs.declared.answer.Frame.TheVariants as frame
use Rattle.answer_page.specs.declared.answer.Head.{Head}
use Rattle.answer_page.specs.declared.answer.Ride.{Ride}
use Rattle.answer_page.specs.declared.answer.Rider.{Rider}
use Rattle.answer_page.specs.declared.answer.Step.{Step}
use Rattle.answer_page.specs.declared.answer.Step.TheVariants as step
use Rattle.answer_page.specs.declared.answer.Ticket.{Ticket}
use Rattle.answer_page.specs.declared.answer.Walk.{Walk}
use Rattle.answer_page.specs.declared.stamps.Stamp.{Stamp}

-- the line has this word, and so many fields with it
abbrev pub is_line : List (List ℕ) → List ℕ → ℕ → Bool
is_line fields word count = (length fields == count) && bytes_eq (field fields 0) word

-- a number of 32 bits
unfoldable pub number_in : List ℕ → Option ℕ
number_in text = given_last (int_value (pos 0) (pos 4_294_967_295) text) unsigned_abs

-- the head of an entry, of which the fields from a place on are arrival, rides, price and currency
unfoldable pub head_in : List (List ℕ) → ℕ → Option Stamp → Option Head
head_in fields place leave =
    given (stamp_in (field fields place)) (λ arrival.
    given (number_in (field fields (place + 1))) (λ rides.
    given_last (amount_in (field fields (place + 2))) (λ price.
    record { leave = leave; arrival = arrival; rides = rides; price = price; currency = field fields (place + 3) })))

-- the head of an entry of a range
unfoldable pub range_in : List (List ℕ) → Option Head
range_in fields = given (stamp_in (field fields 1)) (λ leave. head_in fields 2 (Some leave))

-- a walk
unfoldable pub walk_in : List (List ℕ) → Option Walk
walk_in fields =
    given_last (int_value (pos 0) (pos 4_294_967_295) (field fields 3)) (λ seconds.
    record { from = field fields 1; to = field fields 2; seconds = seconds })

-- the fields say which ride of its trip it is: its day, its start, and where it boards and alights
unfoldable pub is_run : List (List ℕ) → Bool
is_run fields =
    is_some (date_in (field fields 2)) && is_some (start_value (field fields 3))
    && is_some (number_in (field fields 4)) && is_some (number_in (field fields 5))

-- a ride
unfoldable pub ride_in : List (List ℕ) → Option Ride
ride_in fields =
    if is_run fields
    then given (stamp_in (field fields 7)) (λ departure.
    given_last (stamp_in (field fields 9)) (λ arrival.
    record {
      trip = field fields 1;
      from = field fields 6;
      departure = departure;
      to = field fields 8;
      arrival = arrival;
    }))
    else None

-- a rider
unfoldable pub rider_in : List (List ℕ) → Option Rider
rider_in fields =
    given (number_in (field fields 1)) (λ number.
    given_last (amount_in (field fields 3)) (λ sum.
    record { number = number; category = field fields 2; sum = sum }))

-- a ticket, of a rule's row
unfoldable pub ticket_in : List (List ℕ) → Option Ticket
ticket_in fields =
    given (number_in (field fields 1)) (λ number.
    given (number_in (field fields 3)) (λ rule.
    given_last (amount_in (field fields 7)) (λ amount.
    record { number = number; product = field fields 5; medium = field fields 6; amount = amount })))

-- the ticket of a leg, which is bought or included
unfoldable pub leg_in : List (List ℕ) → Option Fare
leg_in fields =
    given (ticket_in fields) (λ ticket.
    given (number_in (field fields 4)) (λ product.
    if bytes_eq (field fields 2) (codes "buy") then Some (fare.Bought ticket)
    else if bytes_eq (field fields 2) (codes "included") then Some (fare.Included ticket)
    else None))

-- the row of a product, or `-` for none
unfoldable pub is_product : List ℕ → Bool
is_product text = bytes_eq text (codes "-") || is_some (number_in text)

-- the ticket of a change, of whose three types it is one
unfoldable pub change_in : List (List ℕ) → Option Fare
change_in fields =
    given (ticket_in fields) (λ ticket.
    given (int_value (pos 0) (pos 2) (field fields 2)) (λ type.
    when (is_product (field fields 4)) (fare.Change ticket)))

-- a line of the way
unfoldable pub step_in : List (List ℕ) → Option Step
step_in fields =
    if is_line fields (codes "stay") 2 then Some (step.Stay (field fields 1))
    else if is_line fields (codes "walk") 4 then given_last (walk_in fields) step.Walk
    else if is_line fields (codes "ride") 10 then given_last (ride_in fields) step.Ride
    else None

-- a line of the tickets
unfoldable pub fare_in : List (List ℕ) → Option Fare
fare_in fields =
    if is_line fields (codes "rider") 4 then given_last (rider_in fields) fare.Rider
    else if is_line fields (codes "leg") 8 then leg_in fields
    else if is_line fields (codes "change") 8 then change_in fields
    else None

-- a line that stands in no way and among no tickets; the end of the text is one that is empty
unfoldable pub frame_in : List (List ℕ) → Option Frame
frame_in fields =
    if is_line fields (codes "journey") 5 then given_last (head_in fields 1 None) frame.Head
    else if is_line fields (codes "range") 6 then given_last (range_in fields) frame.Head
    else if is_line fields (codes "stats") 2 then given_last (number_in (field fields 1)) frame.Labels
    else if is_line fields (codes "") 1 then Some frame.End
    else None

-- what the fields of a line say
unfoldable pub line_of : List (List ℕ) → Option AnswerLine
line_of fields =
    option_or (option_map line.Step (step_in fields))
    (option_or (option_map line.Fare (fare_in fields)) (option_map line.Frame (frame_in fields)))

-- what a line says
abbrev pub line_in : List ℕ → Option AnswerLine
line_in text = line_of (fields_in text)
