-- A text read as an answer, line by line.
use Rattle.std.specs.Prelude.{◌≡◌, ℕ, ◌+◌, ◌==◌, Bool, true, false, ◌&&◌, ◌||◌, not, is_some, if◌then◌else◌, List, [], ◌∷◌, ◌++◌, length, count_by, fold, slice_get, ◌-◌, Option, Some, None, Result, Ok, Err, ℤ, pos, ◌+ℤ◌}
use Rattle.std.specs.Option.{option_map_or}
use Rattle.plain_laws.specs.Plain.{given, when, int_same}
use Rattle.answer_page.specs.AnswerLines.{line_in}
use Rattle.line_cuts.specs.Cuts.{line_parts}
use Rattle.answer_page.specs.declared.answer.Answer.{Answer}
use Rattle.answer_page.specs.declared.answer.AnswerLine.{AnswerLine}
use Rattle.answer_page.specs.declared.answer.AnswerLine.TheVariants as line
use Rattle.answer_page.specs.declared.answer.Entry.{Entry}
use Rattle.answer_page.specs.declared.answer.Fare.{Fare}
use Rattle.answer_page.specs.declared.answer.Fare.TheVariants as fare
use Rattle.answer_page.specs.declared.answer.Frame.{Frame}
use Rattle.answer_page.specs.declared.answer.Frame.TheVariants as frame
use Rattle.answer_page.specs.declared.answer.Head.{Head}
use Rattle.answer_page.specs.declared.answer.Step.{Step}
use Rattle.answer_page.specs.declared.answer.Step.TheVariants as step
use Rattle.answer_page.specs.declared.reading.Reading.{Reading}
use Rattle.answer_page.specs.declared.reading.ReadingError.{ReadingError}
use Rattle.answer_page.specs.declared.reading.ReadingError.TheVariants as error

-- ---- the way of an entry

abbrev pub is_ride : Step → Bool
is_ride (step.Stay stop) = false
is_ride (step.Walk walk) = false
is_ride (step.Ride ride) = true

abbrev pub is_stay : Step → Bool
is_stay (step.Stay stop) = true
is_stay (step.Walk walk) = false
is_stay (step.Ride ride) = false

-- how many rides there are among the steps
abbrev pub rides_in : List Step → ℕ
rides_in steps = count_by is_ride steps

-- a part of the way may stand behind another: nothing behind a stay, and no walk behind a walk
abbrev pub follows_step : Step → Step → Bool
follows_step (step.Stay stop) next = false
follows_step (step.Walk walk) next = is_ride next
follows_step (step.Ride ride) next = not (is_stay next)

-- it may stand behind these
abbrev pub fits_steps : List Step → Step → Bool
fits_steps steps next = option_map_or (λ last. follows_step last next) (slice_get steps (length steps - 1)) true

-- ---- its tickets

-- what a line of the tickets adds to the price
abbrev pub fare_units : Fare → ℤ
fare_units (fare.Rider rider) = pos 0
fare_units (fare.Bought ticket) = ticket.amount.units
fare_units (fare.Included ticket) = ticket.amount.units
fare_units (fare.Change ticket) = ticket.amount.units

-- what all tickets cost
abbrev pub fares_sum : List Fare → ℤ
fares_sum fares = fold (λ sum next. sum +ℤ fare_units next) (pos 0) fares

abbrev pub is_rider : Fare → Bool
is_rider (fare.Rider rider) = true
is_rider (fare.Bought ticket) = false
is_rider (fare.Included ticket) = false
is_rider (fare.Change ticket) = false

abbrev pub is_change : Fare → Bool
is_change (fare.Rider rider) = false
is_change (fare.Bought ticket) = false
is_change (fare.Included ticket) = false
is_change (fare.Change ticket) = true

-- how many riders there are among the tickets
abbrev pub riders_in : List Fare → ℕ
riders_in fares = count_by is_rider fares

-- the number of the leg, or of the leg before the change; 0 of a rider, since the legs of each count from 1
abbrev pub leg_number : Fare → ℕ
leg_number (fare.Rider rider) = 0
leg_number (fare.Bought ticket) = ticket.number
leg_number (fare.Included ticket) = ticket.number
leg_number (fare.Change ticket) = ticket.number

-- the number of the last leg, if there is one
abbrev pub last_leg : List Fare → ℕ
last_leg fares = option_map_or leg_number (slice_get fares (length fares - 1)) 0

-- the last line is that of a change, behind which a leg must stand
abbrev pub is_changing : List Fare → Bool
is_changing fares = option_map_or is_change (slice_get fares (length fares - 1)) false

-- a line of the tickets may stand behind these: riders and legs count from 1, and a change stands between its leg and the next
abbrev pub fits_fares : List Fare → Fare → Bool
fits_fares fares (fare.Rider rider) = not (is_changing fares) && (rider.number == riders_in fares + 1)
fits_fares fares (fare.Bought ticket) = ticket.number == last_leg fares + 1
fits_fares fares (fare.Included ticket) = ticket.number == last_leg fares + 1
fits_fares fares (fare.Change ticket) =
    not (is_changing fares) && (ticket.number == last_leg fares) && not (ticket.number == 0)

-- ---- entries

-- the head alone is read
abbrev pub begun : Head → Entry
begun head = record { head = head; steps = []; fares = [] }

-- all rides are read that the head tells
abbrev pub has_rides : Entry → Bool
has_rides entry = rides_in entry.steps == entry.head.rides

-- all lines are read: there is a way with as many rides as the head tells, and the tickets cost the price
unfoldable pub is_whole : Entry → Bool
is_whole entry =
    not (length entry.steps == 0) && has_rides entry && not (is_changing entry.fares)
    && int_same (fares_sum entry.fares) entry.head.price.units

-- the entry with a part of the way more, where it may stand there: before all tickets
unfoldable pub with_step : Entry → Step → Option Entry
with_step entry next =
    when ((length entry.fares == 0) && fits_steps entry.steps next)
    (record { head = entry.head; steps = entry.steps ++ next ∷ []; fares = entry.fares })

-- the entry with a line of the tickets more, where it may stand there: behind all rides
unfoldable pub with_fare : Entry → Fare → Option Entry
with_fare entry next =
    when (has_rides entry && fits_fares entry.fares next)
    (record { head = entry.head; steps = entry.steps; fares = entry.fares ++ next ∷ [] })

-- ---- texts

-- before any line
abbrev pub start : Reading
start = record { entries = []; current = None; labels = None; ended = false }

-- the entry that is being read is another
abbrev pub opened : Reading → Entry → Reading
opened reading entry = record reading { current = Some entry }

-- the entry that is being read is closed, if there is one, where all its lines are read
abbrev pub closed_with : Reading → Option Entry → Option Reading
closed_with reading None = Some reading
closed_with reading (Some entry) =
    when (is_whole entry)
    (record { entries = reading.entries ++ entry ∷ []; current = None; labels = reading.labels; ended = reading.ended })

unfoldable pub closed : Reading → Option Reading
closed reading = closed_with reading reading.current

-- what stands in no entry is taken
abbrev pub with_frame : Reading → Frame → Reading
with_frame reading (frame.Head head) = opened reading (begun head)
with_frame reading (frame.Labels labels) =
    record { entries = reading.entries; current = reading.current; labels = Some labels; ended = reading.ended }
with_frame reading frame.End =
    record { entries = reading.entries; current = reading.current; labels = reading.labels; ended = true }

unfoldable pub framed : Reading → Frame → Option Reading
framed reading next = given (closed reading) (λ before. Some (with_frame before next))

abbrev pub is_end : AnswerLine → Bool
is_end (line.Frame frame.End) = true
is_end (line.Frame (frame.Head head)) = false
is_end (line.Frame (frame.Labels labels)) = false
is_end (line.Step next) = false
is_end (line.Fare next) = false

-- what a line says is taken
abbrev pub taken : Reading → AnswerLine → Option Reading
taken reading (line.Frame next) = framed reading next
taken reading (line.Step next) = given reading.current (λ entry. given (with_step entry next) (λ more. Some (opened reading more)))
taken reading (line.Fare next) = given reading.current (λ entry. given (with_fare entry next) (λ more. Some (opened reading more)))

-- nothing stands behind the end, and the end alone behind what the search kept
unfoldable pub told : Reading → AnswerLine → Option Reading
told reading next =
    if reading.ended || (is_some reading.labels && not (is_end next)) then None else taken reading next

-- a line is read
unfoldable pub read_line : Reading → List ℕ → Option Reading
read_line reading text = given (line_in text) (told reading)

-- what is read
abbrev pub answer_of : Reading → Answer
answer_of reading = record { entries = reading.entries; labels = reading.labels }

-- the answer whose text has these parts behind so many others, by what those told; or the number of the first that tells none,
-- or of the last one, where the text doesn't end with a line feed
unfoldable pub read_parts : Reading → ℕ → List (List ℕ) → Result Answer ℕ
read_parts reading number [] = if reading.ended then Ok (answer_of reading) else Err number
read_parts reading number (part ∷ parts) =
    option_map_or (λ next. read_parts next (number + 1) parts) (read_line reading part) (Err (number + 1))

-- the answer whose text this is, or the number of the first line that isn't one of an answer
unfoldable pub read_answer : List ℕ → Result Answer ℕ
read_answer text = read_parts start 0 (line_parts text)

-- the text is refused at this line; nothing is said where memory is wanting
abbrev pub IsRefusal : Result Answer ℕ → ReadingError → Type 0
IsRefusal read (error.Line number) = read ≡ Err number
IsRefusal read error.NoMemory = Unit {0}
