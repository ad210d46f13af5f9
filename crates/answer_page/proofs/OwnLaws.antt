-- Pages that are made of the program's own markup: what is joined of such, and each part of the page of an answer.
use Rattle.std.proofs.Common.{◌≡◌, refl, sym, ◌∙◌, ap, ℕ, ◌<◌, List, [], ◌∷◌, ◌++◌, length, get_or, Bool, true, false, if◌then◌else◌, Option, Some, None, arith}
use Rattle.std.specs.Prelude.{nat_lt, ◌==◌, ◌/◌, ◌%◌, ℤ, pos, ◌-ℤ◌, int_lt, int_le, unsigned_abs}
use Rattle.std.specs.List.{All, Contains, flat_map}
use Rattle.std.proofs.lemmas.List.{append-nil}
use Rattle.std.proofs.lemmas.List.Concat.{flat_map-append}
use Rattle.std.proofs.lemmas.List.Elements.{All-nil, All-cons, All-append, Contains-get_or}
use Rattle.std.proofs.lemmas.Bool.Decides.{nat_tests}
use Rattle.plain_laws.specs.Plain.{int_same}
use Rattle.answer_page.specs.Charts.{start_html as mark_start_html, label_html, end_html as mark_end_html, mark_html, place_html, chart_html, arrivals, prices, arrival_at, price_units}
use Rattle.answer_page.specs.Html.{filled, markup_of}
use Rattle.answer_page.specs.Journeys.{leave_html, start_html, end_html, head_html, journey_html}
use Rattle.answer_page.specs.LineNames.{line_colour, line_name, stop_name}
use Rattle.answer_page.specs.OwnMarkup.{templates, Piece, piece_html, IsOwnMarkup}
use Rattle.answer_page.specs.Pages.{word_html, question_html, page_date, times, journeys_html, labels_html, page_html}
use Rattle.answer_page.specs.Scales.{share_of, rest_of}
use Rattle.answer_page.specs.Stamps.{time_html}
use Rattle.answer_page.specs.Threads.{threaded}
use Rattle.answer_page.specs.Tickets.{change_template, fare_html, tickets_html}
use Rattle.answer_page.specs.Ways.{leave_at, end_of, bar_html, bars_html, wait_html, ride_html, step_html, way_html}
use Rattle.answer_page.specs.declared.answer.Answer.{Answer}
use Rattle.answer_page.specs.declared.answer.Entry.{Entry}
use Rattle.answer_page.specs.declared.answer.Fare.{Fare}
use Rattle.answer_page.specs.declared.answer.Fare.TheVariants as fare
use Rattle.answer_page.specs.declared.answer.Head.{Head}
use Rattle.answer_page.specs.declared.answer.Ride.{Ride}
use Rattle.answer_page.specs.declared.answer.Step.{Step}
use Rattle.answer_page.specs.declared.answer.Step.TheVariants as step
use Rattle.answer_page.specs.declared.markup.TheConstants.{FREE_CHANGE, PAID_CHANGE, REDUCED}
use Rattle.answer_page.specs.declared.names.Names.{Names}
use Rattle.answer_page.specs.declared.page.Value.{Value}
use Rattle.answer_page.specs.declared.page.Value.TheVariants.{Number, Share, Text}
use Rattle.answer_page.specs.declared.scale.Scale.{Scale}
use Rattle.answer_page.specs.declared.stamps.Stamp.{Stamp}
use Rattle.answer_page.proofs.MarkupLaws.{value_inert, pieces_markup}

-- ---- what is joined of such

of_pieces : (page : List ℕ) (pieces : List Piece) → page ≡ flat_map piece_html pieces
    → All (λ piece. Contains templates piece.template) pieces → IsOwnMarkup page
of_pieces page pieces joined own =
    record {
      pieces = pieces;
      joined = joined;
      own = own;
      inert = λ k d _ j e _. value_inert (get_or (get_or pieces k d).values j e);
      markup = ap markup_of joined ∙ pieces_markup pieces;
    }

none : IsOwnMarkup []
none = of_pieces [] [] refl (All-nil (λ (piece : Piece). Contains templates piece.template))

both : {a b : List ℕ} → IsOwnMarkup a → IsOwnMarkup b → IsOwnMarkup (a ++ b)
both {a} {b} first second =
    of_pieces (a ++ b) (first.pieces ++ second.pieces)
    (rw (first.joined, second.joined) (sym (flat_map-append piece_html first.pieces second.pieces)))
    (All-append (λ (piece : Piece). Contains templates piece.template) first.pieces second.pieces first.own second.own)

-- the template at a place of the list, filled
template : (k : ℕ) (values : List Value) → nat_lt k 38 ≡ true → IsOwnMarkup (filled (get_or templates k []) values)
template k values inside =
    let within : k < length templates = grind (arith, nat_tests, inside) in
    let piece : Piece = record { template = get_or templates k []; values = values } in
    of_pieces (filled (get_or templates k []) values) (piece ∷ []) (sym (append-nil (piece_html piece)))
    (All-cons (λ (piece : Piece). Contains templates piece.template) piece [] (Contains-get_or templates k [] within)
    (All-nil (λ (piece : Piece). Contains templates piece.template)))

-- the same without values
plain : (k : ℕ) → nat_lt k 38 ≡ true → IsOwnMarkup (filled (get_or templates k []) [])
plain k inside = template k [] inside

either : {a b : List ℕ} (test : Bool) → IsOwnMarkup a → IsOwnMarkup b → IsOwnMarkup (if test then a else b)
either true a b = a
either false a b = b

each : {X : Type 0} (f : X → List ℕ) → ((x : X) → IsOwnMarkup (f x)) → (xs : List X) → IsOwnMarkup (flat_map f xs)
each f own [] = none
each f own (x ∷ xs) = both (own x) (each f own xs)

along : {S X : Type 0} (f : S → X → List ℕ) (next : S → X → S) → ((s : S) (x : X) → IsOwnMarkup (f s x)) → (s : S) (xs : List X)
    → IsOwnMarkup (threaded f next s xs)
unfolding threaded
along f next own s [] = none
along f next own s (x ∷ xs) = both (own s x) (along f next own (next s x) xs)

-- ---- the parts of the page

time_own : (stamp : Stamp) (date : List ℕ) → IsOwnMarkup (time_html stamp date)
time_own stamp date = template 19 _ refl

-- the tickets

change_own : (units : ℤ) (values : List Value) → IsOwnMarkup (filled (change_template units) values)
change_own units values = by (int_lt units (pos 0)) (int_same units (pos 0))
  where
    by : (less same : Bool) → IsOwnMarkup (filled (if less then REDUCED.now else if same then FREE_CHANGE.now else PAID_CHANGE.now) values)
    by true same = template 31 values refl
    by false true = template 32 values refl
    by false false = template 33 values refl

fare_own : (currency : List ℕ) (line : Fare) → IsOwnMarkup (fare_html currency line)
fare_own currency (fare.Rider rider) = template 28 _ refl
fare_own currency (fare.Bought ticket) = template 29 _ refl
fare_own currency (fare.Included ticket) = template 30 _ refl
fare_own currency (fare.Change ticket) = change_own ticket.amount.units _

tickets_own : (entry : Entry) → IsOwnMarkup (tickets_html entry)
unfolding tickets_html
tickets_own entry =
    either (length entry.fares == 0) none
    (both (both (plain 27 refl) (each (fare_html entry.head.currency) (fare_own entry.head.currency) entry.fares))
    (template 34 (Text entry.head.price.text ∷ Text entry.head.currency ∷ []) refl))

-- the way

bar_own : (names : Names) (times : Scale) (at : ℤ) (part : Step) → IsOwnMarkup (bar_html names times at part)
bar_own names scale at (step.Stay stop) = none
bar_own names scale at (step.Walk walk) = template 16 _ refl
bar_own names scale at (step.Ride ride) = template 17 _ refl

bars_own : (names : Names) (times : Scale) (number : ℕ) (entry : Entry) → IsOwnMarkup (bars_html names times number entry)
unfolding bars_html
bars_own names scale number entry =
    both
    (both
    (template 15 (Number number ∷ Share (share_of scale (leave_at entry)) ∷ Share (share_of scale entry.head.arrival.at) ∷ []) refl)
    (along (bar_html names scale) end_of (bar_own names scale) (leave_at entry) entry.steps))
    (plain 18 refl)

ride_own : (names : Names) (date : List ℕ) (ride : Ride) → IsOwnMarkup (ride_html names date ride)
unfolding ride_html
ride_own names date ride =
    both
    (both
    (both
    (both (template 23 (Text (line_colour names ride.trip) ∷ Text (line_name names ride.trip) ∷ []) refl) (time_own ride.departure date))
    (template 24 (Text (stop_name names ride.from) ∷ []) refl))
    (time_own ride.arrival date))
    (template 25 (Text (stop_name names ride.to) ∷ Text ride.trip ∷ []) refl)

wait_own : (from to : ℤ) → IsOwnMarkup (wait_html from to)
wait_own from to = either (int_le to from) none
    (template 22 (Number (unsigned_abs (to -ℤ from) / 60) ∷ Number (unsigned_abs (to -ℤ from) % 60)
    ∷ Number (unsigned_abs (to -ℤ from) % 60) ∷ []) refl)

step_own : (names : Names) (date : List ℕ) (at : ℤ) (part : Step) → IsOwnMarkup (step_html names date at part)
step_own names date at (step.Stay stop) = template 20 _ refl
step_own names date at (step.Walk walk) = template 21 _ refl
step_own names date at (step.Ride ride) =
    both (wait_own at ride.departure.at) (ride_own names date ride)

way_own : (names : Names) (date : List ℕ) (entry : Entry) → IsOwnMarkup (way_html names date entry)
unfolding way_html
way_own names date entry =
    both (along (step_html names date) end_of (step_own names date) (leave_at entry) entry.steps) (plain 26 refl)

-- a journey

leave_own : (date : List ℕ) (leave : Option Stamp) → IsOwnMarkup (leave_html date leave)
leave_own date None = none
leave_own date (Some leave) = both (both (plain 11 refl) (time_own leave date)) (plain 12 refl)

start_own : (number : ℕ) → IsOwnMarkup (start_html number)
start_own number = template 10 _ refl

end_own : (head : Head) → IsOwnMarkup (end_html head)
end_own head = template 14 _ refl

head_own : (date : List ℕ) (number : ℕ) (head : Head) → IsOwnMarkup (head_html date number head)
unfolding head_html
head_own date number head =
    both (both (both (both (start_own number) (leave_own date head.leave)) (plain 13 refl)) (time_own head.arrival date)) (end_own head)

journey_own : (names : Names) (date : List ℕ) (times : Scale) (number : ℕ) (entry : Entry)
    → IsOwnMarkup (journey_html names date times number entry)
unfolding journey_html
journey_own names date scale number entry =
    both
    (both (both (both (head_own date number entry.head) (bars_own names scale number entry)) (way_own names date entry)) (tickets_own entry))
    (plain 35 refl)

-- the picture

mark_start_own : (number left above rides : ℕ) → IsOwnMarkup (mark_start_html number left above rides)
mark_start_own number left above rides = template 6 _ refl

label_own : (left above : ℕ) (head : Head) → IsOwnMarkup (label_html left above head)
label_own left above head = template 7 _ refl

mark_end_own : (number : ℕ) (head : Head) → IsOwnMarkup (mark_end_html number head)
mark_end_own number head = template 8 _ refl

mark_own : (number left above : ℕ) (head : Head) → IsOwnMarkup (mark_html number left above head)
unfolding mark_html
mark_own number left above head =
    both (both (mark_start_own number left above head.rides) (label_own left above head)) (mark_end_own number head)

place_own : (across up : Scale) (number : ℕ) (entry : Entry) → IsOwnMarkup (place_html across up number entry)
place_own across up number entry = mark_own number (share_of across (arrival_at entry)) (rest_of up (price_units entry)) entry.head

chart_own : (entries : List Entry) → IsOwnMarkup (chart_html entries)
unfolding chart_html
chart_own entries =
    both (both (plain 5 refl) (along (place_html (arrivals entries) (prices entries)) _ (place_own (arrivals entries) (prices entries)) 1 entries)) (plain 9 refl)

-- the page

word_own : (word : List ℕ) → IsOwnMarkup (word_html word)
word_own word = template 1 _ refl

question_own : (words : List (List ℕ)) → IsOwnMarkup (question_html words)
unfolding question_html
question_own words = both (each word_html word_own words) (plain 2 refl)

journeys_own : (names : Names) (entries : List Entry) → IsOwnMarkup (journeys_html names entries)
unfolding journeys_html
journeys_own names entries =
    either (length entries == 0) (plain 3 refl)
    (both (both (template 4 (Text (page_date entries) ∷ Text (page_date entries) ∷ []) refl) (chart_own entries))
    (along (journey_html names (page_date entries) (times entries)) _ (journey_own names (page_date entries) (times entries)) 1 entries))

labels_own : (labels : Option ℕ) → IsOwnMarkup (labels_html labels)
labels_own None = none
labels_own (Some labels) = template 36 _ refl

pub page_own : (words : List (List ℕ)) (names : Names) (answer : Answer) → IsOwnMarkup (page_html words names answer)
unfolding page_html
page_own words names answer =
    both (both (both (both (plain 0 refl) (question_own words)) (journeys_own names answer.entries)) (labels_own answer.labels)) (plain 37 refl)
