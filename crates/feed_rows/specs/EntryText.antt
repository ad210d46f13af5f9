-- The printed text of an answer. Each line ends with one line feed, and a tab stands between two fields. What speaks of
-- a row that the feed lacks prints no line.
use Rattle.std.specs.Prelude.{ℕ, zero, suc, ◌+◌, Bool, ◌==◌, if◌then◌else◌, List, [], ◌∷◌, ◌++◌, length, slice_get, Option, Some, None, ℤ, pos, negsuc, ◌+ℤ◌, unwrap_or, option_map, codes, decimal}
use Rattle.std.specs.Option.{option_map_or, option_to_list}
use Rattle.std.specs.List.{concat, flat_map}
use Rattle.transit_base.specs.DateTexts.{date_text, moment_text, time_text}
use Rattle.transit_base.specs.declared.numbers.StopId.{StopId}
use Rattle.transit_base.specs.declared.numbers.ProductRowId.{ProductRowId}
use Rattle.feed_rows.specs.declared.rows.ProductRow.{ProductRow}
use Rattle.feed_rows.specs.declared.journeys.Ride.{Ride}
use Rattle.feed_rows.specs.declared.journeys.RideFacts.{RideFacts}
use Rattle.feed_rows.specs.declared.journeys.Call.{Call}
use Rattle.feed_rows.specs.declared.journeys.Journey.{Journey}
use Rattle.feed_rows.specs.declared.fares.LegChoice.{LegChoice}
use Rattle.feed_rows.specs.declared.fares.ChangeChoice.{ChangeChoice}
use Rattle.feed_rows.specs.declared.fares.Choice.{Choice}
use Rattle.feed_rows.specs.declared.fares.Triple.{Triple}
use Rattle.feed_rows.specs.declared.fares.Entry.{Entry}
use Rattle.feed_rows.specs.FeedRows.{FeedRows}
use Rattle.feed_rows.specs.Calls.{calls_of, first_departure}
use Rattle.feed_rows.specs.Shifts.{has_frequencies}
use Rattle.feed_rows.specs.StopLinks.{link}
use Rattle.feed_rows.specs.Journeys.{facts_at}
use Rattle.feed_rows.specs.FareSums.{amount_of, is_charged, transfer_kind}
use Rattle.feed_rows.specs.Lines.{line}
use Rattle.feed_rows.specs.MoneyText.{money_text}
use Rattle.plain_laws.specs.Plain.{joined_below, given, given_last, lines_given}

-- the id of a stop
abbrev pub stop_text : FeedRows → StopId → Option (List ℕ)
stop_text feed stop = given_last (slice_get feed.stops stop.0) (λ row. row.id)

-- an amount in the feed's currency
abbrev pub amount_text : FeedRows → ℤ → List ℕ
amount_text feed amount = money_text feed.decimals amount

-- the code of the feed's currency; empty where no product has a row
abbrev pub currency_text : FeedRows → List ℕ
currency_text feed = unwrap_or feed.currency []

-- the head line of an entry: its final arrival, rides, price and currency
unfoldable pub journey_line : FeedRows → Triple → List ℕ
journey_line feed triple =
    line (codes "journey")
    (moment_text triple.arrival.0 ∷ decimal triple.rides ∷ amount_text feed triple.price.0 ∷ currency_text feed ∷ [])

-- the line of a journey without rides that ends where it starts
abbrev pub stay_line : FeedRows → StopId → Option (List ℕ)
stay_line feed stop = given_last (stop_text feed stop) (λ id. line (codes "stay") (id ∷ []))

-- the line of a walk from one stop to another
unfoldable pub walk_line : FeedRows → StopId → StopId → Option (List ℕ)
walk_line feed from to =
    given (stop_text feed from) (λ start.
    given (stop_text feed to) (λ end.
    given_last (link feed from to) (λ seconds.
    line (codes "walk") (start ∷ end ∷ decimal seconds ∷ []))))

-- the lines between two stops on the way: a walk, where they differ
abbrev pub walk_lines : FeedRows → StopId → StopId → List (List ℕ)
walk_lines feed from to = if from.0 == to.0 then [] else option_to_list (walk_line feed from to)

-- a second of the service day as a time; one before the day has no text
abbrev pub service_time_text : ℤ → List ℕ
service_time_text (pos seconds) = time_text seconds
service_time_text (negsuc seconds) = []

-- when a ride's run departs from its first stop, as a time; `-` for a trip without frequency rows
abbrev pub start_text : FeedRows → Ride → List ℕ
start_text feed ride =
    if has_frequencies feed ride.trip then service_time_text (ride.shift +ℤ pos (first_departure feed ride.trip))
    else codes "-"

-- the first half of a ride's line: the trip, the service day, the start, and the sequence values of its two calls
abbrev pub run_fields : FeedRows → Ride → List ℕ → Call → Call → List (List ℕ)
run_fields feed ride trip boarding alighting =
    trip ∷ date_text ride.day.0 ∷ start_text feed ride ∷ decimal boarding.sequence ∷ decimal alighting.sequence ∷ []

-- the second half: where and when it departs and arrives
abbrev pub way_fields : RideFacts → List ℕ → List ℕ → List (List ℕ)
way_fields ride from to = from ∷ moment_text ride.departure.0 ∷ to ∷ moment_text ride.arrival.0 ∷ []

-- the line of a ride with these facts
unfoldable pub ride_line : FeedRows → Ride → RideFacts → Option (List ℕ)
ride_line feed ride facts =
    given (slice_get feed.trips ride.trip.0) (λ trip.
    given (slice_get (calls_of feed ride.trip) ride.from) (λ boarding.
    given (slice_get (calls_of feed ride.trip) ride.to) (λ alighting.
    given (stop_text feed facts.from) (λ from.
    given_last (stop_text feed facts.to) (λ to.
    line (codes "ride") (run_fields feed ride trip.id boarding alighting ++ way_fields facts from to))))))

-- where the traveller stands before ride i
abbrev pub stop_before : FeedRows → Journey → ℕ → Option StopId
stop_before feed journey zero = Some journey.first
stop_before feed journey (suc before) = given_last (facts_at feed journey.rides before) (λ ride. ride.to)

-- the lines of ride i: the walk to it, if there is one, and the ride
unfoldable pub ride_lines : FeedRows → Journey → ℕ → List (List ℕ)
ride_lines feed journey i =
    lines_given (facts_at feed journey.rides i) (λ facts.
    lines_given (stop_before feed journey i) (λ stop. walk_lines feed stop facts.from)
    ++ lines_given (slice_get journey.rides i) (λ ride. option_to_list (ride_line feed ride facts)))

-- the last lines of a journey with so many rides: the walk to its last stop, if there is one, or that it stays
abbrev pub last_lines : FeedRows → Journey → ℕ → List (List ℕ)
last_lines feed journey zero =
    if journey.first.0 == journey.last.0 then option_to_list (stay_line feed journey.first)
    else walk_lines feed journey.first journey.last
last_lines feed journey (suc before) =
    lines_given (facts_at feed journey.rides before) (λ ride. walk_lines feed ride.to journey.last)

-- the lines of a journey's walks and rides, in order of travel
unfoldable pub travel_lines : FeedRows → Journey → List (List ℕ)
travel_lines feed journey =
    joined_below (length journey.rides) (ride_lines feed journey) ++ last_lines feed journey (length journey.rides)

-- the name of a product row's product
abbrev pub product_text : FeedRows → ProductRow → Option (List ℕ)
product_text feed row = slice_get feed.product_names row.product.0

-- the id of a product row's medium; empty where it names none
abbrev pub medium_text : FeedRows → ProductRow → Option (List ℕ)
medium_text feed row = option_map_or (λ m. option_map (λ r. r.id) (slice_get feed.media m.0)) row.medium (Some [])

-- a product row with its product, its medium and an amount, as they end a line
abbrev pub ticket_fields : FeedRows → ProductRowId → ℤ → Option (List (List ℕ))
ticket_fields feed id amount =
    given (slice_get feed.products id.0) (λ row.
    given (product_text feed row) (λ product.
    given_last (medium_text feed row) (λ medium.
    decimal (id.0 + 1) ∷ product ∷ medium ∷ amount_text feed amount ∷ [])))

-- the line of leg i: bought where it is charged, and otherwise included with the amount zero
unfoldable pub leg_line : FeedRows → ℕ → Bool → LegChoice → Option (List ℕ)
leg_line feed i charged pick =
    given_last (ticket_fields feed pick.product (if charged then amount_of feed pick.product else pos 0)) (λ ticket.
    line (codes "leg")
    (decimal (i + 1) ∷ (if charged then codes "buy" else codes "included") ∷ decimal (pick.rule.0 + 1) ∷ ticket))

-- the end of a change's line: its product row, or what stands for none
abbrev pub change_fields : FeedRows → Option ProductRowId → Option (List (List ℕ))
change_fields feed (Some row) = ticket_fields feed row (amount_of feed row)
change_fields feed None = Some (codes "-" ∷ [] ∷ [] ∷ amount_text feed (pos 0) ∷ [])

-- the line of change i, where it is arranged
unfoldable pub change_line : FeedRows → ℕ → ChangeChoice → Option (List ℕ)
change_line feed i pick =
    given (slice_get feed.transfer_rules pick.rule.0) (λ row.
    given_last (change_fields feed pick.product) (λ ticket.
    line (codes "change") (decimal (i + 1) ∷ decimal row.kind ∷ decimal (pick.rule.0 + 1) ∷ ticket)))

-- the line of leg i, and that of change i after it where it is arranged
unfoldable pub leg_lines : FeedRows → Choice → ℕ → List (List ℕ)
leg_lines feed choice i =
    lines_given (slice_get choice.legs i) (λ pick.
    option_to_list (leg_line feed i (is_charged (transfer_kind feed choice) i) pick))
    ++ lines_given (slice_get choice.changes i) (λ place.
    lines_given place (λ pick. option_to_list (change_line feed i pick)))

-- the fare lines of a choice: leg 1, change 1 where it is arranged, leg 2, and so on
unfoldable pub fare_lines : FeedRows → Choice → List (List ℕ)
fare_lines feed choice = joined_below (length choice.legs) (leg_lines feed choice)

-- the lines of an entry: its head, its way, and its fares
unfoldable pub entry_lines : FeedRows → Entry → List (List ℕ)
entry_lines feed entry =
    journey_line feed entry.triple ∷ travel_lines feed entry.journey ++ fare_lines feed entry.choice

-- the lines of an answer
abbrev pub lines_of_entries : FeedRows → List Entry → List (List ℕ)
lines_of_entries feed entries = flat_map (entry_lines feed) entries

-- the text of an answer
abbrev pub text_of_entries : FeedRows → List Entry → List ℕ
text_of_entries feed entries = concat (lines_of_entries feed entries)
