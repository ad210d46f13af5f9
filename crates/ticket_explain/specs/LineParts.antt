-- Lines in parts: what stands before the last fields, and whether a line is written at all.
use Rattle.std.specs.Prelude.{ℕ, ◌+◌, Bool, ◌&&◌, nat_lt, if◌then◌else◌, List, [], ◌∷◌, ◌++◌, length, Option, codes, decimal, ℤ, pos, negsuc, int_le, option_map, option_and_then}
use Rattle.std.specs.Option.{option_map_or, option_to_list}
use Rattle.feed_rows.specs.Limits.{least_shift, most_shift}
use Rattle.transit_base.specs.declared.numbers.StopId.{StopId}
use Rattle.transit_base.specs.declared.numbers.ProductRowId.{ProductRowId}
use Rattle.feed_rows.specs.declared.journeys.Ride.{Ride}
use Rattle.feed_rows.specs.declared.journeys.RideFacts.{RideFacts}
use Rattle.feed_rows.specs.declared.journeys.Call.{Call}
use Rattle.feed_rows.specs.declared.fares.LegChoice.{LegChoice}
use Rattle.feed_rows.specs.declared.fares.ChangeChoice.{ChangeChoice}
use Rattle.feed_rows.specs.FeedRows.{FeedRows}
use Rattle.feed_rows.specs.FareSums.{amount_of}
use Rattle.plain_laws.specs.Plain.{when}
use Rattle.feed_rows.specs.Lines.{fields_text, line}
use Rattle.feed_rows.specs.EntryText.{stop_text, walk_lines, run_fields, way_fields, ride_line, leg_line, change_line}

-- the ride is of a trip of the feed, and its day and shift are small
abbrev pub is_near : FeedRows → Ride → Bool
is_near feed ride =
    nat_lt ride.trip.0 (length feed.trips)
    && int_le (negsuc 799_999) ride.day.0 && int_le ride.day.0 (pos 3_000_000)
    && int_le least_shift ride.shift && int_le ride.shift most_shift

-- a word and its first fields
abbrev pub head_text : List ℕ → List (List ℕ) → List ℕ
head_text word [] = word
head_text word (field ∷ fields) = head_text (word ++ 9 ∷ field) fields

-- the text with the fields that end its line, where there are such
abbrev pub ended : List ℕ → Option (List (List ℕ)) → Option (List ℕ)
ended text fields = option_map (λ fs. text ++ fields_text fs) fields

-- the line, where it is written
abbrev pub if_written : Bool → List ℕ → List (List ℕ)
if_written written line = option_to_list (when written line)

-- the line of a ride of which all is known
unfoldable pub whole_ride : FeedRows → Ride → RideFacts → List ℕ → Call → Call → List ℕ → List ℕ → List ℕ
whole_ride feed ride facts trip boarding alighting from to =
    line (codes "ride") (run_fields feed ride trip boarding alighting ++ way_fields facts from to)

-- the line of a ride between two calls of its trip
unfoldable pub ride_between : FeedRows → Ride → RideFacts → List ℕ → Call → Call → Option (List ℕ)
ride_between feed ride facts trip boarding alighting =
    option_and_then
    (λ from. option_map (λ to. whole_ride feed ride facts trip boarding alighting from to) (stop_text feed facts.to))
    (stop_text feed facts.from)

-- the walk from where the traveller stands
unfoldable pub walk_part : FeedRows → Option StopId → StopId → List (List ℕ)
walk_part feed from to = option_map_or (λ stop. walk_lines feed stop to) from []

-- the ride, if there is one
unfoldable pub ride_part : FeedRows → RideFacts → Option Ride → List (List ℕ)
ride_part feed facts ride = option_map_or (λ r. option_to_list (ride_line feed r facts)) ride []

-- the leg, if there is one
unfoldable pub leg_part : FeedRows → ℕ → Bool → Option LegChoice → List (List ℕ)
leg_part feed i charged pick = option_map_or (λ p. option_to_list (leg_line feed i charged p)) pick []

-- the change, if it is arranged
unfoldable pub arranged_part : FeedRows → ℕ → Option ChangeChoice → List (List ℕ)
arranged_part feed i pick = option_map_or (λ p. option_to_list (change_line feed i p)) pick []

-- the change, if there is one and it is arranged
unfoldable pub change_part : FeedRows → ℕ → Option (Option ChangeChoice) → List (List ℕ)
change_part feed i place = option_map_or (arranged_part feed i) place []

-- how a leg is paid
unfoldable pub kind_text : Bool → List ℕ
kind_text charged = if charged then codes "buy" else codes "included"

-- what a leg's line says that it costs
unfoldable pub leg_cost : FeedRows → Bool → ProductRowId → ℤ
leg_cost feed charged product = if charged then amount_of feed product else pos 0

-- the front of a leg's line
unfoldable pub leg_head : ℕ → Bool → LegChoice → List ℕ
leg_head i charged pick = head_text (codes "leg") (decimal (i + 1) ∷ kind_text charged ∷ decimal (pick.rule.0 + 1) ∷ [])

-- the front of a change's line
unfoldable pub change_head : ℕ → ℕ → ChangeChoice → List ℕ
change_head i kind pick = head_text (codes "change") (decimal (i + 1) ∷ decimal kind ∷ decimal (pick.rule.0 + 1) ∷ [])
