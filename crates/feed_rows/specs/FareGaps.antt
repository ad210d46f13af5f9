-- What a tariff leaves open on the rides of some service days: the pairs of stops between which a ride has no fare, and
-- the leg rules that no ride selects. Each ride is one leg by itself. (Profile.)
use Rattle.std.specs.Prelude.{ℕ, ◌+◌, Bool, not, ◌&&◌, ◌==◌, if◌then◌else◌, List, length, ℤ, pos, ◌+ℤ◌, ◌-ℤ◌, int_le, unsigned_abs}
use Rattle.std.specs.List.{list_any}
use Rattle.transit_base.specs.declared.calendar.Day.{Day}
use Rattle.transit_base.specs.declared.numbers.RuleId.{RuleId}
use Rattle.transit_base.specs.declared.numbers.StopId.{StopId}
use Rattle.transit_base.specs.declared.numbers.TripId.{TripId}
use Rattle.feed_rows.specs.declared.journeys.Buyer.{Buyer}
use Rattle.feed_rows.specs.declared.journeys.LegFacts.{LegFacts}
use Rattle.feed_rows.specs.declared.journeys.Pair.{Pair}
use Rattle.feed_rows.specs.declared.journeys.RideFacts.{RideFacts}
use Rattle.feed_rows.specs.declared.rows.LegRuleRow.{LegRuleRow}
use Rattle.feed_rows.specs.Calls.{calls_of}
use Rattle.feed_rows.specs.FareChoices.{is_open}
use Rattle.feed_rows.specs.FeedRows.{FeedRows}
use Rattle.feed_rows.specs.LegRules.{is_selected_rule}
use Rattle.feed_rows.specs.Legs.{leg_facts}
use Rattle.feed_rows.specs.Rides.{ride_facts}
use Rattle.feed_rows.specs.Shifts.{shifts_of}
use Rattle.plain_laws.specs.Plain.{any_below, filled_and, ids_where, joined_below, picks_below}

-- how many days there are from the first to the last, both included
abbrev pub days_from : ℤ → ℤ → ℕ
days_from first last = if int_le first last then unsigned_abs (last -ℤ first) + 1 else 0

-- some ride of the trip on the day, so many seconds later than its stop times say, passes the test
unfoldable pub some_ride_of_run : FeedRows → (RideFacts → Bool) → TripId → Day → ℤ → Bool
some_ride_of_run feed test trip day shift =
    any_below (length (calls_of feed trip)) (λ to.
    any_below to (λ from.
    filled_and (ride_facts feed (record { trip = trip; day = day; shift = shift; from = from; to = to })) test))

-- some ride passes the test whose service day lies from the first to the last
unfoldable pub some_ride : FeedRows → ℤ → ℤ → (RideFacts → Bool) → Bool
some_ride feed first last test =
    any_below (days_from first last) (λ n.
    any_below (length feed.trips) (λ trip.
    list_any
    (some_ride_of_run feed test (record { 0 = trip }) (record { 0 = first +ℤ pos n }))
    (shifts_of feed (record { 0 = trip }))))

-- the leg has an option: a rule that it selects has a product with a row that is open to the buyer
unfoldable pub has_option : FeedRows → Buyer → LegFacts → Bool
has_option feed buyer leg =
    list_any (λ rule. is_selected_rule feed leg rule && list_any (is_open rule.product buyer) feed.products) feed.leg_rules

-- the ride goes from the one stop to the other, and its leg has no option
abbrev pub is_unpaid_between : FeedRows → Buyer → StopId → StopId → RideFacts → Bool
is_unpaid_between feed buyer from to ride =
    (ride.from.0 == from.0) && (ride.to.0 == to.0) && not (has_option feed buyer (leg_facts feed ride))

-- the pairs of stops between which some ride has no option: by boarding stop and then by alighting stop, in file order
unfoldable pub uncovered_pairs : FeedRows → Buyer → ℤ → ℤ → List Pair
uncovered_pairs feed buyer first last =
    joined_below (length feed.stops) (λ from.
    picks_below
    (length feed.stops)
    (λ to. some_ride feed first last (is_unpaid_between feed buyer (record { 0 = from }) (record { 0 = to })))
    (λ to. record { from = record { 0 = from }; to = record { 0 = to } }))

-- the leg of some ride selects the rule
abbrev pub is_used_rule : FeedRows → ℤ → ℤ → LegRuleRow → Bool
is_used_rule feed first last rule = some_ride feed first last (λ ride. is_selected_rule feed (leg_facts feed ride) rule)

-- the rules that the leg of no ride selects, in file order
unfoldable pub idle_rules : FeedRows → ℤ → ℤ → List RuleId
idle_rules feed first last = ids_where (λ i. record { 0 = i }) (λ rule. not (is_used_rule feed first last rule)) feed.leg_rules
