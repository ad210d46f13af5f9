-- What later fares can tell of the legs so far and of the choice that pays them: the state of their fares, and of their
-- sum what is paid and what is held. Legs and changes are counted from 0. (Profile, as the rules of changes are.)
use Rattle.std.specs.Prelude.{ℕ, zero, suc, ◌+◌, ◌-◌, min, max, Bool, not, ◌&&◌, ◌||◌, ◌==◌, if◌then◌else◌, List, length, map, fold, Option, Some, None, ℤ, pos, ◌-ℤ◌, option_map, option_and_then}
use Rattle.std.specs.Option.{unwrap_or}
use Rattle.std.specs.List.{list_any}
use Rattle.transit_base.specs.declared.numbers.LegGroupId.{LegGroupId}
use Rattle.feed_rows.specs.declared.fares.Choice.{Choice}
use Rattle.feed_rows.specs.declared.journeys.LegFacts.{LegFacts}
use Rattle.feed_rows.specs.declared.rows.TransferRuleRow.{TransferRuleRow}
use Rattle.feed_rows.specs.declared.states.FareState.{FareState}
use Rattle.feed_rows.specs.Codes.{departure_to_arrival, departure_to_departure}
use Rattle.feed_rows.specs.FeedRows.{FeedRows}
use Rattle.feed_rows.specs.TransferRules.{FareLeg, group_matches, run_start}
use Rattle.feed_rows.specs.FareChoices.{fare_leg}
use Rattle.feed_rows.specs.FareSums.{transfer_kind, starts_chain, leg_amount, fare_sum}
use Rattle.plain_laws.specs.Plain.{filled_and, when}

-- ---- what is held, and what is paid

-- the amount that a change which alone is paid takes back after leg n: that of leg n where it is the first of its chain,
-- else 0
abbrev pub held_at : (ℕ → Option ℕ) → (ℕ → ℤ) → ℕ → ℤ
held_at kind amount n = if starts_chain kind n then amount n else pos 0

-- what is held of the first n legs: the amount of the last of them, where that is the first of its chain
abbrev pub held_of : FeedRows → Choice → ℕ → ℤ
held_of feed choice zero = pos 0
held_of feed choice (suc i) = held_at (transfer_kind feed choice) (leg_amount feed choice) i

-- what is held after all legs
unfoldable pub held_amount : FeedRows → Choice → ℤ
held_amount feed choice = held_of feed choice (length choice.legs)

-- what is paid: the rest of the sum
unfoldable pub paid_amount : FeedRows → Choice → ℤ
paid_amount feed choice = fare_sum feed choice -ℤ held_amount feed choice

-- ---- counts

-- the row is for changes from the group to itself
abbrev pub is_within : FeedRows → LegGroupId → TransferRuleRow → Bool
is_within feed group row =
    group_matches feed (λ r. r.from) row.from group && group_matches feed (λ r. r.to) row.to group

-- the count of such a row, where it is a number; else 0
abbrev pub count_within : FeedRows → LegGroupId → TransferRuleRow → ℕ
count_within feed group row = if is_within feed group row then unwrap_or row.count 0 else 0

-- the greatest number of changes within the group that a row counts; 0 where none does
unfoldable pub greatest_count : FeedRows → LegGroupId → ℕ
greatest_count feed group = fold max 0 (map (count_within feed group) feed.transfer_rules)

-- the number of changes of a run of this group, where all numbers past the greatest count are one; 0 without a group
abbrev pub capped_count : FeedRows → Option LegGroupId → ℕ → ℕ
capped_count feed None changes = 0
capped_count feed (Some group) changes = min changes (greatest_count feed group + 1)

-- ---- clocks

-- a limit of this type counts from the departure of the run's first leg
abbrev pub counts_from_departure : ℕ → Bool
counts_from_departure kind = (kind == departure_to_arrival) || (kind == departure_to_departure)

-- or from its arrival
abbrev pub counts_from_arrival : ℕ → Bool
counts_from_arrival kind = not (counts_from_departure kind)

-- some row for changes from the group has a limit of such a type
unfoldable pub is_clock_read : FeedRows → (ℕ → Bool) → LegGroupId → Bool
is_clock_read feed counts group =
    list_any (λ row.
    group_matches feed (λ r. r.from) row.from group && filled_and row.limit (λ limit. counts limit.kind))
    feed.transfer_rules

-- ---- states

-- the state after a run of this group, with so many changes, from this first leg on; and whether the last leg is the
-- first of its chain. A clock is there where a row from the group reads it
abbrev pub state_of_run : FeedRows → Option LegGroupId → ℕ → FareLeg → Bool → FareState
state_of_run feed group changes first is_first =
    record {
      group = group;
      count = capped_count feed group changes;
      departure = when (filled_and group (is_clock_read feed counts_from_departure)) first.departure;
      arrival = when (filled_and group (is_clock_read feed counts_from_arrival)) first.arrival;
      first = is_first;
    }

-- the state after leg i, where `leg` gives each leg by its number, and `kind` each change's type
abbrev pub state_at : FeedRows → (ℕ → Option FareLeg) → (ℕ → Option ℕ) → ℕ → Option FareState
state_at feed leg kind i =
    let b = run_start feed leg i in
    option_and_then (λ last. option_map (λ first.
    state_of_run feed last.group (i - b) first (starts_chain kind i)) (leg b)) (leg i)

-- the state after the first n legs; none without legs
abbrev pub state_of : FeedRows → (ℕ → Option FareLeg) → (ℕ → Option ℕ) → ℕ → Option FareState
state_of feed leg kind zero = None
state_of feed leg kind (suc i) = state_at feed leg kind i

-- the state after all legs
unfoldable pub fare_state : FeedRows → List LegFacts → Choice → Option FareState
fare_state feed legs choice = state_of feed (fare_leg feed legs choice.legs) (transfer_kind feed choice) (length legs)
