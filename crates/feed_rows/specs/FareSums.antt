-- Which legs are charged, and the sum of a choice. (GTFS Schedule Reference: fare_transfer_rules.txt,
-- fare_transfer_type.)
use Rattle.std.specs.Prelude.{ℕ, zero, suc, Bool, true, false, not, ◌&&◌, ◌||◌, ◌==◌, if◌then◌else◌, List, length, slice_get, Option, is_none, ℤ, pos, ◌+ℤ◌, option_map, option_and_then}
use Rattle.std.specs.Option.{option_map_or}
use Rattle.transit_base.specs.declared.numbers.ProductRowId.{ProductRowId}
use Rattle.feed_rows.specs.declared.journeys.Buyer.{Buyer}
use Rattle.feed_rows.specs.declared.fares.ChangeChoice.{ChangeChoice}
use Rattle.feed_rows.specs.declared.fares.Choice.{Choice}
use Rattle.feed_rows.specs.declared.journeys.LegFacts.{LegFacts}
use Rattle.feed_rows.specs.Codes.{change_alone, includes_leg_after}
use Rattle.feed_rows.specs.FeedRows.{FeedRows}
use Rattle.feed_rows.specs.FareChoices.{is_fare_choice}
use Rattle.plain_laws.specs.Plain.{filled_and, sum_below, when}

-- the type of the row that is chosen for change i; none where none is chosen
unfoldable pub transfer_kind : FeedRows → Choice → ℕ → Option ℕ
transfer_kind feed choice i =
    option_and_then
    (λ place. option_and_then (λ pick. option_map (λ row. row.kind) (slice_get feed.transfer_rules pick.rule.0)) place)
    (slice_get choice.changes i)

-- leg i is the first of its chain, where `kind` gives each change's type: no arranged change leads to it
unfoldable pub starts_chain : (ℕ → Option ℕ) → ℕ → Bool
starts_chain kind zero = true
starts_chain kind (suc before) = is_none (kind before)

-- leg i is included in the change that leads to it
abbrev pub is_included_on_entry : (ℕ → Option ℕ) → ℕ → Bool
is_included_on_entry kind zero = false
is_included_on_entry kind (suc before) = filled_and (kind before) includes_leg_after

-- leg i is included in the change that follows it, which alone is paid, where it is first of its chain
abbrev pub is_included_on_leaving : (ℕ → Option ℕ) → ℕ → Bool
is_included_on_leaving kind i = filled_and (kind i) (λ k. k == change_alone)

-- leg i is charged, unless the change that leads to it includes it, or it is first of its chain and left by a change that
-- alone is paid
unfoldable pub is_charged : (ℕ → Option ℕ) → ℕ → Bool
is_charged kind i = not (is_included_on_entry kind i || (starts_chain kind i && is_included_on_leaving kind i))

-- the amount of a product row; one that the feed lacks is in no fare choice
unfoldable pub amount_of : FeedRows → ProductRowId → ℤ
amount_of feed row = option_map_or (λ r. r.amount.0) (slice_get feed.products row.0) (pos 0)

-- the amount of leg i's ticket
abbrev pub leg_amount : FeedRows → Choice → ℕ → ℤ
leg_amount feed choice i = option_map_or (λ pick. amount_of feed pick.product) (slice_get choice.legs i) (pos 0)

-- what leg i adds to the sum
unfoldable pub leg_charge : FeedRows → Choice → ℕ → ℤ
leg_charge feed choice i = if is_charged (transfer_kind feed choice) i then leg_amount feed choice i else pos 0

-- what an arranged change adds to the sum: the amount of its product row, if it has one
abbrev pub pick_amount : FeedRows → ChangeChoice → ℤ
pick_amount feed pick = option_map_or (amount_of feed) pick.product (pos 0)

-- what change i adds to the sum
unfoldable pub change_charge : FeedRows → Choice → ℕ → ℤ
change_charge feed choice i =
    option_map_or (λ place. option_map_or (pick_amount feed) place (pos 0)) (slice_get choice.changes i) (pos 0)

-- the sum of a choice: the amounts of the charged legs and of the arranged changes
unfoldable pub fare_sum : FeedRows → Choice → ℤ
fare_sum feed choice =
    sum_below (length choice.legs) (leg_charge feed choice) +ℤ sum_below (length choice.changes) (change_charge feed choice)

-- the price of the legs by the choice; none where it doesn't pay them for the buyer
abbrev pub fare_price : FeedRows → List LegFacts → Choice → Buyer → Option ℤ
fare_price feed legs choice buyer = when (is_fare_choice feed legs choice buyer) (fare_sum feed choice)
