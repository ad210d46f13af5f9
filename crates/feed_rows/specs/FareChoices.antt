-- How a journey may be paid: a rule and a product row for each leg, and for each change that is arranged a row of
-- fare_transfer_rules.txt with its product row. (GTFS Schedule Reference: fare_products.txt, rider_categories.txt; that
-- a rider picks one of several selected rules is the profile's.)
use Rattle.std.specs.Prelude.{ℕ, ◌-◌, Bool, true, false, not, ◌&&◌, ◌==◌, List, length, slice_get, Option, Some, None, option_map, option_and_then}
use Rattle.transit_base.specs.declared.numbers.ProductId.{ProductId}
use Rattle.transit_base.specs.declared.numbers.ProductRowId.{ProductRowId}
use Rattle.feed_rows.specs.declared.journeys.Buyer.{Buyer}
use Rattle.feed_rows.specs.declared.fares.LegChoice.{LegChoice}
use Rattle.feed_rows.specs.declared.fares.ChangeChoice.{ChangeChoice}
use Rattle.feed_rows.specs.declared.fares.Choice.{Choice}
use Rattle.feed_rows.specs.declared.fares.TransferFacts.{TransferFacts}
use Rattle.feed_rows.specs.declared.journeys.LegFacts.{LegFacts}
use Rattle.feed_rows.specs.declared.rows.ProductRow.{ProductRow}
use Rattle.feed_rows.specs.FeedRows.{FeedRows}
use Rattle.feed_rows.specs.LegRules.{is_selected_rule}
use Rattle.feed_rows.specs.TransferRules.{FareLeg, change_at, is_arranged, is_selected_transfer}
use Rattle.plain_laws.specs.Plain.{all_below, at_and, empty_or, filled_and, ids_where}

-- the row is of the product, and open to the buyer: its category is empty or the buyer's
unfoldable pub is_open : ProductId → Buyer → ProductRow → Bool
is_open product buyer row =
    (row.product.0 == product.0) && empty_or row.rider (λ category. filled_and buyer.rider (λ r. r.0 == category.0))

-- the rows of the product that are open to the buyer, in file order
abbrev pub open_rows : FeedRows → ProductId → Buyer → List ProductRowId
open_rows feed product buyer = ids_where (λ i. record { 0 = i }) (is_open product buyer) feed.products

-- the leg as changes see it, with the leg group of its chosen rule
abbrev pub chosen_leg : FeedRows → LegFacts → LegChoice → Option FareLeg
chosen_leg feed leg pick =
    option_map
    (λ rule. record { group = rule.group; departure = leg.departure; arrival = leg.arrival })
    (slice_get feed.leg_rules pick.rule.0)

-- leg i as changes see it
abbrev pub fare_leg : FeedRows → List LegFacts → List LegChoice → ℕ → Option FareLeg
fare_leg feed legs picks i =
    option_and_then (λ leg. option_and_then (chosen_leg feed leg) (slice_get picks i)) (slice_get legs i)

-- the chosen rule is selected by the leg, and the product row is an open row of its product
unfoldable pub is_leg_choice : FeedRows → Buyer → LegFacts → LegChoice → Bool
is_leg_choice feed buyer leg pick =
    at_and feed.leg_rules pick.rule.0 (λ rule.
    is_selected_rule feed leg rule && at_and feed.products pick.product.0 (is_open rule.product buyer))

-- the product row is an open row of the product, or none exactly where there is no product
abbrev pub is_change_product : FeedRows → Buyer → Option ProductId → Option ProductRowId → Bool
is_change_product feed buyer None None = true
is_change_product feed buyer None (Some row) = false
is_change_product feed buyer (Some product) None = false
is_change_product feed buyer (Some product) (Some row) = at_and feed.products row.0 (is_open product buyer)

-- the chosen row is selected for the change, with the right product row
unfoldable pub is_transfer_choice : FeedRows → Buyer → TransferFacts → ChangeChoice → Bool
is_transfer_choice feed buyer change pick =
    at_and feed.transfer_rules pick.rule.0 (λ rule.
    is_selected_transfer feed change rule && is_change_product feed buyer rule.product pick.product)

-- the place of a change is filled exactly where the change is arranged, and then by a choice for it
abbrev pub is_change_choice : FeedRows → Buyer → Option TransferFacts → Option ChangeChoice → Bool
is_change_choice feed buyer change None = not (filled_and change (is_arranged feed))
is_change_choice feed buyer change (Some pick) = filled_and change (λ c. is_transfer_choice feed buyer c pick)

-- leg i has its choice
unfoldable pub is_leg_paid : FeedRows → List LegFacts → Choice → Buyer → ℕ → Bool
is_leg_paid feed legs choice buyer i =
    at_and legs i (λ leg. at_and choice.legs i (λ pick. is_leg_choice feed buyer leg pick))

-- change i has its choice
unfoldable pub is_change_paid : FeedRows → List LegFacts → Choice → Buyer → ℕ → Bool
is_change_paid feed legs choice buyer i =
    at_and choice.changes i (λ place.
    is_change_choice feed buyer (change_at feed (fare_leg feed legs choice.legs) i) place)

-- the choice pays the legs for the buyer: it has one place for each leg and one for each change, and each is right
unfoldable pub is_fare_choice : FeedRows → List LegFacts → Choice → Buyer → Bool
is_fare_choice feed legs choice buyer =
    (length choice.legs == length legs)
    && (length choice.changes == length legs - 1)
    && all_below (length legs) (is_leg_paid feed legs choice buyer)
    && all_below (length legs - 1) (is_change_paid feed legs choice buyer)
