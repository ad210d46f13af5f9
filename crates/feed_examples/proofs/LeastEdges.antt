-- Worked examples of least prices and of the cheapest open row of a product.
use Rattle.std.proofs.Common.{◌≡◌, refl, ap, ℕ, List, [], ◌∷◌, get_or, inl, inr, arith}
use Rattle.std.specs.Prelude.{Option, Some, None, ℤ, pos, negsuc, ◌≤ℤ◌}
use Rattle.std.proofs.lemmas.Int.{ints}
use Rattle.feed_rows.specs.FeedRows.{FeedRows}
use Rattle.feed_rows.specs.declared.rows.ProductRow.{ProductRow}
use Rattle.feed_rows.specs.declared.fares.Choice.{Choice}
use Rattle.feed_rows.specs.declared.journeys.Buyer.{Buyer}
use Rattle.transit_base.specs.declared.numbers.ProductRowId.{ProductRowId}
use Rattle.feed_rows.specs.ServiceDays.{is_active}
use Rattle.feed_rows.specs.Calls.{call_at, calls_of}
use Rattle.feed_rows.specs.Shifts.{shifts_of}
use Rattle.feed_rows.specs.Rides.{is_ride, ride_facts}
use Rattle.feed_rows.specs.Legs.{stop_areas, holds_at, leg_facts, legs_of}
use Rattle.feed_rows.specs.LegRules.{network_matches, area_matches, frame_matches, rule_matches, is_top_priority, is_selected_rule}
use Rattle.feed_rows.specs.TransferRules.{group_matches, limit_holds, is_candidate, suffices, is_least_count, is_selected_transfer, is_arranged, goes_on, run_start, change_at}
use Rattle.feed_rows.specs.FareChoices.{is_open, is_leg_choice, is_transfer_choice, is_leg_paid, is_change_paid, is_fare_choice}
use Rattle.feed_rows.specs.FareSums.{transfer_kind, starts_chain, is_charged, amount_of, leg_charge, change_charge, fare_sum}
use Rattle.feed_rows.specs.PriceTexts.{IsLeastPrice, IsUncovered, IsTextOfLeastPrice, price_text, uncovered_text}
use Rattle.feed_rows.specs.OpenRows.{is_least_open, least_open_row}
use Rattle.feed_examples.specs.BaseFeed.{base, ticket, no_category, of_category}
use Rattle.feed_examples.proofs.WorkedEntries.{leg, paid}
use Rattle.feed_examples.proofs.LegEdges.{one_bus}

-- ---- the cheapest open row

abbrev for_child : ProductRow → ProductRow
for_child row = record row { rider = Some (record { 0 = 0 }) }

abbrev child : Buyer
child = of_category 0

abbrev row_of : ℕ → Option ProductRowId
row_of i = Some (record { 0 = i })

-- the cheapest row of product 0 among these
abbrev cheapest : List ProductRow → Buyer → Option ProductRowId
cheapest rows buyer = least_open_row (record base { products = rows }) (record { 0 = 0 }) buyer

record CheapestRows : Type 0 where
  -- of rows of one amount the first is taken, and a cheaper one after it goes before
  pub first_of_least :
      (cheapest (ticket 0 250 ∷ ticket 0 200 ∷ ticket 0 200 ∷ []) no_category ≡ row_of 1)
      × (cheapest (ticket 0 200 ∷ ticket 0 200 ∷ []) no_category ≡ row_of 0)
      × (cheapest (ticket 0 300 ∷ ticket 0 250 ∷ ticket 0 200 ∷ []) no_category ≡ row_of 2)
  -- rows of another product and rows closed to the buyer don't count
  pub open_alone :
      (cheapest (ticket 1 10 ∷ for_child (ticket 0 20) ∷ ticket 0 250 ∷ []) no_category ≡ row_of 2)
      × (cheapest (ticket 1 10 ∷ for_child (ticket 0 20) ∷ ticket 0 250 ∷ []) child ≡ row_of 1)
  -- an amount below zero is less than zero
  pub negative : cheapest (ticket 0 0 ∷ record (ticket 0 0) { amount = record { 0 = negsuc 9 } } ∷ []) no_category ≡ row_of 1
  -- where no row is open there is none
  pub none_open : (cheapest (for_child (ticket 0 20) ∷ ticket 1 10 ∷ []) no_category ≡ None) × (cheapest [] child ≡ None)

cheapest_rows : CheapestRows
unfolding is_open is_least_open least_open_row
cheapest_rows = record {
  first_of_least = (refl, refl, refl);
  open_alone = (refl, refl);
  negative = refl;
  none_open = (refl, refl);
}

-- ---- the least price

-- a ticket for T3 at 2.50 and one at 2.00
abbrev two_tickets : FeedRows
two_tickets = record base { products = ticket 0 250 ∷ ticket 0 200 ∷ [] }

-- a ticket for T3 for children alone
abbrev child_ticket : FeedRows
child_ticket = record base { products = for_child (ticket 0 120) ∷ [] }

-- the dearer ticket is not of least price
not_dearer : IsLeastPrice two_tickets one_bus no_category (paid (leg 0 0 ∷ []) []) (pos 250) → ⊥
unfolding is_ride ride_facts is_active shifts_of calls_of call_at legs_of leg_facts stop_areas holds_at network_matches area_matches frame_matches rule_matches is_top_priority is_selected_rule group_matches limit_holds is_candidate suffices is_least_count is_selected_transfer is_arranged goes_on run_start change_at is_open is_leg_choice is_transfer_choice is_leg_paid is_change_paid is_fare_choice transfer_kind starts_chain is_charged amount_of leg_charge change_charge fare_sum
not_dearer h = let le : pos 250 ≤ℤ pos 200 = h.least (paid (leg 0 1 ∷ []) []) (pos 200) refl in omega (arith, ints, le)

-- nor has a choice a least price that isn't its own
not_of_another : IsLeastPrice two_tickets one_bus no_category (paid (leg 0 0 ∷ []) []) (pos 200) → ⊥
unfolding is_ride ride_facts is_active shifts_of calls_of call_at legs_of leg_facts stop_areas holds_at network_matches area_matches frame_matches rule_matches is_top_priority is_selected_rule group_matches limit_holds is_candidate suffices is_least_count is_selected_transfer is_arranged goes_on run_start change_at is_open is_leg_choice is_transfer_choice is_leg_paid is_change_paid is_fare_choice transfer_kind starts_chain is_charged amount_of leg_charge change_charge fare_sum
not_of_another h = let is : Some (pos 250) ≡ Some (pos 200) = h.paid in let same : pos 250 ≡ pos 200 = cc in omega
    (arith, ints, same)

-- rides that a child can pay aren't uncovered for a child, nor those that all can pay for one without category
covered_for_child : IsUncovered child_ticket one_bus child → ⊥
unfolding is_ride ride_facts is_active shifts_of calls_of call_at legs_of leg_facts stop_areas holds_at network_matches area_matches frame_matches rule_matches is_top_priority is_selected_rule group_matches limit_holds is_candidate suffices is_least_count is_selected_transfer is_arranged goes_on run_start change_at is_open is_leg_choice is_transfer_choice is_leg_paid is_change_paid is_fare_choice transfer_kind starts_chain is_charged amount_of leg_charge change_charge fare_sum
covered_for_child uncovered = let wrong : Some (pos 120) ≡ None = uncovered (paid (leg 0 0 ∷ []) []) in absurd (cc)

covered_for_all : IsUncovered two_tickets one_bus no_category → ⊥
unfolding is_ride ride_facts is_active shifts_of calls_of call_at legs_of leg_facts stop_areas holds_at network_matches area_matches frame_matches rule_matches is_top_priority is_selected_rule group_matches limit_holds is_candidate suffices is_least_count is_selected_transfer is_arranged goes_on run_start change_at is_open is_leg_choice is_transfer_choice is_leg_paid is_change_paid is_fare_choice transfer_kind starts_chain is_charged amount_of leg_charge change_charge fare_sum
covered_for_all uncovered = let wrong : Some (pos 250) ≡ None = uncovered (paid (leg 0 0 ∷ []) []) in absurd (cc)

-- and no text says that they are
not_uncovered_text : IsTextOfLeastPrice two_tickets one_bus no_category uncovered_text → ⊥
unfolding is_ride ride_facts is_active shifts_of calls_of call_at legs_of leg_facts stop_areas holds_at network_matches area_matches frame_matches rule_matches is_top_priority is_selected_rule group_matches limit_holds is_candidate suffices is_least_count is_selected_transfer is_arranged goes_on run_start change_at is_open is_leg_choice is_transfer_choice is_leg_paid is_change_paid is_fare_choice transfer_kind starts_chain is_charged amount_of leg_charge change_charge fare_sum price_text
not_uncovered_text (inl priced) = let first : 117 ≡ 112 = ap (λ (text : List ℕ). get_or text 0 0) priced.3 in omega
    (arith, first)
not_uncovered_text (inr uncovered) = let wrong : Some (pos 250) ≡ None = uncovered.0
    (paid (leg 0 0 ∷ []) []) in absurd (cc)

-- a choice of least price gives a text, which tells the number of rides
tells_rides : (choice : Choice) (price : ℤ) → IsLeastPrice two_tickets one_bus no_category choice price →
    IsTextOfLeastPrice two_tickets one_bus no_category (price_text two_tickets 1 choice price)
tells_rides choice price least = inl (choice, price, least, refl)
