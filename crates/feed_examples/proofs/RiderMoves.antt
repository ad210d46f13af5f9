-- Moves under products that one rider category alone may take, and what a triple outdoes for one category and for
-- riders without one.
use Rattle.std.proofs.Common.{◌≡◌, refl, Bool, true, false, [], ◌∷◌}
use Rattle.std.specs.Prelude.{Option, Some, None, ℤ, pos, negsuc, codes}
use Rattle.feed_rows.specs.declared.journeys.Buyer.{Buyer}
use Rattle.feed_rows.specs.declared.rows.ProductRow.{ProductRow}
use Rattle.feed_rows.specs.declared.states.Move.{Move}
use Rattle.feed_rows.specs.FeedRows.{FeedRows}
use Rattle.feed_rows.specs.TransferRules.{group_matches, limit_holds, is_candidate, suffices, is_least_count}
use Rattle.feed_rows.specs.LegRules.{network_matches, area_matches, frame_matches, rule_matches, is_top_priority, is_selected_rule}
use Rattle.feed_rows.specs.FareChoices.{is_open, is_leg_choice}
use Rattle.feed_rows.specs.FareSums.{amount_of}
use Rattle.feed_rows.specs.FareStates.{greatest_count, is_clock_read}
use Rattle.feed_rows.specs.FareSteps.{is_arranged_after, is_row_after, move_of_first, move_of_next, move_after}
use Rattle.feed_rows.specs.FareFloor.{fare_floor, is_outdone}
use Rattle.feed_examples.specs.BaseFeed.{base, ticket, no_category, of_category}
use Rattle.feed_examples.proofs.WorkedEntries.{morning}
use Rattle.feed_examples.proofs.WorkedStates.{leg_1, leg_2, state, taken, followed, by_change, rail_state}
use Rattle.feed_examples.proofs.WorkedLabels.{facts, triple, low_feed, child}

-- a product row for the first of two categories alone
abbrev for_child : ProductRow → ProductRow
for_child row = record row { rider = child.rider }

-- base with a ticket for buses, one for trains and one for changes
abbrev with_tickets : ProductRow → ProductRow → ProductRow → FeedRows
with_tickets bus rail change =
    record base {
      riders = record { id = codes "child"; default = false } ∷ record { id = codes "senior"; default = false } ∷ [];
      products = bus ∷ rail ∷ change ∷ [];
    }

-- a buyer of the other category
abbrev senior : Buyer
senior = of_category 1

-- T1 as a first leg, by the ticket for buses, which is for children
abbrev first_bus : Buyer → Option Move
first_bus buyer =
    move_after (with_tickets (for_child (ticket 0 120)) (ticket 1 400) (ticket 2 50)) buyer None (pos 0) leg_1
    (taken 0 0 None None)

-- T2 after T1, by the ticket for trains with that for changes
abbrev then_rail : ProductRow → ProductRow → Buyer → Option Move
then_rail rail change buyer =
    move_after (with_tickets (ticket 0 250) rail change) buyer (Some (state (Some 0) 0 None None true)) (pos 250) leg_2
    by_change

record RiderMoves : Type 0 where
  -- a first leg is taken by the category that its ticket is for, and neither by another nor without one
  pub first :
      (first_bus child ≡ followed (state (Some 0) 0 None None true) (pos 0) (pos 120) (taken 0 0 None None))
      × (first_bus senior ≡ None)
      × (first_bus no_category ≡ None)
  -- a next leg too, by the ticket of the leg
  pub next_leg :
      (then_rail (for_child (ticket 1 200)) (ticket 2 50) child
      ≡ followed (rail_state false) (pos 300) (pos 0) by_change)
      × (then_rail (for_child (ticket 1 200)) (ticket 2 50) senior ≡ None)
      × (then_rail (for_child (ticket 1 200)) (ticket 2 50) no_category ≡ None)
  -- and by that of the change
  pub next_change :
      (then_rail (ticket 1 400) (for_child (ticket 2 20)) child
      ≡ followed (rail_state false) (pos 270) (pos 0) by_change)
      × (then_rail (ticket 1 400) (for_child (ticket 2 20)) senior ≡ None)
      × (then_rail (ticket 1 400) (for_child (ticket 2 20)) no_category ≡ None)

rider_moves : RiderMoves
unfolding move_of_first move_of_next is_arranged_after is_row_after greatest_count is_clock_read group_matches
    limit_holds is_candidate suffices is_least_count network_matches area_matches frame_matches rule_matches
    is_top_priority is_selected_rule is_open is_leg_choice amount_of
rider_moves = record {
  first = (refl, refl, refl);
  next_leg = (refl, refl, refl);
  next_change = (refl, refl, refl);
}

-- a triple of this price outdoes facts at its arrival with two of four rides and 3.00 paid, for a query of this buyer
abbrev outdoes : Buyer → ℤ → Bool
outdoes buyer price =
    is_outdone low_feed (record morning { buyer = buyer }) (triple 30600 2 price)
    (facts 1 30600 2 (pos 300) (pos 0) None)

record RiderBounds : Type 0 where
  -- two more rides cost at least 0.70 less than nothing without a category, and 22.00 less for a child
  pub without_category : (outdoes no_category (pos 230) ≡ true) × (outdoes no_category (pos 231) ≡ false)
  pub for_children : (outdoes child (negsuc 1899) ≡ true) × (outdoes child (negsuc 1898) ≡ false)

rider_bounds : RiderBounds
unfolding is_outdone fare_floor is_open
rider_bounds = record {
  without_category = (refl, refl);
  for_children = (refl, refl);
}
