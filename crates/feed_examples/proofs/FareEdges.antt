-- Worked examples of transfer rules and prices at edges that the others leave out: runs after a change between groups, third
-- changes, rows with one empty group, equal counts of two types, and products of several rows.
use Rattle.std.proofs.Common.{◌≡◌, refl, ℕ, false, List, [], ◌∷◌}
use Rattle.std.specs.Prelude.{Option, Some, None, ℤ, pos, negsuc, codes}
use Rattle.feed_rows.specs.FeedRows.{FeedRows}
use Rattle.feed_rows.specs.declared.rows.Limit.{Limit}
use Rattle.feed_rows.specs.declared.rows.TransferRuleRow.{TransferRuleRow}
use Rattle.feed_rows.specs.declared.fares.LegChoice.{LegChoice}
use Rattle.feed_rows.specs.declared.fares.ChangeChoice.{ChangeChoice}
use Rattle.feed_rows.specs.declared.fares.TransferFacts.{TransferFacts}
use Rattle.feed_rows.specs.declared.journeys.Ride.{Ride}
use Rattle.feed_rows.specs.ServiceDays.{is_active}
use Rattle.feed_rows.specs.Calls.{call_at, calls_of}
use Rattle.feed_rows.specs.Shifts.{shifts_of}
use Rattle.feed_rows.specs.Rides.{is_ride, ride_facts}
use Rattle.feed_rows.specs.Legs.{stop_areas, holds_at, leg_facts, legs_of}
use Rattle.feed_rows.specs.LegRules.{network_matches, area_matches, frame_matches, rule_matches, is_top_priority, is_selected_rule}
use Rattle.feed_rows.specs.TransferRules.{group_matches, limit_holds, is_candidate, suffices, is_least_count, is_selected_transfer, is_arranged, goes_on, run_start, change_at, selected_transfers}
use Rattle.feed_rows.specs.FareChoices.{is_open, is_leg_choice, is_transfer_choice, is_leg_paid, is_change_paid, is_fare_choice}
use Rattle.feed_rows.specs.FareSums.{transfer_kind, starts_chain, is_charged, amount_of, leg_amount, leg_charge, change_charge, fare_sum}
use Rattle.feed_rows.specs.JourneyEntries.{rides_price}
use Rattle.feed_examples.specs.BaseFeed.{base, platform, trip, call, ticket, transfer_rule, no_category, of_category}
use Rattle.feed_examples.proofs.WorkedEntries.{ride, leg, change, free_change, paid, two_rides}
use Rattle.feed_examples.proofs.CornerFares.{chain, three_legs}
use Rattle.feed_examples.proofs.LegEdges.{one_bus, bus_price}

-- ---- runs

abbrev three_rides : List Ride
three_rides = ride 0 0 1 ∷ ride 1 0 1 ∷ ride 2 0 1 ∷ []

-- bus, rail, rail, with a rule from bus to rail and one within rail
abbrev bus_rail_rail : Option ℕ → Option Limit → FeedRows
bus_rail_rail count limit =
    record (chain None None) {
      trips = trip (codes "U1") 0 ∷ trip (codes "U2") 1 ∷ trip (codes "U3") 1 ∷ [];
      transfer_rules = transfer_rule 0 1 0 None ∷ record
          (transfer_rule 1 1 0 None) { count = count; limit = limit } ∷ [];
    }

abbrev bus_rail_rail_price : Option ℕ → Option Limit → Option ℤ
bus_rail_rail_price count limit =
    rides_price (bus_rail_rail count limit) three_rides
    (paid (leg 0 0 ∷ leg 1 1 ∷ leg 1 1 ∷ []) (free_change 0 ∷ free_change 1 ∷ [])) no_category

-- four buses of one group, with a rule for so many changes
abbrev four_buses : ℕ → FeedRows
four_buses count =
    record (chain None None) {
      stops = platform (codes "A") ∷ platform (codes "B") ∷ platform (codes "C") ∷ platform (codes "D") ∷ platform
          (codes "E") ∷ [];
      trips = trip (codes "U1") 0 ∷ trip (codes "U2") 0 ∷ trip (codes "U3") 0 ∷ trip (codes "U4") 0 ∷ [];
      stop_times =
          call 0 0 1 28800 ∷ call 0 1 2 29400 ∷ call 1 1 1 29700 ∷ call 1 2 2 30300
          ∷ call 2 2 1 30600 ∷ call 2 3 2 31200 ∷ call 3 3 1 31500 ∷ call 3 4 2 32100 ∷ [];
      transfer_rules = record (transfer_rule 0 0 0 None) { count = Some count } ∷ [];
    }

abbrev four_price : ℕ → List (Option ChangeChoice) → Option ℤ
four_price count changes =
    rides_price (four_buses count) (ride 0 0 1 ∷ ride 1 0 1 ∷ ride 2 0 1 ∷ ride 3 0 1 ∷ [])
    (paid (leg 0 0 ∷ leg 0 0 ∷ leg 0 0 ∷ leg 0 0 ∷ []) changes) no_category

-- a free rule with an empty group on one side or on both
abbrev to_any : ℕ → TransferRuleRow
to_any from = record (transfer_rule from 0 0 None) { to = None }

abbrev from_any : ℕ → TransferRuleRow
from_any to = record (transfer_rule 0 to 0 None) { from = None }

abbrev any_to_any : TransferRuleRow
any_to_any = record (transfer_rule 0 0 0 None) { from = None; to = None }

-- bus, rail and tram with these rules
abbrev chain_price : List TransferRuleRow → List (Option ChangeChoice) → Option ℤ
chain_price rules changes = rides_price (record (chain None None) { transfer_rules = rules }) three_rides
    (paid three_legs changes) no_category

-- a rule with a limit of one second, and a change to a leg that departs and arrives before the first one
abbrev one_second : FeedRows
one_second =
    record base {
      transfer_rules = record (transfer_rule 0 0 0 None) { limit = Some (record { seconds = 1; kind = 0 }) } ∷ [];
    }

abbrev back_in_time : TransferFacts
back_in_time =
    record {
      from = record { 0 = 0 };
      to = record { 0 = 0 };
      count = 1;
      first_departure = record { 0 = pos 100 };
      first_arrival = record { 0 = pos 200 };
      next_departure = record { 0 = negsuc 50 };
      next_arrival = record { 0 = pos 60 };
    }

-- what prices of several legs tell of runs, counts and groups
record RunEdges : Type 0 where
  -- the run of the second rail leg starts with the first rail leg, though the change from the bus is arranged
  pub run_after_groups :
      (bus_rail_rail_price None (Some (record { seconds = 900; kind = 1 })) ≡ Some (pos 250))
      × (bus_rail_rail_price None (Some (record { seconds = 899; kind = 1 })) ≡ None)
      × (bus_rail_rail_price (Some 1) None ≡ Some (pos 250))
  -- the third change counts 3, and starts a new run where that is too many
  pub third_change :
      (four_price 2 (free_change 0 ∷ free_change 0 ∷ None ∷ []) ≡ Some (pos 500))
      × (four_price 3 (free_change 0 ∷ free_change 0 ∷ free_change 0 ∷ []) ≡ Some (pos 250))
      × (four_price 1 (free_change 0 ∷ None ∷ free_change 0 ∷ []) ≡ Some (pos 500))
  -- elapsed seconds that are negative are within each limit
  pub negative_seconds : selected_transfers one_second back_in_time ≡ record { 0 = 0 } ∷ []
  -- an empty group that is changed from is not for one that a row names there, and is for the others
  pub empty_from :
      (chain_price (any_to_any ∷ transfer_rule 1 0 0 None ∷ []) (free_change 0 ∷ None ∷ []) ≡ Some (pos 350))
      × (chain_price (any_to_any ∷ transfer_rule 1 0 0 None ∷ []) (free_change 0 ∷ free_change 0 ∷ []) ≡ None)
  -- a row with one empty group is for the other one alone
  pub one_empty_group :
      (chain_price (to_any 0 ∷ []) (free_change 0 ∷ None ∷ []) ≡ Some (pos 350))
      × (chain_price (from_any 2 ∷ []) (None ∷ free_change 0 ∷ []) ≡ Some (pos 650))
      × (chain_price (to_any 0 ∷ []) (free_change 0 ∷ free_change 0 ∷ []) ≡ None)
  -- a group that one column names is not named in the other
  pub own_column : chain_price (to_any 0 ∷ transfer_rule 1 0 0 None ∷ []) (free_change 0 ∷ None ∷ []) ≡ Some (pos 350)

run_edges : RunEdges
unfolding is_ride ride_facts is_active shifts_of calls_of call_at legs_of leg_facts stop_areas holds_at network_matches area_matches frame_matches rule_matches is_top_priority is_selected_rule group_matches limit_holds is_candidate suffices is_least_count is_selected_transfer is_arranged goes_on run_start change_at is_open is_leg_choice is_transfer_choice is_leg_paid is_change_paid is_fare_choice transfer_kind starts_chain is_charged amount_of leg_charge change_charge fare_sum
run_edges = record {
  run_after_groups = (refl, refl, refl);
  third_change = (refl, refl, refl);
  negative_seconds = refl;
  empty_from = (refl, refl);
  one_empty_group = (refl, refl, refl);
  own_column = refl;
}

-- ---- products

-- rows of one product for every rider, for holders of a card and for children; and two rules of one count and different types
abbrev many_rows : FeedRows
many_rows =
    record base {
      riders = record { id = codes "child"; default = false } ∷ [];
      media = record { id = codes "card" } ∷ [];
      products =
          ticket 0 250 ∷ record (ticket 0 200) { medium = Some (record { 0 = 0 }) } ∷ record
          (ticket 0 120) { rider = Some (record { 0 = 0 }) }
          ∷ ticket 1 400 ∷ ticket 2 50 ∷ record (ticket 2 30) { medium = Some (record { 0 = 0 }) } ∷ [];
      transfer_rules = transfer_rule 0 1 0 (Some (record { 0 = 2 })) ∷ transfer_rule 0 1 1
          (Some (record { 0 = 2 })) ∷ [];
    }

abbrev child_price : List LegChoice → Option ℤ
child_price legs = rides_price many_rows one_bus (paid legs []) (of_category 0)

abbrev changed_price : Option ChangeChoice → Option ℤ
changed_price place = rides_price many_rows two_rides (paid (leg 0 0 ∷ leg 1 3 ∷ []) (place ∷ [])) no_category

-- what prices tell of products and of rows of equal counts
record ProductEdges : Type 0 where
  -- each row of a product that is open to the buyer is a ticket, whatever its medium
  pub each_open_row :
      (bus_price many_rows 0 0 ≡ Some (pos 250))
      × (bus_price many_rows 0 1 ≡ Some (pos 200))
  -- a row of a category is for its riders alone, and a row of none for all
  pub riders_of_rows :
      (bus_price many_rows 0 2 ≡ None)
      × (child_price (leg 0 2 ∷ []) ≡ Some (pos 120))
      × (child_price (leg 0 0 ∷ []) ≡ Some (pos 250))
  -- of two rows of one count either is taken, and says which legs are charged
  pub types_of_equal_counts :
      (changed_price (change 0 4) ≡ Some (pos 300))
      × (changed_price (change 1 5) ≡ Some (pos 680))
  -- a rule without product takes no product row
  pub no_product_no_row :
      (rides_price (record base { transfer_rules = transfer_rule 0 1 0 None ∷ [] }) two_rides
      (paid (leg 0 0 ∷ leg 1 1 ∷ []) (change 0 2 ∷ [])) no_category ≡ None)
      × (rides_price (record base { transfer_rules = transfer_rule 0 1 0 None ∷ [] }) two_rides
      (paid (leg 0 0 ∷ leg 1 1 ∷ []) (free_change 0 ∷ [])) no_category ≡ Some (pos 250))

product_edges : ProductEdges
unfolding is_ride ride_facts is_active shifts_of calls_of call_at legs_of leg_facts stop_areas holds_at network_matches area_matches frame_matches rule_matches is_top_priority is_selected_rule group_matches limit_holds is_candidate suffices is_least_count is_selected_transfer is_arranged goes_on run_start change_at is_open is_leg_choice is_transfer_choice is_leg_paid is_change_paid is_fare_choice transfer_kind starts_chain is_charged amount_of leg_charge change_charge fare_sum
product_edges = record {
  each_open_row = (refl, refl);
  riders_of_rows = (refl, refl, refl);
  types_of_equal_counts = (refl, refl);
  no_product_no_row = (refl, refl);
}

-- rows that the feed lacks and places that a choice lacks cost nothing; no fare choice has such
absent_amounts :
    (amount_of base (record { 0 = 9 }) ≡ pos 0)
    × (leg_amount base (paid (leg 0 0 ∷ []) []) 1 ≡ pos 0)
    × (change_charge base (paid (leg 0 0 ∷ []) []) 0 ≡ pos 0)
    × (fare_sum base (paid (leg 0 9 ∷ []) []) ≡ pos 0)
unfolding transfer_kind starts_chain is_charged amount_of leg_charge change_charge fare_sum
absent_amounts = (refl, refl, refl, refl)
