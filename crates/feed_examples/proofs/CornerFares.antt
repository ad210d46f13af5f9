-- Worked examples of transfer rules and prices at their edges: chains of each two types, limits and counts along a run, empty
-- group fields, products closed to the buyer, and choices that name rows which are not there.
use Rattle.std.proofs.Common.{◌≡◌, refl, ℕ, false, List, [], ◌∷◌, ◌++◌}
use Rattle.std.specs.Prelude.{Option, Some, None, ℤ, pos, negsuc, codes}
use Rattle.feed_rows.specs.FeedRows.{FeedRows}
use Rattle.feed_rows.specs.declared.rows.Limit.{Limit}
use Rattle.feed_rows.specs.declared.rows.TransferRuleRow.{TransferRuleRow}
use Rattle.feed_rows.specs.declared.journeys.Ride.{Ride}
use Rattle.feed_rows.specs.declared.fares.LegChoice.{LegChoice}
use Rattle.feed_rows.specs.declared.fares.ChangeChoice.{ChangeChoice}
use Rattle.feed_rows.specs.ServiceDays.{is_active}
use Rattle.feed_rows.specs.Calls.{call_at, calls_of}
use Rattle.feed_rows.specs.Shifts.{shifts_of}
use Rattle.feed_rows.specs.Rides.{is_ride, ride_facts}
use Rattle.feed_rows.specs.StopLinks.{link, stop_set}
use Rattle.feed_rows.specs.Legs.{stop_areas, holds_at, leg_facts, legs_of}
use Rattle.feed_rows.specs.LegRules.{network_matches, area_matches, frame_matches, rule_matches, is_top_priority, is_selected_rule}
use Rattle.feed_rows.specs.TransferRules.{group_matches, limit_holds, is_candidate, suffices, is_least_count, is_selected_transfer, is_arranged, goes_on, run_start, change_at}
use Rattle.feed_rows.specs.FareChoices.{is_open, is_leg_choice, is_transfer_choice, is_leg_paid, is_change_paid, is_fare_choice}
use Rattle.feed_rows.specs.FareSums.{transfer_kind, starts_chain, is_charged, amount_of, leg_charge, change_charge, fare_sum}
use Rattle.feed_rows.specs.JourneyEntries.{rides_price}
use Rattle.feed_examples.proofs.EntryChecks.{entry_test}
use Rattle.feed_examples.specs.BaseFeed.{base, platform, trip, call, ticket, network_rule, transfer_rule, no_category, of_category}
use Rattle.feed_examples.proofs.WorkedEntries.{ride, leg, change, free_change, two_rides, paid}

-- a transfer rule of this type with a product, where there is a type
abbrev rule_if : ℕ → ℕ → Option ℕ → ℕ → List TransferRuleRow
rule_if from to None product = []
rule_if from to (Some kind) product = transfer_rule from to kind (Some (record { 0 = product })) ∷ []

-- the number of the second rule of these
abbrev rules_before : Option ℕ → ℕ
rules_before None = 0
rules_before (Some kind) = 1

-- the choice for a change, where its rule has a type
abbrev change_if : Option ℕ → ℕ → ℕ → Option ChangeChoice
change_if None product rule = None
change_if (Some kind) product rule = change rule product

-- bus U1 from A to B, rail U2 from B to C, tram U3 from C to D, with a transfer rule of these types from bus to rail and from
-- rail to tram
abbrev pub chain : Option ℕ → Option ℕ → FeedRows
chain first second =
    record base {
      stops = platform (codes "A") ∷ platform (codes "B") ∷ platform (codes "C") ∷ platform (codes "D") ∷ [];
      routes =
          record { id = codes "R1"; network = Some (record { 0 = 0 }) }
          ∷ record { id = codes "R2"; network = Some (record { 0 = 1 }) }
          ∷ record { id = codes "R3"; network = Some (record { 0 = 2 }) } ∷ [];
      trips = trip (codes "U1") 0 ∷ trip (codes "U2") 1 ∷ trip (codes "U3") 2 ∷ [];
      stop_times =
          call 0 0 1 28800 ∷ call 0 1 2 29400 ∷ call 1 1 1 29700 ∷ call 1 2 2 30300 ∷ call 2 2 1 30600 ∷ call 2 3 2 31200 ∷ [];
      network_names = codes "bus" ∷ codes "rail" ∷ codes "tram" ∷ [];
      products = ticket 0 250 ∷ ticket 1 400 ∷ ticket 2 100 ∷ ticket 3 50 ∷ ticket 4 7 ∷ [];
      product_names = codes "a" ∷ codes "b" ∷ codes "c" ∷ codes "ab" ∷ codes "bc" ∷ [];
      leg_rules = network_rule 0 0 0 ∷ network_rule 1 1 1 ∷ network_rule 2 2 2 ∷ [];
      group_names = codes "g0" ∷ codes "g1" ∷ codes "g2" ∷ [];
      transfer_rules = rule_if 0 1 first 3 ++ rule_if 1 2 second 4;
    }

-- the three rides, and their tickets of 2.50, 4.00 and 1.00
abbrev three_rides : List Ride
three_rides = ride 0 0 1 ∷ ride 1 0 1 ∷ ride 2 0 1 ∷ []

abbrev pub three_legs : List LegChoice
three_legs = leg 0 0 ∷ leg 1 1 ∷ leg 2 2 ∷ []

-- the price of the three rides with a change of 0.50 and one of 0.07, where these are arranged
abbrev chain_price : Option ℕ → Option ℕ → Option ℤ
chain_price first second = rides_price (chain first second) three_rides (paid three_legs (change_if first 3 0 ∷ change_if second 4 (rules_before first) ∷ [])) no_category

-- ---- types

-- with at most one change arranged: type 0 charges the leg before, type 1 both legs, type 2 neither
one_change : (chain_price None None ≡ Some (pos 750)) × (chain_price (Some 0) None ≡ Some (pos 400)) × (chain_price (Some 1) None ≡ Some (pos 800)) × (chain_price (Some 2) None ≡ Some (pos 150)) × (chain_price None (Some 0) ≡ Some (pos 657)) × (chain_price None (Some 1) ≡ Some (pos 757)) × (chain_price None (Some 2) ≡ Some (pos 257))
unfolding entry_test is_ride ride_facts is_active shifts_of calls_of call_at link stop_set legs_of leg_facts stop_areas holds_at network_matches area_matches frame_matches rule_matches is_top_priority is_selected_rule group_matches limit_holds is_candidate suffices is_least_count is_selected_transfer is_arranged goes_on run_start change_at is_open is_leg_choice is_transfer_choice is_leg_paid is_change_paid is_fare_choice transfer_kind starts_chain is_charged amount_of leg_charge change_charge fare_sum
one_change = (refl, refl, refl, refl, refl, refl, refl)

-- a second change after one of type 0: the leg between is included already
after_type_0 : (chain_price (Some 0) (Some 0) ≡ Some (pos 307)) × (chain_price (Some 0) (Some 1) ≡ Some (pos 407)) × (chain_price (Some 0) (Some 2) ≡ Some (pos 307))
unfolding entry_test is_ride ride_facts is_active shifts_of calls_of call_at link stop_set legs_of leg_facts stop_areas holds_at network_matches area_matches frame_matches rule_matches is_top_priority is_selected_rule group_matches limit_holds is_candidate suffices is_least_count is_selected_transfer is_arranged goes_on run_start change_at is_open is_leg_choice is_transfer_choice is_leg_paid is_change_paid is_fare_choice transfer_kind starts_chain is_charged amount_of leg_charge change_charge fare_sum
after_type_0 = (refl, refl, refl)

-- after one of type 1: the leg between stays charged, under type 2 too, since it is not the first of its chain
after_type_1 : (chain_price (Some 1) (Some 0) ≡ Some (pos 707)) × (chain_price (Some 1) (Some 1) ≡ Some (pos 807)) × (chain_price (Some 1) (Some 2) ≡ Some (pos 707))
unfolding entry_test is_ride ride_facts is_active shifts_of calls_of call_at link stop_set legs_of leg_facts stop_areas holds_at network_matches area_matches frame_matches rule_matches is_top_priority is_selected_rule group_matches limit_holds is_candidate suffices is_least_count is_selected_transfer is_arranged goes_on run_start change_at is_open is_leg_choice is_transfer_choice is_leg_paid is_change_paid is_fare_choice transfer_kind starts_chain is_charged amount_of leg_charge change_charge fare_sum
after_type_1 = (refl, refl, refl)

-- after one of type 2: the first leg is included, and so is the leg between
after_type_2 : (chain_price (Some 2) (Some 0) ≡ Some (pos 57)) × (chain_price (Some 2) (Some 1) ≡ Some (pos 157)) × (chain_price (Some 2) (Some 2) ≡ Some (pos 57))
unfolding entry_test is_ride ride_facts is_active shifts_of calls_of call_at link stop_set legs_of leg_facts stop_areas holds_at network_matches area_matches frame_matches rule_matches is_top_priority is_selected_rule group_matches limit_holds is_candidate suffices is_least_count is_selected_transfer is_arranged goes_on run_start change_at is_open is_leg_choice is_transfer_choice is_leg_paid is_change_paid is_fare_choice transfer_kind starts_chain is_charged amount_of leg_charge change_charge fare_sum
after_type_2 = (refl, refl, refl)

-- a bonus for the change may make the sum negative
bonuses : (rides_price (record base { products = ticket 0 250 ∷ ticket 1 400 ∷ record (ticket 2 0) { amount = record { 0 = negsuc 198 } } ∷ []; transfer_rules = transfer_rule 0 1 2 (Some (record { 0 = 2 })) ∷ [] }) two_rides (paid (leg 0 0 ∷ leg 1 1 ∷ []) (change 0 2 ∷ [])) no_category ≡ Some (negsuc 198)) × (rides_price (record base { products = ticket 0 250 ∷ ticket 1 400 ∷ record (ticket 2 0) { amount = record { 0 = negsuc 198 } } ∷ [] }) two_rides (paid (leg 0 0 ∷ leg 1 1 ∷ []) (change 0 2 ∷ [])) no_category ≡ Some (pos 51))
unfolding entry_test is_ride ride_facts is_active shifts_of calls_of call_at link stop_set legs_of leg_facts stop_areas holds_at network_matches area_matches frame_matches rule_matches is_top_priority is_selected_rule group_matches limit_holds is_candidate suffices is_least_count is_selected_transfer is_arranged goes_on run_start change_at is_open is_leg_choice is_transfer_choice is_leg_paid is_change_paid is_fare_choice transfer_kind starts_chain is_charged amount_of leg_charge change_charge fare_sum
bonuses = (refl, refl)

-- ---- limits and counts along a run

-- the three trips as buses of one group, at 08:00:00 to 08:10:00, 08:15:00 to 08:25:00 and 08:30:00 to 08:40:00
abbrev buses : List TransferRuleRow → FeedRows
buses rows =
    record (chain None None) {
      trips = trip (codes "U1") 0 ∷ trip (codes "U2") 0 ∷ trip (codes "U3") 0 ∷ [];
      transfer_rules = rows;
    }

abbrev bus_legs : List LegChoice
bus_legs = leg 0 0 ∷ leg 0 0 ∷ leg 0 0 ∷ []

-- a free rule within the group
abbrev within_group : Option ℕ → Option Limit → TransferRuleRow
within_group count limit = record (transfer_rule 0 0 0 None) { count = count; limit = limit }

abbrev seconds_of : ℕ → ℕ → Option Limit
seconds_of seconds kind = Some (record { seconds = seconds; kind = kind })

-- a free rule with both groups empty
abbrev any_to_any : Option ℕ → TransferRuleRow
any_to_any count = record (transfer_rule 0 0 0 None) { from = None; to = None; count = count }

-- the price of the three buses with these changes
abbrev bus_price : List TransferRuleRow → List (Option ChangeChoice) → Option ℤ
bus_price rows changes = rides_price (buses rows) three_rides (paid bus_legs changes) no_category

-- a limit at the second change counts from the first leg: it is met exactly for each of the four types
run_limits_met : (bus_price (within_group None (seconds_of 2400 0) ∷ []) (free_change 0 ∷ free_change 0 ∷ []) ≡ Some (pos 250)) × (bus_price (within_group None (seconds_of 1800 1) ∷ []) (free_change 0 ∷ free_change 0 ∷ []) ≡ Some (pos 250)) × (bus_price (within_group None (seconds_of 1200 2) ∷ []) (free_change 0 ∷ free_change 0 ∷ []) ≡ Some (pos 250)) × (bus_price (within_group None (seconds_of 1800 3) ∷ []) (free_change 0 ∷ free_change 0 ∷ []) ≡ Some (pos 250))
unfolding entry_test is_ride ride_facts is_active shifts_of calls_of call_at link stop_set legs_of leg_facts stop_areas holds_at network_matches area_matches frame_matches rule_matches is_top_priority is_selected_rule group_matches limit_holds is_candidate suffices is_least_count is_selected_transfer is_arranged goes_on run_start change_at is_open is_leg_choice is_transfer_choice is_leg_paid is_change_paid is_fare_choice transfer_kind starts_chain is_charged amount_of leg_charge change_charge fare_sum
run_limits_met = (refl, refl, refl, refl)

-- with one second less the second change is not arranged
run_limits_passed : (bus_price (within_group None (seconds_of 2399 0) ∷ []) (free_change 0 ∷ None ∷ []) ≡ Some (pos 500)) × (bus_price (within_group None (seconds_of 1799 1) ∷ []) (free_change 0 ∷ None ∷ []) ≡ Some (pos 500)) × (bus_price (within_group None (seconds_of 1199 2) ∷ []) (free_change 0 ∷ None ∷ []) ≡ Some (pos 500)) × (bus_price (within_group None (seconds_of 1799 3) ∷ []) (free_change 0 ∷ None ∷ []) ≡ Some (pos 500))
unfolding entry_test is_ride ride_facts is_active shifts_of calls_of call_at link stop_set legs_of leg_facts stop_areas holds_at network_matches area_matches frame_matches rule_matches is_top_priority is_selected_rule group_matches limit_holds is_candidate suffices is_least_count is_selected_transfer is_arranged goes_on run_start change_at is_open is_leg_choice is_transfer_choice is_leg_paid is_change_paid is_fare_choice transfer_kind starts_chain is_charged amount_of leg_charge change_charge fare_sum
run_limits_passed = (refl, refl, refl, refl)

-- so its row is not taken
run_limits_strict : (bus_price (within_group None (seconds_of 2399 0) ∷ []) (free_change 0 ∷ free_change 0 ∷ []) ≡ None) × (bus_price (within_group None (seconds_of 1799 1) ∷ []) (free_change 0 ∷ free_change 0 ∷ []) ≡ None) × (bus_price (within_group None (seconds_of 1199 2) ∷ []) (free_change 0 ∷ free_change 0 ∷ []) ≡ None) × (bus_price (within_group None (seconds_of 1799 3) ∷ []) (free_change 0 ∷ free_change 0 ∷ []) ≡ None)
unfolding entry_test is_ride ride_facts is_active shifts_of calls_of call_at link stop_set legs_of leg_facts stop_areas holds_at network_matches area_matches frame_matches rule_matches is_top_priority is_selected_rule group_matches limit_holds is_candidate suffices is_least_count is_selected_transfer is_arranged goes_on run_start change_at is_open is_leg_choice is_transfer_choice is_leg_paid is_change_paid is_fare_choice transfer_kind starts_chain is_charged amount_of leg_charge change_charge fare_sum
run_limits_strict = (refl, refl, refl, refl)

-- each change takes the row with the least count that suffices, whatever the order of the rows; an empty count is the
-- greatest
least_counts : (bus_price (within_group (Some 1) None ∷ []) (free_change 0 ∷ None ∷ []) ≡ Some (pos 500)) × (bus_price (within_group (Some 2) None ∷ within_group (Some 1) None ∷ within_group None None ∷ []) (free_change 1 ∷ free_change 0 ∷ []) ≡ Some (pos 250)) × (bus_price (within_group None None ∷ within_group (Some 1) None ∷ []) (free_change 1 ∷ free_change 0 ∷ []) ≡ Some (pos 250)) × (bus_price (within_group None None ∷ within_group (Some 1) None ∷ []) (free_change 0 ∷ free_change 0 ∷ []) ≡ None)
unfolding entry_test is_ride ride_facts is_active shifts_of calls_of call_at link stop_set legs_of leg_facts stop_areas holds_at network_matches area_matches frame_matches rule_matches is_top_priority is_selected_rule group_matches limit_holds is_candidate suffices is_least_count is_selected_transfer is_arranged goes_on run_start change_at is_open is_leg_choice is_transfer_choice is_leg_paid is_change_paid is_fare_choice transfer_kind starts_chain is_charged amount_of leg_charge change_charge fare_sum
least_counts = (refl, refl, refl, refl)

-- limits are judged before counts: a row whose limit is passed doesn't stand in the way of one with a greater count
limit_before_count : bus_price (within_group (Some 1) (seconds_of 899 1) ∷ within_group (Some 5) None ∷ []) (free_change 1 ∷ free_change 1 ∷ []) ≡ Some (pos 250)
unfolding entry_test is_ride ride_facts is_active shifts_of calls_of call_at link stop_set legs_of leg_facts stop_areas holds_at network_matches area_matches frame_matches rule_matches is_top_priority is_selected_rule group_matches limit_holds is_candidate suffices is_least_count is_selected_transfer is_arranged goes_on run_start change_at is_open is_leg_choice is_transfer_choice is_leg_paid is_change_paid is_fare_choice transfer_kind starts_chain is_charged amount_of leg_charge change_charge fare_sum
limit_before_count = refl

-- of two rows with one count either is taken, where its limit holds
equal_counts : (bus_price (within_group (Some 1) None ∷ within_group (Some 1) (seconds_of 1 0) ∷ []) (free_change 1 ∷ None ∷ []) ≡ None) × (bus_price (within_group (Some 1) None ∷ within_group (Some 1) None ∷ []) (free_change 1 ∷ None ∷ []) ≡ Some (pos 500))
unfolding entry_test is_ride ride_facts is_active shifts_of calls_of call_at link stop_set legs_of leg_facts stop_areas holds_at network_matches area_matches frame_matches rule_matches is_top_priority is_selected_rule group_matches limit_holds is_candidate suffices is_least_count is_selected_transfer is_arranged goes_on run_start change_at is_open is_leg_choice is_transfer_choice is_leg_paid is_change_paid is_fare_choice transfer_kind starts_chain is_charged amount_of leg_charge change_charge fare_sum
equal_counts = (refl, refl)

-- U1 leaves an hour earlier, so the first change passes its limit of 900 seconds from departure to departure
abbrev broken_run : FeedRows
broken_run =
    record (buses (within_group (Some 1) (seconds_of 900 1) ∷ [])) {
      stop_times =
          call 0 0 1 25200 ∷ call 0 1 2 29400 ∷ call 1 1 1 29700 ∷ call 1 2 2 30300 ∷ call 2 2 1 30600 ∷ call 2 3 2 31200 ∷ [];
    }

-- a change that is not arranged starts the run anew: the second change counts 1, from the second leg
run_starts_anew : (rides_price broken_run three_rides (paid bus_legs (None ∷ free_change 0 ∷ [])) no_category ≡ Some (pos 500)) × (rides_price broken_run three_rides (paid bus_legs (None ∷ None ∷ [])) no_category ≡ None) × (rides_price broken_run three_rides (paid bus_legs (free_change 0 ∷ None ∷ [])) no_category ≡ None)
unfolding entry_test is_ride ride_facts is_active shifts_of calls_of call_at link stop_set legs_of leg_facts stop_areas holds_at network_matches area_matches frame_matches rule_matches is_top_priority is_selected_rule group_matches limit_holds is_candidate suffices is_least_count is_selected_transfer is_arranged goes_on run_start change_at is_open is_leg_choice is_transfer_choice is_leg_paid is_change_paid is_fare_choice transfer_kind starts_chain is_charged amount_of leg_charge change_charge fare_sum
run_starts_anew = (refl, refl, refl)

-- ---- empty groups

-- where both groups are empty the rule is for each change between legs with groups, and its count is of the run
empty_groups : (rides_price (record (chain None None) { transfer_rules = any_to_any None ∷ [] }) three_rides (paid three_legs (free_change 0 ∷ free_change 0 ∷ [])) no_category ≡ Some (pos 250)) × (rides_price (record (chain None None) { transfer_rules = any_to_any (Some 1) ∷ [] }) three_rides (paid three_legs (free_change 0 ∷ free_change 0 ∷ [])) no_category ≡ Some (pos 250)) × (bus_price (any_to_any (Some 1) ∷ []) (free_change 0 ∷ None ∷ []) ≡ Some (pos 500)) × (bus_price (any_to_any (Some 2) ∷ []) (free_change 0 ∷ free_change 0 ∷ []) ≡ Some (pos 250))
unfolding entry_test is_ride ride_facts is_active shifts_of calls_of call_at link stop_set legs_of leg_facts stop_areas holds_at network_matches area_matches frame_matches rule_matches is_top_priority is_selected_rule group_matches limit_holds is_candidate suffices is_least_count is_selected_transfer is_arranged goes_on run_start change_at is_open is_leg_choice is_transfer_choice is_leg_paid is_change_paid is_fare_choice transfer_kind starts_chain is_charged amount_of leg_charge change_charge fare_sum
empty_groups = (refl, refl, refl, refl)

-- a leg whose rule has no group is in no arranged change
no_group : rides_price (record (chain None None) { transfer_rules = any_to_any None ∷ []; leg_rules = network_rule 0 0 0 ∷ record (network_rule 1 1 1) { group = None } ∷ network_rule 2 2 2 ∷ [] }) three_rides (paid three_legs (None ∷ None ∷ [])) no_category ≡ Some (pos 750)
unfolding entry_test is_ride ride_facts is_active shifts_of calls_of call_at link stop_set legs_of leg_facts stop_areas holds_at network_matches area_matches frame_matches rule_matches is_top_priority is_selected_rule group_matches limit_holds is_candidate suffices is_least_count is_selected_transfer is_arranged goes_on run_start change_at is_open is_leg_choice is_transfer_choice is_leg_paid is_change_paid is_fare_choice transfer_kind starts_chain is_charged amount_of leg_charge change_charge fare_sum
no_group = refl

-- an empty group is not for one that a row names in that column: here rail, as the group that is changed to
listed_group : rides_price (record (chain None None) { transfer_rules = any_to_any None ∷ transfer_rule 2 1 0 None ∷ [] }) three_rides (paid three_legs (None ∷ free_change 0 ∷ [])) no_category ≡ Some (pos 650)
unfolding entry_test is_ride ride_facts is_active shifts_of calls_of call_at link stop_set legs_of leg_facts stop_areas holds_at network_matches area_matches frame_matches rule_matches is_top_priority is_selected_rule group_matches limit_holds is_candidate suffices is_least_count is_selected_transfer is_arranged goes_on run_start change_at is_open is_leg_choice is_transfer_choice is_leg_paid is_change_paid is_fare_choice transfer_kind starts_chain is_charged amount_of leg_charge change_charge fare_sum
listed_group = refl

-- U3 is rail: changes are free among buses, and from bus to rail within this limit from departure to departure
abbrev bus_bus_rail : ℕ → FeedRows
bus_bus_rail limit =
    record (chain None None) {
      trips = trip (codes "U1") 0 ∷ trip (codes "U2") 0 ∷ trip (codes "U3") 1 ∷ [];
      transfer_rules = within_group None None ∷ record (transfer_rule 0 1 0 None) { limit = seconds_of limit 1 } ∷ [];
    }

abbrev bus_bus_rail_legs : List LegChoice
bus_bus_rail_legs = leg 0 0 ∷ leg 0 0 ∷ leg 1 1 ∷ []

-- between different groups too a limit counts from the run's first leg, which is 1800 seconds before
limit_between_groups : (rides_price (bus_bus_rail 1800) three_rides (paid bus_bus_rail_legs (free_change 0 ∷ free_change 1 ∷ [])) no_category ≡ Some (pos 250)) × (rides_price (bus_bus_rail 1799) three_rides (paid bus_bus_rail_legs (free_change 0 ∷ None ∷ [])) no_category ≡ Some (pos 650)) × (rides_price (bus_bus_rail 1799) three_rides (paid bus_bus_rail_legs (free_change 0 ∷ free_change 1 ∷ [])) no_category ≡ None)
unfolding entry_test is_ride ride_facts is_active shifts_of calls_of call_at link stop_set legs_of leg_facts stop_areas holds_at network_matches area_matches frame_matches rule_matches is_top_priority is_selected_rule group_matches limit_holds is_candidate suffices is_least_count is_selected_transfer is_arranged goes_on run_start change_at is_open is_leg_choice is_transfer_choice is_leg_paid is_change_paid is_fare_choice transfer_kind starts_chain is_charged amount_of leg_charge change_charge fare_sum
limit_between_groups = (refl, refl, refl)

-- and a change between different groups counts 1, however long the run before it
count_between_groups : rides_price (record (bus_bus_rail 0) { transfer_rules = any_to_any (Some 1) ∷ [] }) three_rides (paid bus_bus_rail_legs (free_change 0 ∷ free_change 0 ∷ [])) no_category ≡ Some (pos 250)
unfolding entry_test is_ride ride_facts is_active shifts_of calls_of call_at link stop_set legs_of leg_facts stop_areas holds_at network_matches area_matches frame_matches rule_matches is_top_priority is_selected_rule group_matches limit_holds is_candidate suffices is_least_count is_selected_transfer is_arranged goes_on run_start change_at is_open is_leg_choice is_transfer_choice is_leg_paid is_change_paid is_fare_choice transfer_kind starts_chain is_charged amount_of leg_charge change_charge fare_sum
count_between_groups = refl

-- ---- what is no choice

-- the price of T1 and T2 in the base feed
abbrev base_price : List LegChoice → List (Option ChangeChoice) → Option ℤ
base_price legs changes = rides_price base two_rides (paid legs changes) no_category

-- the product of the change is for children alone
abbrev closed_change : FeedRows
closed_change =
    record base {
      riders = record { id = codes "child"; default = false } ∷ [];
      products = ticket 0 250 ∷ ticket 1 400 ∷ record (ticket 2 50) { rider = Some (record { 0 = 0 }) } ∷ [];
    }

-- where no product row of an arranged change is open to the buyer nothing pays it: it is neither left out nor free
closed_changes : (rides_price closed_change two_rides (paid (leg 0 0 ∷ leg 1 1 ∷ []) (change 0 2 ∷ [])) no_category ≡ None) × (rides_price closed_change two_rides (paid (leg 0 0 ∷ leg 1 1 ∷ []) (None ∷ [])) no_category ≡ None) × (rides_price closed_change two_rides (paid (leg 0 0 ∷ leg 1 1 ∷ []) (free_change 0 ∷ [])) no_category ≡ None)
unfolding entry_test is_ride ride_facts is_active shifts_of calls_of call_at link stop_set legs_of leg_facts stop_areas holds_at network_matches area_matches frame_matches rule_matches is_top_priority is_selected_rule group_matches limit_holds is_candidate suffices is_least_count is_selected_transfer is_arranged goes_on run_start change_at is_open is_leg_choice is_transfer_choice is_leg_paid is_change_paid is_fare_choice transfer_kind starts_chain is_charged amount_of leg_charge change_charge fare_sum
closed_changes = (refl, refl, refl)

-- it is open to riders of its category, and to no others
open_changes : (rides_price closed_change two_rides (paid (leg 0 0 ∷ leg 1 1 ∷ []) (change 0 2 ∷ [])) (of_category 0) ≡ Some (pos 300)) × (rides_price closed_change two_rides (paid (leg 0 0 ∷ leg 1 1 ∷ []) (change 0 2 ∷ [])) (of_category 5) ≡ None)
unfolding entry_test is_ride ride_facts is_active shifts_of calls_of call_at link stop_set legs_of leg_facts stop_areas holds_at network_matches area_matches frame_matches rule_matches is_top_priority is_selected_rule group_matches limit_holds is_candidate suffices is_least_count is_selected_transfer is_arranged goes_on run_start change_at is_open is_leg_choice is_transfer_choice is_leg_paid is_change_paid is_fare_choice transfer_kind starts_chain is_charged amount_of leg_charge change_charge fare_sum
open_changes = (refl, refl)

-- no choice names a leg rule, a product row or a transfer rule that is not there, or a row of another product
absent_rows : (base_price (leg 0 0 ∷ leg 9 1 ∷ []) (None ∷ []) ≡ None) × (base_price (leg 0 0 ∷ leg 1 9 ∷ []) (change 0 2 ∷ []) ≡ None) × (base_price (leg 0 0 ∷ leg 1 1 ∷ []) (change 7 2 ∷ []) ≡ None) × (base_price (leg 0 1 ∷ leg 1 1 ∷ []) (change 0 2 ∷ []) ≡ None) × (base_price (leg 0 0 ∷ leg 1 1 ∷ []) (change 0 1 ∷ []) ≡ None)
unfolding entry_test is_ride ride_facts is_active shifts_of calls_of call_at link stop_set legs_of leg_facts stop_areas holds_at network_matches area_matches frame_matches rule_matches is_top_priority is_selected_rule group_matches limit_holds is_candidate suffices is_least_count is_selected_transfer is_arranged goes_on run_start change_at is_open is_leg_choice is_transfer_choice is_leg_paid is_change_paid is_fare_choice transfer_kind starts_chain is_charged amount_of leg_charge change_charge fare_sum
absent_rows = (refl, refl, refl, refl, refl)

-- a choice has one place for each leg and for each change, no more and no fewer
places : (base_price (leg 0 0 ∷ leg 1 1 ∷ []) (change 0 2 ∷ None ∷ []) ≡ None) × (base_price (leg 0 0 ∷ leg 1 1 ∷ []) [] ≡ None)
unfolding entry_test is_ride ride_facts is_active shifts_of calls_of call_at link stop_set legs_of leg_facts stop_areas holds_at network_matches area_matches frame_matches rule_matches is_top_priority is_selected_rule group_matches limit_holds is_candidate suffices is_least_count is_selected_transfer is_arranged goes_on run_start change_at is_open is_leg_choice is_transfer_choice is_leg_paid is_change_paid is_fare_choice transfer_kind starts_chain is_charged amount_of leg_charge change_charge fare_sum
places = (refl, refl)

-- no rides cost nothing, by the empty choice alone
no_rides_price : (rides_price base [] (paid [] []) no_category ≡ Some (pos 0)) × (rides_price base [] (paid (leg 0 0 ∷ []) []) no_category ≡ None) × (rides_price base [] (paid [] (None ∷ [])) no_category ≡ None)
unfolding entry_test is_ride ride_facts is_active shifts_of calls_of call_at link stop_set legs_of leg_facts stop_areas holds_at network_matches area_matches frame_matches rule_matches is_top_priority is_selected_rule group_matches limit_holds is_candidate suffices is_least_count is_selected_transfer is_arranged goes_on run_start change_at is_open is_leg_choice is_transfer_choice is_leg_paid is_change_paid is_fare_choice transfer_kind starts_chain is_charged amount_of leg_charge change_charge fare_sum
no_rides_price = (refl, refl, refl)
