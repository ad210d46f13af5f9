-- Worked examples of what leg rules look at, at its edges: the areas of a stop, empty fields, priorities and timeframe
-- groups after midnight.
use Rattle.std.proofs.Common.{◌≡◌, refl, ℕ, Bool, true, false, List, [], ◌∷◌, ◌+◌, ◌-◌, ◌*◌}
use Rattle.std.specs.Prelude.{Option, Some, None, ℤ, pos, codes}
use Rattle.feed_rows.specs.FeedRows.{FeedRows}
use Rattle.feed_rows.specs.declared.rows.StopAreaRow.{StopAreaRow}
use Rattle.feed_rows.specs.declared.journeys.Ride.{Ride}
use Rattle.feed_rows.specs.ServiceDays.{is_active}
use Rattle.feed_rows.specs.Calls.{call_at, calls_of}
use Rattle.feed_rows.specs.Shifts.{shifts_of}
use Rattle.feed_rows.specs.Rides.{is_ride, ride_facts}
use Rattle.feed_rows.specs.StopLinks.{link, stop_set}
use Rattle.feed_rows.specs.Legs.{stop_areas, holds_at, leg_facts, legs_of}
use Rattle.feed_rows.specs.LegRules.{network_matches, area_matches, frame_matches, rule_matches, is_top_priority, is_selected_rule}
use Rattle.feed_rows.specs.TransferRules.{group_matches, limit_holds, is_candidate, suffices, is_least_count, is_selected_transfer, is_arranged, goes_on, run_start, change_at}
use Rattle.feed_rows.specs.FareChoices.{is_open, is_leg_choice, is_transfer_choice, is_leg_paid, is_change_paid, is_fare_choice}
use Rattle.feed_rows.specs.FareSums.{transfer_kind, starts_chain, is_charged, amount_of, leg_charge, change_charge, fare_sum}
use Rattle.feed_rows.specs.JourneyEntries.{rides_price}
use Rattle.feed_examples.proofs.EntryChecks.{entry_test}
use Rattle.feed_examples.specs.BaseFeed.{base, platform, call, ticket, network_rule, no_category, of_category}
use Rattle.feed_examples.proofs.WorkedEntries.{ride, leg, paid}

-- a row of stop_areas.txt
abbrev in_area : ℕ → ℕ → StopAreaRow
in_area area stop = record { area = record { 0 = area }; stop = record { 0 = stop } }

-- T3 from A to C
abbrev one_bus : List Ride
one_bus = ride 2 0 1 ∷ []

-- the price of T3 by this rule and product row
abbrev bus_price : FeedRows → ℕ → ℕ → Option ℤ
bus_price feed rule product = rides_price feed one_bus (paid (leg rule product ∷ []) []) no_category

-- ---- areas

-- platforms A and B of station P, an entrance E, and platform Q; A is in z2 and z0, with a row that stands twice, P in z1,
-- and E in z0
abbrev zoned : FeedRows
zoned =
    record base {
      stops =
          record { id = codes "A"; kind = 0; parent = Some (record { 0 = 2 }) }
          ∷ record { id = codes "B"; kind = 0; parent = Some (record { 0 = 2 }) }
          ∷ record { id = codes "P"; kind = 1; parent = None }
          ∷ record { id = codes "E"; kind = 2; parent = None }
          ∷ platform (codes "Q")
          ∷ [];
      areas = record { id = codes "z0" } ∷ record { id = codes "z1" } ∷ record { id = codes "z2" } ∷ [];
      stop_areas = in_area 2 0 ∷ in_area 0 0 ∷ in_area 2 0 ∷ in_area 1 2 ∷ in_area 0 3 ∷ [];
    }

-- a platform's own areas are ascending and stand once, and go before its station's, which a platform without rows has
areas_of_platforms : (stop_areas zoned (record { 0 = 0 }) ≡ record { 0 = 0 } ∷ record { 0 = 2 } ∷ []) × (stop_areas zoned (record { 0 = 1 }) ≡ record { 0 = 1 } ∷ []) × (stop_areas zoned (record { 0 = 4 }) ≡ [])
unfolding stop_areas
areas_of_platforms = (refl, refl, refl)

-- a station has its own; a stop of another kind has none, though it has rows, nor has a stop that is none
areas_of_others : (stop_areas zoned (record { 0 = 2 }) ≡ record { 0 = 1 } ∷ []) × (stop_areas zoned (record { 0 = 3 }) ≡ []) × (stop_areas zoned (record { 0 = 9 }) ≡ [])
unfolding stop_areas
areas_of_others = (refl, refl, refl)

-- a stop is in z0, which a rail rule names as the area it comes from; a bus rule has both areas empty
abbrev area_rules : Bool → ℕ → FeedRows
area_rules ranked stop =
    record base {
      areas = record { id = codes "z0" } ∷ [];
      stop_areas = in_area 0 stop ∷ [];
      leg_rules = record (network_rule 0 1 0) { from_area = Some (record { 0 = 0 }) } ∷ network_rule 1 0 1 ∷ [];
      transfer_rules = [];
      has_priority = ranked;
    }

-- the empty field that a leg comes from is not for z0, which that column names, unless there are priorities
empty_from_area : (bus_price (area_rules false 0) 1 1 ≡ None) × (bus_price (area_rules true 0) 1 1 ≡ Some (pos 400))
unfolding entry_test is_ride ride_facts is_active shifts_of calls_of call_at link stop_set legs_of leg_facts stop_areas holds_at network_matches area_matches frame_matches rule_matches is_top_priority is_selected_rule group_matches limit_holds is_candidate suffices is_least_count is_selected_transfer is_arranged goes_on run_start change_at is_open is_leg_choice is_transfer_choice is_leg_paid is_change_paid is_fare_choice transfer_kind starts_chain is_charged amount_of leg_charge change_charge fare_sum
empty_from_area = (refl, refl)

-- the empty field that a leg goes to is for z0, since the column it goes by doesn't name it
empty_to_area : bus_price (area_rules false 2) 1 1 ≡ Some (pos 400)
unfolding entry_test is_ride ride_facts is_active shifts_of calls_of call_at link stop_set legs_of leg_facts stop_areas holds_at network_matches area_matches frame_matches rule_matches is_top_priority is_selected_rule group_matches limit_holds is_candidate suffices is_least_count is_selected_transfer is_arranged goes_on run_start change_at is_open is_leg_choice is_transfer_choice is_leg_paid is_change_paid is_fare_choice transfer_kind starts_chain is_charged amount_of leg_charge change_charge fare_sum
empty_to_area = refl

-- ---- networks

-- the bus route has no network, and a rule has none; another rule names the bus network
abbrev no_network : FeedRows
no_network =
    record base {
      routes =
          record { id = codes "R1"; network = None } ∷ record { id = codes "R2"; network = Some (record { 0 = 1 }) } ∷ [];
      leg_rules = network_rule 0 0 0 ∷ record (network_rule 1 0 1) { network = None } ∷ [];
      transfer_rules = [];
    }

-- the empty network is for a leg without network, and for one whose network no rule names; a filled one is for neither
empty_network : (bus_price no_network 0 0 ≡ None) × (bus_price no_network 1 1 ≡ Some (pos 400)) × (rides_price no_network (ride 1 0 1 ∷ []) (paid (leg 1 1 ∷ []) []) no_category ≡ Some (pos 400))
unfolding entry_test is_ride ride_facts is_active shifts_of calls_of call_at link stop_set legs_of leg_facts stop_areas holds_at network_matches area_matches frame_matches rule_matches is_top_priority is_selected_rule group_matches limit_holds is_candidate suffices is_least_count is_selected_transfer is_arranged goes_on run_start change_at is_open is_leg_choice is_transfer_choice is_leg_paid is_change_paid is_fare_choice transfer_kind starts_chain is_charged amount_of leg_charge change_charge fare_sum
empty_network = (refl, refl, refl)

-- it is not for one whose network a rule names
named_network : bus_price (record base { leg_rules = network_rule 0 0 0 ∷ record (network_rule 1 0 1) { network = None } ∷ [] }) 1 1 ≡ None
unfolding entry_test is_ride ride_facts is_active shifts_of calls_of call_at link stop_set legs_of leg_facts stop_areas holds_at network_matches area_matches frame_matches rule_matches is_top_priority is_selected_rule group_matches limit_holds is_candidate suffices is_least_count is_selected_transfer is_arranged goes_on run_start change_at is_open is_leg_choice is_transfer_choice is_leg_paid is_change_paid is_fare_choice transfer_kind starts_chain is_charged amount_of leg_charge change_charge fare_sum
named_network = refl

-- ---- priorities

-- bus rules of priorities 4, 5, 5 and 0
abbrev ranked : FeedRows
ranked =
    record base {
      leg_rules =
          record (network_rule 0 0 0) { priority = 4 } ∷ record (network_rule 0 0 1) { priority = 5 }
          ∷ record (network_rule 1 0 2) { priority = 5 } ∷ network_rule 0 0 0 ∷ [];
      has_priority = true;
      riders = record { id = codes "child"; default = false } ∷ [];
      transfer_rules = [];
    }

-- the rider picks one of the two of priority 5, and none of a lower one
top_priorities : (bus_price ranked 1 1 ≡ Some (pos 400)) × (bus_price ranked 2 2 ≡ Some (pos 50)) × (bus_price ranked 0 0 ≡ None) × (bus_price ranked 3 0 ≡ None)
unfolding entry_test is_ride ride_facts is_active shifts_of calls_of call_at link stop_set legs_of leg_facts stop_areas holds_at network_matches area_matches frame_matches rule_matches is_top_priority is_selected_rule group_matches limit_holds is_candidate suffices is_least_count is_selected_transfer is_arranged goes_on run_start change_at is_open is_leg_choice is_transfer_choice is_leg_paid is_change_paid is_fare_choice transfer_kind starts_chain is_charged amount_of leg_charge change_charge fare_sum
top_priorities = (refl, refl, refl, refl)

-- the products of priority 5 are for children alone
abbrev ranked_for_child : FeedRows
ranked_for_child =
    record ranked {
      products =
          ticket 0 250 ∷ record (ticket 1 400) { rider = Some (record { 0 = 0 }) }
          ∷ record (ticket 2 50) { rider = Some (record { 0 = 0 }) } ∷ [];
    }

-- a rule whose product has no row for the buyer stays the selected one: the lower priority doesn't step in
closed_top : (rides_price ranked_for_child one_bus (paid (leg 0 0 ∷ []) []) no_category ≡ None) × (rides_price ranked_for_child one_bus (paid (leg 1 1 ∷ []) []) (of_category 0) ≡ Some (pos 400))
unfolding entry_test is_ride ride_facts is_active shifts_of calls_of call_at link stop_set legs_of leg_facts stop_areas holds_at network_matches area_matches frame_matches rule_matches is_top_priority is_selected_rule group_matches limit_holds is_candidate suffices is_least_count is_selected_transfer is_arranged goes_on run_start change_at is_open is_leg_choice is_transfer_choice is_leg_paid is_change_paid is_fare_choice transfer_kind starts_chain is_charged amount_of leg_charge change_charge fare_sum
closed_top = (refl, refl)

-- ---- timeframe groups

-- T3 leaves at 23:50:00 and arrives at 00:10:00; the group late is of W, which is active on that day, all day long; the group
-- next is of M, active on the day after, for the one second 00:10:00
abbrev over_midnight : FeedRows
over_midnight =
    record base {
      stop_times = call 2 0 1 85800 ∷ call 2 2 2 87000 ∷ [];
      exceptions =
          record { service = record { 0 = 0 }; day = record { 0 = pos 20241 }; added = true }
          ∷ record { service = record { 0 = 1 }; day = record { 0 = pos 20242 }; added = true } ∷ [];
      timeframes =
          record { frame = record { 0 = 0 }; start = 0; end = 86400; service = record { 0 = 0 } }
          ∷ record { frame = record { 0 = 1 }; start = 600; end = 601; service = record { 0 = 1 } } ∷ [];
      frame_names = codes "late" ∷ codes "next" ∷ [];
      service_names = codes "W" ∷ codes "M" ∷ [];
      leg_rules =
          record (network_rule 0 0 0) { from_frame = Some (record { 0 = 0 }); to_frame = Some (record { 0 = 1 }) }
          ∷ record (network_rule 0 0 1) { to_frame = Some (record { 0 = 0 }) }
          ∷ record (network_rule 0 0 1) { from_frame = Some (record { 0 = 1 }) } ∷ [];
      transfer_rules = [];
    }

-- the group a leg comes from is judged at its departure, and the one it goes to at its arrival, on the day of that moment
frames_at_ends : (bus_price over_midnight 0 0 ≡ Some (pos 250)) × (bus_price over_midnight 1 1 ≡ None) × (bus_price over_midnight 2 1 ≡ None)
unfolding entry_test is_ride ride_facts is_active shifts_of calls_of call_at link stop_set legs_of leg_facts stop_areas holds_at network_matches area_matches frame_matches rule_matches is_top_priority is_selected_rule group_matches limit_holds is_candidate suffices is_least_count is_selected_transfer is_arranged goes_on run_start change_at is_open is_leg_choice is_transfer_choice is_leg_paid is_change_paid is_fare_choice transfer_kind starts_chain is_charged amount_of leg_charge change_charge fare_sum
frames_at_ends = (refl, refl, refl)

-- a group holds from its start until before its end, on days of its service
frame_seconds : (holds_at over_midnight (record { 0 = 1 }) (pos (20242 * 86400 + 600)) ≡ true) × (holds_at over_midnight (record { 0 = 1 }) (pos (20242 * 86400 + 601)) ≡ false) × (holds_at over_midnight (record { 0 = 0 }) (pos (20242 * 86400)) ≡ false) × (holds_at over_midnight (record { 0 = 0 }) (pos (20242 * 86400 - 1)) ≡ true) × (holds_at over_midnight (record { 0 = 7 }) (pos (20242 * 86400 - 1)) ≡ false)
unfolding holds_at is_active
frame_seconds = (refl, refl, refl, refl, refl)
