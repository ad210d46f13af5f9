-- Worked examples of leg rules at edges that the others leave out: areas that a leg goes to, a stop in two areas, networks where
-- there are priorities, priorities of rules that don't match, and timeframe groups of several rows.
use Rattle.std.proofs.Common.{◌≡◌, refl, ℕ, Bool, true, false, List, [], ◌∷◌, ◌+◌, ◌*◌}
use Rattle.std.specs.Prelude.{Option, Some, None, ℤ, pos, codes}
use Rattle.feed_rows.specs.FeedRows.{FeedRows}
use Rattle.feed_rows.specs.declared.rows.StopAreaRow.{StopAreaRow}
use Rattle.feed_rows.specs.declared.rows.LegRuleRow.{LegRuleRow}
use Rattle.feed_rows.specs.declared.rows.TimeframeRow.{TimeframeRow}
use Rattle.feed_rows.specs.declared.journeys.Ride.{Ride}
use Rattle.feed_rows.specs.ServiceDays.{is_active}
use Rattle.feed_rows.specs.Calls.{call_at, calls_of}
use Rattle.feed_rows.specs.Shifts.{shifts_of}
use Rattle.feed_rows.specs.Rides.{is_ride, ride_facts}
use Rattle.feed_rows.specs.Legs.{stop_areas, holds_at, leg_facts, legs_of}
use Rattle.feed_rows.specs.LegRules.{network_matches, area_matches, frame_matches, rule_matches, is_top_priority, is_selected_rule}
use Rattle.feed_rows.specs.TransferRules.{group_matches, limit_holds, is_candidate, suffices, is_least_count, is_selected_transfer, is_arranged, goes_on, run_start, change_at}
use Rattle.feed_rows.specs.FareChoices.{is_open, is_leg_choice, is_transfer_choice, is_leg_paid, is_change_paid, is_fare_choice}
use Rattle.feed_rows.specs.FareSums.{transfer_kind, starts_chain, is_charged, amount_of, leg_charge, change_charge, fare_sum}
use Rattle.feed_rows.specs.JourneyEntries.{rides_price}
use Rattle.feed_examples.specs.BaseFeed.{base, network_rule, no_category}
use Rattle.feed_examples.proofs.WorkedEntries.{ride, leg, paid}

-- a row of stop_areas.txt
abbrev in_area : ℕ → ℕ → StopAreaRow
in_area area stop = record { area = record { 0 = area }; stop = record { 0 = stop } }

-- T3, a bus from A to C
abbrev pub one_bus : List Ride
one_bus = ride 2 0 1 ∷ []

-- the price of T3 by this rule and product row
abbrev pub bus_price : FeedRows → ℕ → ℕ → Option ℤ
bus_price feed rule product = rides_price feed one_bus (paid (leg rule product ∷ []) []) no_category

-- the base feed with these leg rules and no transfer rule
abbrev with_rules : Bool → List LegRuleRow → FeedRows
with_rules ranked rules = record base { leg_rules = rules; transfer_rules = []; has_priority = ranked }

-- areas z0 and z1, with the stops of these rows
abbrev with_areas : List StopAreaRow → List LegRuleRow → FeedRows
with_areas rows rules =
    record (with_rules false rules) { areas = record { id = codes "z0" } ∷ record { id = codes "z1" } ∷ []; stop_areas = rows }

-- a rule that is for z0 alone
abbrev from_z0 : LegRuleRow → LegRuleRow
from_z0 rule = record rule { from_area = Some (record { 0 = 0 }) }

abbrev to_z0 : LegRuleRow → LegRuleRow
to_z0 rule = record rule { to_area = Some (record { 0 = 0 }) }

-- the bus has no network
abbrev without_network : FeedRows → FeedRows
without_network feed =
    record feed {
      routes = record { id = codes "R1"; network = None } ∷ record {
        id = codes "R2";
        network = Some
            (record { 0 = 1 });
      } ∷ [];
    }

-- a rule for the empty network
abbrev any_network : LegRuleRow
any_network = record (network_rule 1 0 1) { network = None }

-- a row of a timeframe group
abbrev frame_row : ℕ → ℕ → ℕ → ℕ → TimeframeRow
frame_row frame start end service =
    record { frame = record { 0 = frame }; start = start; end = end; service = record { 0 = service } }

-- two timeframe groups that hold all day, and this rule
abbrev all_day : LegRuleRow → FeedRows
all_day rule =
    record (with_rules false (rule ∷ [])) {
      timeframes = frame_row 0 0 86400 0 ∷ frame_row 1 0 86400 0 ∷ [];
      frame_names = codes "a" ∷ codes "b" ∷ [];
    }

-- a bus rule for the second of them at the departure, and for the first at the arrival
abbrev framed_rule : LegRuleRow
framed_rule = record (network_rule 0 0 0) { from_frame = Some (record { 0 = 1 }); to_frame = Some (record { 0 = 0 }) }

-- what the price of T3 tells of leg rules
record LegEdges : Type 0 where
  -- a filled area that a leg goes to is one of the stop where it ends
  pub filled_to_area :
      (bus_price (with_areas (in_area 0 2 ∷ []) (to_z0 (network_rule 0 0 0) ∷ [])) 0 0 ≡ Some (pos 250))
      × (bus_price (with_areas (in_area 0 0 ∷ []) (to_z0 (network_rule 0 0 0) ∷ [])) 0 0 ≡ None)
  -- and one that a leg comes from is one of the stop where it starts
  pub filled_from_area :
      (bus_price (with_areas (in_area 0 0 ∷ []) (from_z0 (network_rule 0 0 0) ∷ [])) 0 0 ≡ Some (pos 250))
      × (bus_price (with_areas (in_area 0 2 ∷ []) (from_z0 (network_rule 0 0 0) ∷ [])) 0 0 ≡ None)
  -- one of the stop's areas is enough for a filled field
  pub one_of_two_areas : bus_price (with_areas (in_area 0 0 ∷ in_area 1 0 ∷ [])
      (from_z0 (network_rule 0 0 0) ∷ [])) 0 0 ≡ Some (pos 250)
  -- an empty field is not for a stop in an area that the column names, even if another of its areas isn't named
  pub one_listed_area : bus_price (with_areas (in_area 0 0 ∷ in_area 1 0 ∷ [])
      (from_z0 (network_rule 0 1 0) ∷ network_rule 1 0 1 ∷ [])) 1 1 ≡ None
  -- nor for one that a leg goes to, unless there are priorities, or the stop in the area is not the one where the leg
  -- ends, or the column names other areas
  pub empty_to_area :
      (bus_price (with_areas (in_area 0 2 ∷ []) (to_z0 (network_rule 0 1 0) ∷ network_rule 1 0 1 ∷ [])) 1 1 ≡ None)
      × (bus_price (record (with_areas (in_area 0 2 ∷ []) (to_z0 (network_rule 0 1 0) ∷ network_rule 1 0 1 ∷ [])) {
        has_priority = true;
      }) 1 1 ≡ Some (pos 400))
      × (bus_price (with_areas (in_area 0 0 ∷ []) (to_z0 (network_rule 0 1 0) ∷ network_rule 1 0 1 ∷ [])) 1 1
      ≡ Some (pos 400))
      × (bus_price (with_areas (in_area 0 2 ∷ []) (from_z0 (network_rule 0 1 0) ∷ network_rule 1 0 1 ∷ [])) 1 1
      ≡ Some (pos 400))
  -- an empty field is for a stop without area, and a filled one isn't
  pub no_area :
      (bus_price (with_areas [] (from_z0 (network_rule 0 1 0) ∷ network_rule 1 0 1 ∷ [])) 1 1 ≡ Some (pos 400))
      × (bus_price (with_areas [] (from_z0 (network_rule 0 0 0) ∷ [])) 0 0 ≡ None)
  -- where there are priorities the empty network is for a leg without network too
  pub no_network_ranked : bus_price (without_network (with_rules true (network_rule 0 0 0 ∷ any_network ∷ []))) 1 1
      ≡ Some (pos 400)
  -- and for one whose network a rule names
  pub named_network_ranked : bus_price (with_rules true (network_rule 0 0 0 ∷ any_network ∷ [])) 1 1 ≡ Some (pos 400)
  -- a rule that doesn't match stands in nobody's way, whatever its priority
  pub other_priority : bus_price (with_rules true
      (network_rule 0 0 0 ∷ record (network_rule 1 1 1) { priority = 9 } ∷ [])) 0 0 ≡ Some (pos 250)
  -- one of the groups that hold is enough, and an empty field asks for none
  pub one_of_two_frames :
      (bus_price (all_day framed_rule) 0 0 ≡ Some (pos 250))
      × (bus_price (all_day (network_rule 0 0 0)) 0 0 ≡ Some (pos 250))

leg_edges : LegEdges
unfolding is_ride ride_facts is_active shifts_of calls_of call_at legs_of leg_facts stop_areas holds_at network_matches area_matches frame_matches rule_matches is_top_priority is_selected_rule group_matches limit_holds is_candidate suffices is_least_count is_selected_transfer is_arranged goes_on run_start change_at is_open is_leg_choice is_transfer_choice is_leg_paid is_change_paid is_fare_choice transfer_kind starts_chain is_charged amount_of leg_charge change_charge fare_sum
leg_edges = record {
  filled_to_area = (refl, refl);
  filled_from_area = (refl, refl);
  one_of_two_areas = refl;
  one_listed_area = refl;
  empty_to_area = (refl, refl, refl, refl);
  no_area = (refl, refl);
  no_network_ranked = refl;
  named_network_ranked = refl;
  other_priority = refl;
  one_of_two_frames = (refl, refl);
}

-- a group of two rows, the later of a service with a calendar row from Monday 2025-06-02 on, and a group of another row
abbrev two_frames : FeedRows
two_frames =
    record base {
      services =
          record {
            service = record { 0 = 1 };
            days = true ∷ false ∷ false ∷ false ∷ false ∷ false ∷ false ∷ [];
            first = record { 0 = pos 20241 };
            last = record { 0 = pos 20300 };
          }
          ∷ [];
      timeframes = frame_row 0 0 600 0 ∷ frame_row 0 600 1200 1 ∷ frame_row 1 1200 1300 0 ∷ [];
      service_names = codes "W" ∷ codes "M" ∷ [];
      frame_names = codes "early" ∷ codes "later" ∷ [];
    }

-- whether the first group holds so many seconds after the start of a day
abbrev early : ℕ → ℕ → Bool
early day seconds = holds_at two_frames (record { 0 = 0 }) (pos (day * 86400 + seconds))

-- when a group of two rows holds
record FrameEdges : Type 0 where
  -- each of its rows counts, on the days of its own service
  pub each_row :
      (early 20241 599 ≡ true)
      × (early 20241 600 ≡ true)
      × (early 20248 1199 ≡ true)
      × (early 20248 599 ≡ false)
      × (early 20242 700 ≡ false)
  -- a row of another group doesn't
  pub own_rows :
      (early 20241 1200 ≡ false)
      × (holds_at two_frames (record { 0 = 1 }) (pos (20241 * 86400 + 1200)) ≡ true)
      × (holds_at two_frames (record { 0 = 1 }) (pos (20241 * 86400)) ≡ false)

frame_edges : FrameEdges
unfolding is_ride ride_facts is_active shifts_of calls_of call_at legs_of leg_facts stop_areas holds_at network_matches area_matches frame_matches rule_matches is_top_priority is_selected_rule group_matches limit_holds is_candidate suffices is_least_count is_selected_transfer is_arranged goes_on run_start change_at is_open is_leg_choice is_transfer_choice is_leg_paid is_change_paid is_fare_choice transfer_kind starts_chain is_charged amount_of leg_charge change_charge fare_sum
frame_edges = record {
  each_row = (refl, refl, refl, refl, refl);
  own_rows = (refl, refl, refl);
}
