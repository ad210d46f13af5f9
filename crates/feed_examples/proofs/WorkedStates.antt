-- Worked examples of fare states, and of one more leg after them. Values are worked by hand from the rules, over the
-- base feed and its variants.
use Rattle.std.proofs.Common.{◌≡◌, refl, ℕ, Bool, true, false, List, [], ◌∷◌}
use Rattle.std.specs.Prelude.{Option, Some, None, ℤ, pos, negsuc, option_map}
use Rattle.transit_base.specs.declared.moments.Moment.{Moment}
use Rattle.feed_rows.specs.declared.fares.ChangeChoice.{ChangeChoice}
use Rattle.feed_rows.specs.declared.fares.Choice.{Choice}
use Rattle.feed_rows.specs.declared.journeys.LegFacts.{LegFacts}
use Rattle.feed_rows.specs.declared.rows.Limit.{Limit}
use Rattle.feed_rows.specs.declared.rows.TransferRuleRow.{TransferRuleRow}
use Rattle.feed_rows.specs.declared.states.FareState.{FareState}
use Rattle.feed_rows.specs.declared.states.Move.{Move}
use Rattle.feed_rows.specs.FeedRows.{FeedRows}
use Rattle.feed_rows.specs.TransferRules.{group_matches, limit_holds, is_candidate, suffices, is_least_count, is_selected_transfer, is_arranged, goes_on, run_start}
use Rattle.feed_rows.specs.FareSums.{transfer_kind, starts_chain, is_charged, amount_of, leg_charge, change_charge, fare_sum}
use Rattle.feed_rows.specs.LegRules.{network_matches, area_matches, frame_matches, rule_matches, is_top_priority, is_selected_rule}
use Rattle.feed_rows.specs.FareChoices.{is_open, is_leg_choice}
use Rattle.feed_rows.specs.FareSteps.{is_arranged_after, is_row_after, move_of_first, move_of_next, move_after}
use Rattle.feed_rows.specs.FareStates.{held_amount, paid_amount, greatest_count, is_clock_read, fare_state}
use Rattle.feed_examples.specs.BaseFeed.{base, ticket, network_rule, transfer_rule, on_the_day, no_category}
use Rattle.feed_examples.proofs.WorkedEntries.{leg, change, free_change, paid}
use Rattle.feed_examples.proofs.CornerFares.{chain}

-- ---- legs and states

-- a leg of a network, between two times of 2025-06-02
abbrev pub leg_at : ℕ → ℕ → ℕ → LegFacts
leg_at network departure arrival =
    record {
      network = Some (record { 0 = network });
      from_areas = [];
      to_areas = [];
      from_frames = [];
      to_frames = [];
      departure = record { 0 = pos (on_the_day departure) };
      arrival = record { 0 = pos (on_the_day arrival) };
    }

-- T1, T2 and T3 of the base feed
abbrev pub leg_1 : LegFacts
leg_1 = leg_at 0 28800 29400

abbrev pub leg_2 : LegFacts
leg_2 = leg_at 1 29700 30600

-- buses one after another, each of 10 minutes
abbrev pub bus_1 : LegFacts
bus_1 = leg_at 0 28800 29400

abbrev pub bus_2 : LegFacts
bus_2 = leg_at 0 29700 30300

abbrev pub bus_3 : LegFacts
bus_3 = leg_at 0 30600 31200

abbrev pub bus_4 : LegFacts
bus_4 = leg_at 0 31500 32100

-- a time of 2025-06-02, where there is one
abbrev pub clock : Option ℕ → Option Moment
clock time = option_map (λ t. record { 0 = pos (on_the_day t) }) time

-- a state with this group, count, and clocks, and whether the last leg is the first of its chain
abbrev pub state : Option ℕ → ℕ → Option ℕ → Option ℕ → Bool → FareState
state group count departure arrival first =
    record {
      group = option_map (λ g. record { 0 = g }) group;
      count = count;
      departure = clock departure;
      arrival = clock arrival;
      first = first;
    }

-- base with other transfer rules
abbrev pub with_rules : List TransferRuleRow → FeedRows
with_rules rows = record base { transfer_rules = rows }

-- a rule of this type from bus to rail, with the product of a change
abbrev pub bus_to_rail : ℕ → TransferRuleRow
bus_to_rail kind = transfer_rule 0 1 kind (Some (record { 0 = 2 }))

-- a free rule among buses, for so many changes and within so many seconds
abbrev pub among_buses : Option ℕ → Option Limit → TransferRuleRow
among_buses count limit = record (transfer_rule 0 0 0 None) { count = count; limit = limit }

-- a free rule whose groups are both empty
abbrev pub any_to_any : Option ℕ → TransferRuleRow
any_to_any count = record (transfer_rule 0 0 0 None) { from = None; to = None; count = count }

abbrev pub limit_of : ℕ → ℕ → Option Limit
limit_of seconds kind = Some (record { seconds = seconds; kind = kind })

-- ---- what is held, and what is paid

abbrev pub one_choice : Choice
one_choice = paid (leg 0 0 ∷ []) []

abbrev pub two_choice : Option ChangeChoice → Choice
two_choice place = paid (leg 0 0 ∷ leg 1 1 ∷ []) (place ∷ [])

abbrev pub held_and_paid : FeedRows → Choice → List ℤ
held_and_paid feed choice = held_amount feed choice ∷ paid_amount feed choice ∷ []

record AmountChecks : Type 0 where
  -- without legs, after T1, and after T1 and T2 where no change is arranged
  pub no_leg : held_and_paid base (paid [] []) ≡ pos 0 ∷ pos 0 ∷ []
  pub first_leg : held_and_paid base one_choice ≡ pos 250 ∷ pos 0 ∷ []
  pub unarranged : held_and_paid (with_rules []) (two_choice None) ≡ pos 400 ∷ pos 250 ∷ []
  -- after T1 and T2 with a change of each type
  pub type_0 : held_and_paid base (two_choice (change 0 2)) ≡ pos 0 ∷ pos 300 ∷ []
  pub type_1 : held_and_paid (with_rules (bus_to_rail 1 ∷ [])) (two_choice (change 0 2)) ≡ pos 0 ∷ pos 700 ∷ []
  pub type_2 : held_and_paid (with_rules (bus_to_rail 2 ∷ [])) (two_choice (change 0 2)) ≡ pos 0 ∷ pos 50 ∷ []
  -- a leg after a change that isn't arranged is held, though one before it was
  pub new_chain :
      held_and_paid (chain (Some 0) None) (paid (leg 0 0 ∷ leg 1 1 ∷ leg 2 2 ∷ []) (change 0 3 ∷ None ∷ []))
      ≡ pos 100 ∷ pos 300 ∷ []

amount_checks : AmountChecks
unfolding held_amount paid_amount transfer_kind starts_chain is_charged amount_of leg_charge change_charge fare_sum
amount_checks = record {
  no_leg = refl;
  first_leg = refl;
  unarranged = refl;
  type_0 = refl;
  type_1 = refl;
  type_2 = refl;
  new_chain = refl;
}

-- ---- counts and clocks

abbrev pub greatest : ℕ → List TransferRuleRow → ℕ
greatest group rows = greatest_count (with_rules rows) (record { 0 = group })

record CountChecks : Type 0 where
  pub no_row : greatest 0 [] ≡ 0
  pub unlimited : greatest 0 (among_buses None None ∷ []) ≡ 0
  pub both_orders :
      (greatest 0 (among_buses (Some 1) None ∷ among_buses (Some 3) None ∷ []) ≡ 3)
      × (greatest 0 (among_buses (Some 3) None ∷ among_buses None None ∷ among_buses (Some 1) None ∷ []) ≡ 3)
  pub other_group : greatest 1 (among_buses (Some 3) None ∷ []) ≡ 0
  -- a row with both groups empty is for a group that no row names, in either column
  pub empty_groups :
      (greatest 0 (any_to_any (Some 5) ∷ []) ≡ 5)
      × (greatest 0 (any_to_any (Some 5) ∷ transfer_rule 0 1 0 None ∷ []) ≡ 0)
      × (greatest 1 (any_to_any (Some 5) ∷ transfer_rule 0 1 0 None ∷ []) ≡ 0)

count_checks : CountChecks
unfolding greatest_count group_matches
count_checks = record {
  no_row = refl;
  unlimited = refl;
  both_orders = (refl, refl);
  other_group = refl;
  empty_groups = (refl, refl, refl);
}

-- ---- states

-- the state after buses one after another, all changes arranged by row 0
abbrev pub buses_state : List TransferRuleRow → List LegFacts → List (Option ChangeChoice) → Option FareState
buses_state rows legs places = fare_state (with_rules rows) legs (paid (leg 0 0 ∷ leg 0 0 ∷ leg 0 0 ∷ leg 0 0 ∷ []) places)

-- the state after T1
abbrev pub first_state : List TransferRuleRow → Option FareState
first_state rows = fare_state (with_rules rows) (leg_1 ∷ []) one_choice

-- the state after T1 and T2
abbrev pub second_state : List TransferRuleRow → Option ChangeChoice → Option FareState
second_state rows place = fare_state (with_rules rows) (leg_1 ∷ leg_2 ∷ []) (two_choice place)

record StateChecks : Type 0 where
  pub no_leg : fare_state base [] (paid [] []) ≡ None
  -- the clock that a row from the group reads, by the type of its limit; none is read where rows have no limit, or are
  -- from another group
  pub clocks :
      (first_state (bus_to_rail 0 ∷ []) ≡ Some (state (Some 0) 0 None None true))
      × (first_state (record (bus_to_rail 0) { limit = limit_of 60 0 } ∷ []) ≡ Some (state (Some 0) 0 (Some 28800) None true))
      × (first_state (record (bus_to_rail 0) { limit = limit_of 60 1 } ∷ []) ≡ Some (state (Some 0) 0 (Some 28800) None true))
      × (first_state (record (bus_to_rail 0) { limit = limit_of 60 2 } ∷ []) ≡ Some (state (Some 0) 0 None (Some 29400) true))
      × (first_state (record (bus_to_rail 0) { limit = limit_of 60 3 } ∷ []) ≡ Some (state (Some 0) 0 None (Some 29400) true))
      × (first_state (record (bus_to_rail 0) { limit = limit_of 60 1 } ∷ record (bus_to_rail 0) { limit = limit_of 60 3 } ∷ [])
      ≡ Some (state (Some 0) 0 (Some 28800) (Some 29400) true))
      × (first_state (record (transfer_rule 1 0 0 None) { limit = limit_of 60 1 } ∷ []) ≡ Some (state (Some 0) 0 None None true))
  -- a row whose empty field is for the group reads its clock: where no row names the group in this column, whatever the
  -- other column names
  pub empty_from :
      (first_state (record (any_to_any None) { limit = limit_of 60 1 } ∷ [])
      ≡ Some (state (Some 0) 0 (Some 28800) None true))
      × (first_state (record (any_to_any None) { limit = limit_of 60 2 } ∷ [])
      ≡ Some (state (Some 0) 0 None (Some 29400) true))
      × (first_state (record (any_to_any None) { limit = limit_of 60 1 } ∷ bus_to_rail 0 ∷ [])
      ≡ Some (state (Some 0) 0 None None true))
      × (first_state (record (any_to_any None) { limit = limit_of 60 1 } ∷ transfer_rule 1 0 0 None ∷ [])
      ≡ Some (state (Some 0) 0 (Some 28800) None true))
  -- T2 is the first of its chain where the change to it isn't arranged, and the first of its run in either case
  pub second :
      (second_state [] None ≡ Some (state (Some 1) 0 None None true))
      × (second_state (record (bus_to_rail 0) { limit = limit_of 900 1 } ∷ []) (change 0 2) ≡ Some (state (Some 1) 0 None None false))
  -- a run's clocks are those of its first leg, and a change between groups starts a run
  pub first_of_run :
      (buses_state (among_buses None (limit_of 900 1) ∷ []) (bus_1 ∷ bus_2 ∷ []) (free_change 0 ∷ [])
      ≡ Some (state (Some 0) 1 (Some 28800) None false))
      × (buses_state (among_buses None (limit_of 300 2) ∷ []) (bus_1 ∷ bus_2 ∷ []) (free_change 0 ∷ [])
      ≡ Some (state (Some 0) 1 None (Some 29400) false))
      × (fare_state (with_rules (bus_to_rail 0 ∷ record (transfer_rule 1 1 0 None) { count = Some 4; limit = limit_of 900 1 } ∷ []))
      (leg_1 ∷ leg_2 ∷ leg_at 1 30600 31200 ∷ []) (paid (leg 0 0 ∷ leg 1 1 ∷ leg 1 1 ∷ []) (change 0 2 ∷ free_change 1 ∷ []))
      ≡ Some (state (Some 1) 1 (Some 29700) None false))
  -- numbers of changes up to the greatest count stand as they are, and all past it are one
  pub capped :
      (buses_state (among_buses (Some 1) None ∷ among_buses None None ∷ []) (bus_1 ∷ bus_2 ∷ []) (free_change 0 ∷ [])
      ≡ Some (state (Some 0) 1 None None false))
      × (buses_state (among_buses (Some 1) None ∷ among_buses None None ∷ []) (bus_1 ∷ bus_2 ∷ bus_3 ∷ []) (free_change 0 ∷ free_change 1 ∷ [])
      ≡ Some (state (Some 0) 2 None None false))
      × (buses_state (among_buses (Some 1) None ∷ among_buses None None ∷ []) (bus_1 ∷ bus_2 ∷ bus_3 ∷ bus_4 ∷ [])
      (free_change 0 ∷ free_change 1 ∷ free_change 1 ∷ [])
      ≡ Some (state (Some 0) 2 None None false))
      × (buses_state (among_buses None None ∷ []) (bus_1 ∷ bus_2 ∷ bus_3 ∷ []) (free_change 0 ∷ free_change 0 ∷ [])
      ≡ Some (state (Some 0) 1 None None false))
  -- a count that is exceeded ends the run
  pub exceeded :
      buses_state (among_buses (Some 1) (limit_of 900 1) ∷ []) (bus_1 ∷ bus_2 ∷ bus_3 ∷ []) (free_change 0 ∷ None ∷ [])
      ≡ Some (state (Some 0) 0 (Some 30600) None true)
  -- a limit that is met exactly holds, and one second less ends the run
  pub met_exactly :
      (buses_state (among_buses None (limit_of 1800 1) ∷ []) (bus_1 ∷ bus_2 ∷ bus_3 ∷ []) (free_change 0 ∷ free_change 0 ∷ [])
      ≡ Some (state (Some 0) 1 (Some 28800) None false))
      × (buses_state (among_buses None (limit_of 1799 1) ∷ []) (bus_1 ∷ bus_2 ∷ bus_3 ∷ []) (free_change 0 ∷ None ∷ [])
      ≡ Some (state (Some 0) 0 (Some 30600) None true))
  -- a leg without group has no count and no clock
  pub no_group :
      fare_state (record base { leg_rules = record (network_rule 0 0 0) { group = None } ∷ []; transfer_rules = record (any_to_any None) { limit = limit_of 60 1 } ∷ [] })
      (bus_1 ∷ bus_2 ∷ []) (paid (leg 0 0 ∷ leg 0 0 ∷ []) (None ∷ []))
      ≡ Some (state None 0 None None true)

state_checks : StateChecks
unfolding fare_state greatest_count is_clock_read group_matches limit_holds is_candidate suffices is_least_count is_selected_transfer is_arranged goes_on run_start transfer_kind starts_chain
state_checks = record {
  no_leg = refl;
  clocks = (refl, refl, refl, refl, refl, refl, refl);
  empty_from = (refl, refl, refl, refl);
  second = (refl, refl);
  first_of_run = (refl, refl, refl);
  capped = (refl, refl, refl, refl);
  exceeded = refl;
  met_exactly = (refl, refl);
  no_group = refl;
}

-- ---- one more leg

-- a move by its row numbers; what it says of state, paid and held is no matter
abbrev pub taken : ℕ → ℕ → Option ℕ → Option ℕ → Move
taken rule product xfer xfer_product =
    record {
      state = state (Some 7) 7 (Some 7) (Some 7) false;
      paid = record { 0 = pos 777 };
      held = record { 0 = pos 777 };
      rule = record { 0 = rule };
      product = record { 0 = product };
      xfer = option_map (λ n. record { 0 = n }) xfer;
      xfer_product = option_map (λ n. record { 0 = n }) xfer_product;
    }

-- the same with what follows
abbrev pub followed : FareState → ℤ → ℤ → Move → Option Move
followed state paid held move = Some (record move { state = state; paid = record { 0 = paid }; held = record { 0 = held } })

-- T1 as a first leg
abbrev pub start : Move → Option Move
start move = move_after base no_category None (pos 999) leg_1 move

record StartChecks : Type 0 where
  -- the ticket of T1 is held, whatever is said of amounts held before
  pub ticket : start (taken 0 0 None None) ≡ followed (state (Some 0) 0 None None true) (pos 0) (pos 250) (taken 0 0 None None)
  -- rules that T1 doesn't select or that aren't there, and product rows of another product or that aren't there
  pub no_rule : (start (taken 1 1 None None) ≡ None) × (start (taken 9 0 None None) ≡ None)
  pub no_product : (start (taken 0 1 None None) ≡ None) × (start (taken 0 9 None None) ≡ None)
  -- no change leads to a first leg
  pub no_change : (start (taken 0 0 (Some 0) (Some 2)) ≡ None) × (start (taken 0 0 None (Some 2)) ≡ None)

start_checks : StartChecks
unfolding move_of_first greatest_count is_clock_read group_matches network_matches area_matches frame_matches rule_matches is_top_priority is_selected_rule is_open is_leg_choice amount_of
start_checks = record {
  ticket = refl;
  no_rule = (refl, refl);
  no_product = (refl, refl);
  no_change = (refl, refl);
}

-- T2 after T1, with these transfer rules
abbrev pub after_first : List TransferRuleRow → Move → Option Move
after_first rows move = move_after (with_rules rows) no_category (Some (state (Some 0) 0 None None true)) (pos 250) leg_2 move

abbrev pub by_change : Move
by_change = taken 1 1 (Some 0) (Some 2)

abbrev pub by_ticket : Move
by_ticket = taken 1 1 None None

-- the state after T2, first of its chain or not
abbrev pub rail_state : Bool → FareState
rail_state first = state (Some 1) 0 None None first

-- a row for changes from bus to rail which costs nothing
abbrev pub free_row : TransferRuleRow
free_row = transfer_rule 0 1 0 None

record StepTable : Type 0 where
  pub no_rules : after_first [] by_ticket ≡ followed (rail_state true) (pos 250) (pos 400) by_ticket
  pub type_0 : after_first (bus_to_rail 0 ∷ []) by_change ≡ followed (rail_state false) (pos 300) (pos 0) by_change
  pub type_1 : after_first (bus_to_rail 1 ∷ []) by_change ≡ followed (rail_state false) (pos 700) (pos 0) by_change
  pub type_2 : after_first (bus_to_rail 2 ∷ []) by_change ≡ followed (rail_state false) (pos 50) (pos 0) by_change
  -- an arranged change isn't left out, and one that isn't arranged isn't taken
  pub left_out : (after_first (bus_to_rail 0 ∷ []) by_ticket ≡ None) × (after_first [] by_change ≡ None)
  -- rows that aren't there or aren't selected, and product rows that are lacking, of another product, or too many
  pub no_row :
      (after_first (bus_to_rail 0 ∷ []) (taken 1 1 (Some 9) (Some 2)) ≡ None)
      × (after_first (bus_to_rail 0 ∷ among_buses None None ∷ []) (taken 1 1 (Some 1) None) ≡ None)
  pub no_row_of_product :
      (after_first (bus_to_rail 0 ∷ []) (taken 1 1 (Some 0) None) ≡ None)
      × (after_first (bus_to_rail 0 ∷ []) (taken 1 1 (Some 0) (Some 1)) ≡ None)
      × (after_first (free_row ∷ []) (taken 1 1 (Some 0) (Some 2)) ≡ None)
      × (after_first [] (taken 1 1 None (Some 2)) ≡ None)
  -- the leg's own rule and product row are judged too
  pub no_ticket :
      (after_first (bus_to_rail 0 ∷ []) (taken 0 0 (Some 0) (Some 2)) ≡ None)
      × (after_first (bus_to_rail 0 ∷ []) (taken 1 0 (Some 0) (Some 2)) ≡ None)
      × (after_first (bus_to_rail 0 ∷ []) (taken 9 1 (Some 0) (Some 2)) ≡ None)
  -- a row without product costs nothing
  pub free : after_first (free_row ∷ []) (taken 1 1 (Some 0) None) ≡ followed (rail_state false) (pos 250) (pos 0) (taken 1 1 (Some 0) None)

step_table : StepTable
unfolding move_of_next is_arranged_after is_row_after greatest_count is_clock_read group_matches limit_holds is_candidate suffices is_least_count network_matches area_matches frame_matches rule_matches is_top_priority is_selected_rule is_open is_leg_choice amount_of
step_table = record {
  no_rules = refl;
  type_0 = refl;
  type_1 = refl;
  type_2 = refl;
  left_out = (refl, refl);
  no_row = (refl, refl);
  no_row_of_product = (refl, refl, refl, refl);
  no_ticket = (refl, refl, refl);
  free = refl;
}

-- a leg of a network from 100 to 200 seconds after the first moment of all
abbrev pub early_leg : ℕ → LegFacts
early_leg network = record (leg_at network 0 0) { departure = record { 0 = pos 100 }; arrival = record { 0 = pos 200 } }

-- that leg after a bus with these clocks, with a free row from bus to rail within so many seconds of this type
abbrev pub early : ℕ → ℕ → Option ℤ → Option ℤ → Move → Option Move
early seconds kind departure arrival move =
    move_after (with_rules (record free_row { limit = limit_of seconds kind } ∷ [])) no_category
    (Some (record (state (Some 0) 0 None None true) {
      departure = option_map (λ t. record { 0 = t }) departure;
      arrival = option_map (λ t. record { 0 = t }) arrival;
    })) (pos 250) (early_leg 1) move

abbrev pub by_free : Move
by_free = taken 1 1 (Some 0) None

-- the change is arranged
abbrev pub arranged : Option Move
arranged = followed (rail_state false) (pos 250) (pos 0) by_free

-- or it isn't
abbrev pub unarranged_move : Option Move
unarranged_move = followed (rail_state true) (pos 250) (pos 400) by_ticket

record ClockChecks : Type 0 where
  -- limits of each type, met exactly and not, by the clock that they read
  pub type_0 : (early 200 0 (Some (pos 0)) None by_free ≡ arranged) × (early 199 0 (Some (pos 0)) None by_free ≡ None)
  pub type_1 : (early 100 1 (Some (pos 0)) None by_free ≡ arranged) × (early 99 1 (Some (pos 0)) None by_free ≡ None)
  pub type_2 : (early 100 2 None (Some (pos 0)) by_free ≡ arranged) × (early 99 2 None (Some (pos 0)) by_free ≡ None)
  pub type_3 : (early 200 3 None (Some (pos 0)) by_free ≡ arranged) × (early 199 3 None (Some (pos 0)) by_free ≡ None)
  -- a limit that reads a clock which the state lacks doesn't hold, though the state has the other clock
  pub absent :
      (early 900 0 None (Some (pos 0)) by_free ≡ None)
      × (early 900 1 None (Some (pos 0)) by_free ≡ None)
      × (early 900 2 (Some (pos 0)) None by_free ≡ None)
      × (early 900 3 (Some (pos 0)) None by_free ≡ None)
      × (early 900 0 None (Some (pos 0)) by_ticket ≡ unarranged_move)
      × (early 900 2 (Some (pos 0)) None by_ticket ≡ unarranged_move)
  -- seconds that are negative are within each limit
  pub negative : early 1 0 (Some (pos 5000)) None by_free ≡ arranged

clock_checks : ClockChecks
unfolding move_of_next is_arranged_after is_row_after greatest_count is_clock_read group_matches limit_holds is_candidate suffices is_least_count network_matches area_matches frame_matches rule_matches is_top_priority is_selected_rule is_open is_leg_choice amount_of
clock_checks = record {
  type_0 = (refl, refl);
  type_1 = (refl, refl);
  type_2 = (refl, refl);
  type_3 = (refl, refl);
  absent = (refl, refl, refl, refl, refl, refl);
  negative = refl;
}

-- bus_2 after this state, with these rules
abbrev pub next_bus : List TransferRuleRow → FareState → ℤ → Move → Option Move
next_bus rows from held move = move_after (with_rules rows) no_category (Some from) held bus_2 move

-- the free row of this number
abbrev pub bus_by : ℕ → Move
bus_by row = taken 0 0 (Some row) None

abbrev pub bus_ticket : Move
bus_ticket = taken 0 0 None None

record RunChecks : Type 0 where
  -- a leg that goes on with the run adds a change, up to one past the greatest count, and leaves the clocks
  pub goes_on :
      (next_bus (among_buses (Some 3) (limit_of 900 1) ∷ []) (state (Some 0) 1 (Some 28800) None false) (pos 0) (bus_by 0)
      ≡ followed (state (Some 0) 2 (Some 28800) None false) (pos 0) (pos 0) (bus_by 0))
      × (next_bus (among_buses (Some 1) None ∷ among_buses None None ∷ []) (state (Some 0) 2 None None false) (pos 0) (bus_by 1)
      ≡ followed (state (Some 0) 2 None None false) (pos 0) (pos 0) (bus_by 1))
      × (next_bus (among_buses None (limit_of 900 3) ∷ []) (state (Some 0) 0 None (Some 29400) true) (pos 250) (bus_by 0)
      ≡ followed (state (Some 0) 1 None (Some 29400) false) (pos 250) (pos 0) (bus_by 0))
  -- a count is met exactly, or exceeded
  pub counts :
      (next_bus (among_buses (Some 1) None ∷ []) (state (Some 0) 0 None None true) (pos 250) (bus_by 0)
      ≡ followed (state (Some 0) 1 None None false) (pos 250) (pos 0) (bus_by 0))
      × (next_bus (among_buses (Some 1) None ∷ []) (state (Some 0) 1 None None false) (pos 0) (bus_by 0) ≡ None)
      × (next_bus (among_buses (Some 2) None ∷ among_buses (Some 1) None ∷ []) (state (Some 0) 1 None None false) (pos 0) (bus_by 0)
      ≡ followed (state (Some 0) 2 None None false) (pos 0) (pos 0) (bus_by 0))
      × (next_bus (among_buses (Some 2) None ∷ among_buses (Some 1) None ∷ []) (state (Some 0) 0 None None true) (pos 250) (bus_by 0) ≡ None)
      × (next_bus (among_buses (Some 1) None ∷ among_buses (Some 1) None ∷ []) (state (Some 0) 0 None None true) (pos 250) (bus_by 1)
      ≡ followed (state (Some 0) 1 None None false) (pos 250) (pos 0) (bus_by 1))
  -- where the change isn't arranged a run and a chain start with the leg, and what was held is paid
  pub ends :
      next_bus (among_buses (Some 1) (limit_of 900 1) ∷ []) (state (Some 0) 1 (Some 28800) None false) (pos 0) bus_ticket
      ≡ followed (state (Some 0) 0 (Some 29700) None true) (pos 0) (pos 250) bus_ticket
  -- a change from or to a leg without group is never arranged
  pub no_group :
      (next_bus (any_to_any None ∷ []) (state None 0 None None true) (pos 250) bus_ticket
      ≡ followed (state (Some 0) 0 None None true) (pos 250) (pos 250) bus_ticket)
      × (next_bus (any_to_any None ∷ []) (state None 0 None None true) (pos 250) (bus_by 0) ≡ None)
  -- between groups the count is 1, however long the run
  pub between_groups :
      move_after (with_rules (any_to_any (Some 1) ∷ [])) no_category (Some (state (Some 0) 2 None None false)) (pos 0) leg_2 by_free
      ≡ followed (state (Some 1) 0 None None false) (pos 0) (pos 0) by_free
  -- amounts below 0: what is held is taken back by type 2, and else paid
  pub negative :
      (next_bus (transfer_rule 0 0 2 None ∷ []) (state (Some 0) 0 None None true) (negsuc 99) (bus_by 0)
      ≡ followed (state (Some 0) 1 None None false) (pos 0) (pos 0) (bus_by 0))
      × (next_bus [] (state (Some 0) 0 None None true) (negsuc 99) bus_ticket
      ≡ followed (state (Some 0) 0 None None true) (negsuc 99) (pos 250) bus_ticket)
      × (move_after (record (with_rules (bus_to_rail 2 ∷ [])) { products = ticket 0 250 ∷ ticket 1 400 ∷ record (ticket 2 0) { amount = record { 0 = negsuc 199 } } ∷ [] })
      no_category (Some (state (Some 0) 0 None None true)) (pos 250) leg_2 by_change
      ≡ followed (rail_state false) (negsuc 199) (pos 0) by_change)

run_checks : RunChecks
unfolding move_of_next is_arranged_after is_row_after greatest_count is_clock_read group_matches limit_holds is_candidate suffices is_least_count network_matches area_matches frame_matches rule_matches is_top_priority is_selected_rule is_open is_leg_choice amount_of
run_checks = record {
  goes_on = (refl, refl, refl);
  counts = (refl, refl, refl, refl, refl);
  ends = refl;
  no_group = (refl, refl);
  between_groups = refl;
  negative = (refl, refl, refl);
}
