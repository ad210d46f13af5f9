-- Worked examples of partial journeys, of what covers and completes them, of floors, and of tables of labels. Values
-- are worked by hand from the rules, over the base feed and its variants.
use Rattle.std.proofs.Common.{◌≡◌, refl, ap, ℕ, ◌-◌, Bool, true, false, ◌&&◌, List, [], ◌∷◌, length, arith}
use Rattle.std.specs.Prelude.{Option, Some, None, ℤ, pos, negsuc, nat_le}
use Rattle.std.specs.Option.{is_some, option_map_or}
use Rattle.std.specs.List.{list_all}
use Rattle.std.proofs.lemmas.Bool.{and_parts}
use Rattle.std.proofs.lemmas.Bool.Decides.{nat_tests}
use Rattle.std.proofs.lemmas.Int.{ints}
use Rattle.std.proofs.lemmas.List.Sums.{AllPass-from_list_all}
use Rattle.transit_base.specs.declared.numbers.StopId.{StopId}
use Rattle.plain_laws.specs.Plain.{all_below}
use Rattle.plain_laws.proofs.Laws.{all_below-at}
use Rattle.feed_rows.specs.declared.journeys.Buyer.{Buyer}
use Rattle.feed_rows.specs.declared.journeys.Query.{Query}
use Rattle.feed_rows.specs.declared.journeys.Ride.{Ride}
use Rattle.feed_rows.specs.ServiceDays.{is_active}
use Rattle.feed_rows.specs.Calls.{call_at, calls_of}
use Rattle.feed_rows.specs.Shifts.{shifts_of}
use Rattle.feed_rows.specs.Rides.{is_ride, ride_facts}
use Rattle.feed_rows.specs.StopLinks.{link, stop_set}
use Rattle.feed_rows.specs.Legs.{stop_areas, holds_at, leg_facts, legs_of}
use Rattle.feed_rows.specs.Journeys.{stands_for, catches_first, catches_next}
use Rattle.feed_rows.specs.JourneyEntries.{rides_price}
use Rattle.feed_rows.specs.PartialJourneys.{PartialJourney, IsPartialJourney, LabelFacts, journey_to, arrives_in_window, label_facts}
use Rattle.feed_rows.specs.LabelCover.{Covers}
use Rattle.feed_rows.specs.Completions.{Completes, IsCompletion}
use Rattle.feed_rows.specs.declared.fares.Triple.{Triple}
use Rattle.feed_rows.specs.declared.rows.ProductRow.{ProductRow}
use Rattle.feed_rows.specs.FareFloor.{fare_floor, is_outdone}
use Rattle.feed_rows.specs.RoundTables.{Label, Final, RoundTable, traced, entries_of}
use Rattle.feed_rows.specs.declared.fares.ChangeChoice.{ChangeChoice}
use Rattle.feed_rows.specs.declared.fares.Choice.{Choice}
use Rattle.feed_rows.specs.declared.fares.LegChoice.{LegChoice}
use Rattle.feed_rows.specs.declared.states.FareState.{FareState}
use Rattle.feed_rows.specs.declared.states.Move.{Move}
use Rattle.feed_rows.specs.FeedRows.{FeedRows}
use Rattle.feed_rows.specs.TransferRules.{group_matches, limit_holds, is_candidate, suffices, is_least_count, is_selected_transfer, is_arranged, goes_on, run_start, change_at}
use Rattle.feed_rows.specs.FareSums.{transfer_kind, starts_chain, is_charged, amount_of, leg_charge, change_charge, fare_sum}
use Rattle.feed_rows.specs.LegRules.{network_matches, area_matches, frame_matches, rule_matches, is_top_priority, is_selected_rule}
use Rattle.feed_rows.specs.FareChoices.{is_open, is_leg_choice, is_transfer_choice, is_leg_paid, is_change_paid, is_fare_choice}
use Rattle.feed_rows.specs.FareStates.{held_amount, paid_amount, greatest_count, is_clock_read, fare_state}
use Rattle.feed_examples.specs.BaseFeed.{base, ticket, network_rule, transfer_rule, on_the_day, query, no_category, of_category}
use Rattle.feed_examples.proofs.WorkedEntries.{ride, entry, leg, change, paid, two_rides, morning, by_two_rides, by_one_ride, base_entries}
use Rattle.feed_examples.proofs.WorkedStates.{state, bus_to_rail, free_row, one_choice, two_choice, taken, by_change, bus_ticket, rail_state}

-- ---- partial journeys

-- a partial journey from a first stop
abbrev pub part : ℕ → List Ride → Choice → PartialJourney
part first rides choice = record { first = record { 0 = first }; rides = rides; choice = choice }

-- T1, and T1 with T2
abbrev pub part_1 : PartialJourney
part_1 = part 0 (ride 0 0 1 ∷ []) one_choice

abbrev pub part_2 : PartialJourney
part_2 = part 0 two_rides (two_choice (change 0 2))

-- facts at a stop, at a time of 2025-06-02
abbrev pub facts : ℕ → ℕ → ℕ → ℤ → ℤ → Option FareState → LabelFacts
facts stop time rides paid held state =
    record { stop = record { 0 = stop }; arrival = pos (on_the_day time); rides = rides; paid = paid; held = held; state = state }

abbrev pub facts_0 : LabelFacts
facts_0 = facts 0 28800 0 (pos 0) (pos 0) None

abbrev pub facts_1 : LabelFacts
facts_1 = facts 1 29400 1 (pos 0) (pos 250) (Some (state (Some 0) 0 None None true))

abbrev pub facts_2 : LabelFacts
facts_2 = facts 2 30600 2 (pos 300) (pos 0) (Some (rail_state false))

record FactChecks : Type 0 where
  pub no_ride : label_facts base morning (part 0 [] (paid [] [])) ≡ Some facts_0
  pub one_ride : label_facts base morning part_1 ≡ Some facts_1
  pub both_rides : label_facts base morning part_2 ≡ Some facts_2
  -- rides that aren't rides of the feed lead nowhere
  pub no_rides : label_facts base morning (part 0 (ride 0 1 0 ∷ []) one_choice) ≡ None

fact_checks : FactChecks
unfolding label_facts held_amount paid_amount fare_state greatest_count is_clock_read is_ride ride_facts is_active shifts_of calls_of call_at legs_of leg_facts stop_areas holds_at group_matches limit_holds is_candidate suffices is_least_count is_selected_transfer is_arranged goes_on run_start transfer_kind starts_chain is_charged amount_of leg_charge change_charge fare_sum
fact_checks = record {
  no_ride = refl;
  one_ride = refl;
  both_rides = refl;
  no_rides = refl;
}

-- every part of the partial journey passes its test
unfoldable pub partial_test : FeedRows → Query → PartialJourney → Bool
partial_test feed query part =
    stands_for feed query.from part.first
    && list_all (is_ride feed) part.rides
    && nat_le (length part.rides) query.rides
    && catches_first feed query (journey_to part.first part)
    && all_below (length part.rides - 1) (catches_next feed part.rides)
    && list_all (arrives_in_window feed query) part.rides
    && is_some (rides_price feed part.rides part.choice query.buyer)

-- then it is one of the query
pub partial-by-test : (feed : FeedRows) (query : Query) (part : PartialJourney) → partial_test feed query part ≡ true → IsPartialJourney feed query part
unfolding partial_test
partial-by-test feed query part e =
    let p1 = and_parts _ _ e in
    let p2 = and_parts _ _ p1.0 in
    let p3 = and_parts _ _ p2.0 in
    let p4 = and_parts _ _ p3.0 in
    let p5 = and_parts _ _ p4.0 in
    let p6 = and_parts _ _ p5.0 in
    let few = p5.1 in
    record {
      starts = p6.0;
      rides = AllPass-from_list_all (is_ride feed) part.rides p6.1;
      few = grind (arith, nat_tests, few);
      begins = p4.1;
      goes_on = λ i lt. all_below-at (length part.rides - 1) (catches_next feed part.rides) p3.1 i (omega arith);
      in_time = AllPass-from_list_all (arrives_in_window feed query) part.rides p2.1;
      pays = p1.1;
    }

-- from A to C, with so many rides within a window
abbrev pub with_limits : ℕ → ℕ → Query
with_limits rides window = record morning { rides = rides; window = window }

record PartialChecks : Type 0 where
  -- no ride, T1 that doesn't end at C, and both rides, with limits that are met exactly
  pub no_ride : IsPartialJourney base (with_limits 0 0) (part 0 [] (paid [] []))
  pub one_ride : IsPartialJourney base (with_limits 1 600) part_1
  pub both_rides : IsPartialJourney base (with_limits 2 1800) part_2
  -- one ride too many, and a second too late
  pub too_many : IsPartialJourney base (with_limits 1 1800) part_2 → ⊥
  pub too_late : IsPartialJourney base (with_limits 2 1799) part_2 → ⊥
  -- a first stop that isn't the origin, a ride that isn't one, one that is missed, and one to which no link leads
  pub elsewhere : IsPartialJourney base morning (part 1 (ride 1 0 1 ∷ []) (paid (leg 1 1 ∷ []) [])) → ⊥
  pub no_rides : IsPartialJourney base morning (part 0 (ride 0 1 0 ∷ []) one_choice) → ⊥
  pub missed : IsPartialJourney base (query 0 2 28801) part_1 → ⊥
  pub no_link : IsPartialJourney base morning (part 0 (ride 0 0 1 ∷ ride 2 0 1 ∷ []) (paid (leg 0 0 ∷ leg 0 0 ∷ []) (None ∷ []))) → ⊥
  -- a choice that doesn't pay the rides
  pub unpaid : IsPartialJourney base morning (part 0 two_rides (two_choice None)) → ⊥

partial_checks : PartialChecks
unfolding partial_test link stop_set is_ride ride_facts is_active shifts_of calls_of call_at legs_of leg_facts stop_areas holds_at network_matches area_matches frame_matches rule_matches is_top_priority is_selected_rule group_matches limit_holds is_candidate suffices is_least_count is_selected_transfer is_arranged goes_on run_start change_at is_open is_leg_choice is_transfer_choice is_leg_paid is_change_paid is_fare_choice transfer_kind starts_chain is_charged amount_of leg_charge change_charge fare_sum
partial_checks = record {
  no_ride = partial-by-test _ _ _ refl;
  one_ride = partial-by-test _ _ _ refl;
  both_rides = partial-by-test _ _ _ refl;
  too_many = λ p. let few = p.few in absurd (omega arith);
  too_late = λ p. let no : false ≡ true = p.in_time 1 (ride 1 0 1) (omega arith) in absurd (cc);
  elsewhere = λ p. let no : false ≡ true = p.starts in absurd (cc);
  no_rides = λ p. let no : false ≡ true = p.rides 0 (ride 0 0 1) (omega arith) in absurd (cc);
  missed = λ p. let no : false ≡ true = p.begins in absurd (cc);
  no_link = λ p. let no : false ≡ true = p.goes_on 0 (omega arith) in absurd (cc);
  unpaid = λ p. let no : false ≡ true = p.pays in absurd (cc);
}

-- ---- cover

-- facts at B, with the first bus' state
abbrev pub bus_facts : ℕ → ℕ → ℤ → ℤ → LabelFacts
bus_facts time rides paid held = facts 1 time rides paid held (Some (state (Some 0) 0 None None true))

record CoverChecks : Type 0 where
  -- as good in all, and better in each
  pub itself : Covers facts_1 facts_1
  pub better :
      Covers (bus_facts 29399 1 (pos 0) (pos 250)) facts_1
      × Covers (bus_facts 29400 0 (pos 0) (pos 250)) facts_1
      × Covers (bus_facts 29400 1 (negsuc 0) (pos 250)) facts_1
      × Covers (bus_facts 29400 1 (negsuc 0) (pos 251)) facts_1
      × Covers (bus_facts 29400 1 (pos 0) (pos 249)) facts_1
  -- worse in one alone
  pub later : Covers (bus_facts 29401 0 (negsuc 9) (pos 0)) facts_1 → ⊥
  pub more_rides : Covers (bus_facts 29399 2 (negsuc 9) (pos 0)) facts_1 → ⊥
  pub paid_more : Covers (bus_facts 29399 0 (pos 1) (pos 0)) facts_1 → ⊥
  pub dearer : Covers (bus_facts 29399 0 (negsuc 9) (pos 261)) facts_1 → ⊥
  pub other_stop : Covers (record facts_1 { stop = record { 0 = 2 } }) facts_1 → ⊥
  pub other_state : Covers (record facts_1 { state = Some (state (Some 0) 1 None None true) }) facts_1 → ⊥
  pub no_state : Covers (record facts_1 { state = None }) facts_1 → ⊥

-- the count of a state
abbrev pub count_of : Option FareState → ℕ
count_of state = option_map_or (λ s. s.count) state 9

cover_checks : CoverChecks
cover_checks = record {
  itself = record { stop = refl; arrival = omega (arith, ints); rides = omega arith; spent = record { paid = omega (arith, ints); price = omega (arith, ints) }; state = refl };
  better = (
    record { stop = refl; arrival = omega (arith, ints); rides = omega arith; spent = record { paid = omega (arith, ints); price = omega (arith, ints) }; state = refl },
    record { stop = refl; arrival = omega (arith, ints); rides = omega arith; spent = record { paid = omega (arith, ints); price = omega (arith, ints) }; state = refl },
    record { stop = refl; arrival = omega (arith, ints); rides = omega arith; spent = record { paid = omega (arith, ints); price = omega (arith, ints) }; state = refl },
    record { stop = refl; arrival = omega (arith, ints); rides = omega arith; spent = record { paid = omega (arith, ints); price = omega (arith, ints) }; state = refl },
    record { stop = refl; arrival = omega (arith, ints); rides = omega arith; spent = record { paid = omega (arith, ints); price = omega (arith, ints) }; state = refl },
  );
  later = λ c. let no = c.arrival in absurd (omega (arith, ints, no));
  more_rides = λ c. let no = c.rides in absurd (omega (arith, no));
  paid_more = λ c. let no = c.spent.paid in absurd (omega (arith, ints, no));
  dearer = λ c. let no = c.spent.price in absurd (omega (arith, ints, no));
  other_stop = λ c. let no : 2 ≡ 1 = ap (λ (s : StopId). s.0) c.stop in absurd (omega arith);
  other_state = λ c. let no : 1 ≡ 0 = ap count_of c.state in absurd (omega arith);
  no_state = λ c. let no : 9 ≡ 0 = ap count_of c.state in absurd (omega arith);
}

-- ---- completions

-- no ride, as a partial journey from A
abbrev pub part_0 : PartialJourney
part_0 = part 0 [] (paid [] [])

abbrev pub first_trip : List Ride → ℕ
first_trip [] = 9
first_trip (r ∷ rs) = r.trip.0

abbrev pub first_product : List LegChoice → ℕ
first_product [] = 9
first_product (p ∷ ps) = p.product.0

abbrev pub first_place : List (Option ChangeChoice) → ℕ
first_place [] = 9
first_place (None ∷ ps) = 8
first_place (Some p ∷ ps) = p.rule.0

pub record CompletionChecks : Type 0 where
  -- both rides complete the journey without rides, that by T1, and themselves
  pub from_start : IsCompletion base morning part_0 (record { arrival = record { 0 = pos (on_the_day 30600) }; rides = 2; price = record { 0 = pos 300 } })
  pub from_first : Completes part_1 (by_two_rides (pos 300) (change 0 2 ∷ []))
  pub itself : Completes part_2 (by_two_rides (pos 300) (change 0 2 ∷ []))
  -- another first stop, another first ride, rides that end before, another ticket, another change
  pub other_first : Completes (record part_1 { first = record { 0 = 1 } }) (by_two_rides (pos 300) (change 0 2 ∷ [])) → ⊥
  pub other_ride : Completes part_1 by_one_ride → ⊥
  pub longer : Completes part_2 by_one_ride → ⊥
  pub ends_before : Completes (record part_1 { choice = paid (leg 0 0 ∷ leg 1 1 ∷ []) [] }) by_one_ride → ⊥
  pub other_ticket : Completes (record part_1 { choice = paid (leg 0 3 ∷ []) [] }) (by_two_rides (pos 300) (change 0 2 ∷ [])) → ⊥
  pub other_change : Completes (record part_2 { choice = two_choice None }) (by_two_rides (pos 300) (change 0 2 ∷ [])) → ⊥

pub completion_checks : CompletionChecks
completion_checks = record {
  from_start = (
    by_two_rides (pos 300) (change 0 2 ∷ []),
    base_entries.0,
    record { first = refl; rides = (two_rides, refl); choice = record { legs = (leg 0 0 ∷ leg 1 1 ∷ [], refl); changes = (change 0 2 ∷ [], refl) } },
    refl,
  );
  from_first = record {
    first = refl;
    rides = (ride 1 0 1 ∷ [], refl);
    choice = record { legs = (leg 1 1 ∷ [], refl); changes = (change 0 2 ∷ [], refl) };
  };
  itself = record { first = refl; rides = ([], refl); choice = record { legs = ([], refl); changes = ([], refl) } };
  other_first = λ c. let no : 0 ≡ 1 = ap (λ (s : StopId). s.0) c.first in absurd (omega arith);
  other_ride = λ c. let no : 2 ≡ 0 = ap first_trip c.rides.1 in absurd (omega arith);
  longer = λ c. let no : 2 ≡ 0 = ap first_trip c.rides.1 in absurd (omega arith);
  ends_before = λ c. let no : 2 ≡ 0 = ap first_trip c.rides.1 in absurd (omega arith);
  other_ticket = λ c. let no : 0 ≡ 3 = ap first_product c.choice.legs.1 in absurd (omega arith);
  other_change = λ c. let no : 0 ≡ 8 = ap first_place c.choice.changes.1 in absurd (omega arith);
}

-- ---- floors

abbrev pub amount_row : ℕ → ℤ → ProductRow
amount_row product amount = record (ticket product 0) { amount = record { 0 = amount } }

-- base with a tram, and a bonus of 2.00 for the change from rail to it
abbrev pub bonus_feed : FeedRows
bonus_feed =
    record base {
      products = ticket 0 250 ∷ ticket 1 400 ∷ ticket 2 50 ∷ ticket 3 100 ∷ amount_row 4 (negsuc 199) ∷ [];
      leg_rules = network_rule 0 0 0 ∷ network_rule 1 1 1 ∷ network_rule 2 2 3 ∷ [];
      transfer_rules = bus_to_rail 0 ∷ transfer_rule 1 2 0 (Some (record { 0 = 4 })) ∷ [];
    }

-- base with product rows below 0: of a leg rule, of the transfer rule, of neither, and for children alone
abbrev pub low_feed : FeedRows
low_feed =
    record base {
      products =
          amount_row 1 (negsuc 29) ∷ amount_row 0 (negsuc 9) ∷ amount_row 2 (negsuc 4) ∷ amount_row 5 (negsuc 9998)
          ∷ record (amount_row 0 (negsuc 99)) { rider = Some (record { 0 = 0 }) }
          ∷ record (amount_row 2 (negsuc 999)) { rider = Some (record { 0 = 0 }) } ∷ [];
    }

abbrev pub child : Buyer
child = of_category 0

record FloorChecks : Type 0 where
  pub base_floor : fare_floor base no_category ≡ pos 0
  pub bonus : fare_floor bonus_feed no_category ≡ negsuc 199
  -- the least of each part, and the parts together
  pub both_parts : fare_floor low_feed no_category ≡ negsuc 34
  pub for_children : fare_floor low_feed child ≡ negsuc 1099
  -- rows without product, and feeds without rows
  pub no_product : fare_floor (record low_feed { transfer_rules = free_row ∷ [] }) no_category ≡ negsuc 29
  pub no_rows : fare_floor (record low_feed { products = [] }) no_category ≡ pos 0
  pub no_rules : fare_floor (record low_feed { leg_rules = [] }) no_category ≡ negsuc 4

floor_checks : FloorChecks
unfolding fare_floor is_open
floor_checks = record {
  base_floor = refl;
  bonus = refl;
  both_parts = refl;
  for_children = refl;
  no_product = refl;
  no_rows = refl;
  no_rules = refl;
}

abbrev pub triple : ℕ → ℕ → ℤ → Triple
triple time rides price = record { arrival = record { 0 = pos (on_the_day time) }; rides = rides; price = record { 0 = price } }

-- such a triple outdoes facts at 08:30:00 with two of four rides, over the feed with the bonus
abbrev pub outdoes : Triple → ℤ → ℤ → Bool
outdoes found paid held = is_outdone bonus_feed morning found (facts 1 30600 2 paid held None)

record OutdoneChecks : Type 0 where
  -- two more rides may cost 4.00 less than nothing
  pub met : (outdoes (triple 30600 2 (negsuc 99)) (pos 300) (pos 0) ≡ true) × (outdoes (triple 30600 2 (negsuc 98)) (pos 300) (pos 0) ≡ false)
  -- what is held may be taken back, and where it is below 0 it is counted
  pub held :
      (outdoes (triple 30600 2 (negsuc 99)) (pos 300) (pos 900) ≡ true)
      × (outdoes (triple 30600 2 (negsuc 98)) (pos 300) (pos 900) ≡ false)
      × (outdoes (triple 30600 2 (negsuc 149)) (pos 300) (negsuc 49) ≡ true)
      × (outdoes (triple 30600 2 (negsuc 148)) (pos 300) (negsuc 49) ≡ false)
  pub later : outdoes (triple 30601 0 (negsuc 999)) (pos 300) (pos 0) ≡ false
  pub more_rides : (outdoes (triple 30600 3 (negsuc 999)) (pos 300) (pos 0) ≡ false) × (outdoes (triple 30599 1 (negsuc 999)) (pos 300) (pos 0) ≡ true)
  -- after the last ride nothing more is added
  pub last_ride :
      (is_outdone bonus_feed (with_limits 2 86400) (triple 30600 2 (pos 300)) facts_2 ≡ true)
      × (is_outdone bonus_feed (with_limits 2 86400) (triple 30600 2 (pos 301)) facts_2 ≡ false)

outdone_checks : OutdoneChecks
unfolding is_outdone fare_floor is_open
outdone_checks = record {
  met = (refl, refl);
  held = (refl, refl, refl, refl);
  later = refl;
  more_rides = (refl, refl);
  last_ride = (refl, refl);
}

-- ---- tables

abbrev pub label : LabelFacts → ℕ → ℕ → Move → Label
label facts parent trip taken = record { facts = facts; parent = Some parent; ride = Some (ride trip 0 1); taken = Some taken }

abbrev pub start_label : LabelFacts → Label
start_label facts = record { facts = facts; parent = None; ride = None; taken = None }

-- T3 at C
abbrev pub facts_3 : LabelFacts
facts_3 = facts 2 32400 1 (pos 0) (pos 250) (Some (state (Some 0) 0 None None true))

-- the four labels from A, T1, T3, and T1 with T2
abbrev pub four_labels : List Label
four_labels = start_label facts_0 ∷ label facts_1 0 0 bus_ticket ∷ label facts_3 0 2 bus_ticket ∷ label facts_2 1 1 by_change ∷ []

abbrev pub final : Triple → ℕ → ℕ → Final
final triple label last = record { triple = triple; label = label; last = record { 0 = last } }

-- labels, and what is found, with bags that this function gives
abbrev pub table : List Label → (ℕ → StopId → List ℕ) → List Final → RoundTable
table labels bag finals = record { labels = labels; bag = bag; finals = finals }

-- no bag has a label
abbrev pub no_bag : ℕ → StopId → List ℕ
no_bag rides stop = []

abbrev pub base_finals : List Final
base_finals = final (triple 30600 2 (pos 300)) 3 2 ∷ final (triple 32400 1 (pos 250)) 2 2 ∷ []

abbrev pub base_table : RoundTable
base_table = table four_labels no_bag base_finals

record TraceChecks : Type 0 where
  pub from_start : traced four_labels 0 0 ≡ Some part_0
  pub one_ride : (traced four_labels 1 1 ≡ Some part_1) × (traced four_labels 1 2 ≡ Some (part 0 (ride 2 0 1 ∷ []) one_choice))
  pub both_rides : traced four_labels 2 3 ≡ Some part_2
  -- the first stop is where the start is
  pub from_b :
      traced (start_label (facts 1 28800 0 (pos 0) (pos 0) None) ∷ label facts_2 0 1 (taken 1 1 None None) ∷ []) 1 1
      ≡ Some (part 1 (ride 1 0 1 ∷ []) (paid (leg 1 1 ∷ []) []))
  -- too few or too many parents, and a label that isn't there
  pub not_back : (traced four_labels 0 1 ≡ None) × (traced four_labels 1 3 ≡ None) × (traced four_labels 1 0 ≡ None) × (traced four_labels 0 4 ≡ None)
  -- a label with a ride that lacks its move
  pub no_move : traced (start_label facts_0 ∷ record (label facts_1 0 0 bus_ticket) { taken = None } ∷ []) 1 1 ≡ None
  -- and one whose move has a product row of no change
  pub not_whole : traced (start_label facts_0 ∷ label facts_1 0 0 (taken 0 0 None (Some 2)) ∷ []) 1 1 ≡ None
  -- the finals end as entries, at their last stops
  pub entries : entries_of base_table ≡ Some (by_two_rides (pos 300) (change 0 2 ∷ []) ∷ by_one_ride ∷ [])
  pub walk_at_end :
      entries_of (table four_labels no_bag (final (triple 30600 2 (pos 300)) 3 1 ∷ []))
      ≡ Some (entry 0 1 30600 2 (pos 300) two_rides (leg 0 0 ∷ leg 1 1 ∷ []) (change 0 2 ∷ []) ∷ [])
  pub no_entry : (entries_of (table four_labels no_bag (final (triple 30600 2 (pos 300)) 2 2 ∷ [])) ≡ None) × (entries_of (table [] no_bag []) ≡ Some [])

trace_checks : TraceChecks
trace_checks = record {
  from_start = refl;
  one_ride = (refl, refl);
  both_rides = refl;
  from_b = refl;
  not_back = (refl, refl, refl, refl);
  no_move = refl;
  not_whole = refl;
  entries = refl;
  walk_at_end = refl;
  no_entry = (refl, refl);
}
