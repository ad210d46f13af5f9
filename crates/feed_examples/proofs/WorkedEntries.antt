-- Worked examples of entries over the base feed and its variants: journeys, choices and prices. Two rides are T1 from A
-- to B and T2 from B to C; one ride is T3 from A to C.
use Rattle.std.proofs.Common.{◌≡◌, refl, ℕ, Bool, true, false, List, [], ◌∷◌}
use Rattle.std.specs.Prelude.{Option, Some, None, ℤ, pos, negsuc, codes}
use Rattle.feed_rows.specs.FeedRows.{FeedRows}
use Rattle.feed_rows.specs.declared.rows.TransferRuleRow.{TransferRuleRow}
use Rattle.feed_rows.specs.declared.journeys.Query.{Query}
use Rattle.feed_rows.specs.declared.journeys.Ride.{Ride}
use Rattle.feed_rows.specs.declared.fares.LegChoice.{LegChoice}
use Rattle.feed_rows.specs.declared.fares.ChangeChoice.{ChangeChoice}
use Rattle.feed_rows.specs.declared.fares.Choice.{Choice}
use Rattle.feed_rows.specs.declared.fares.Entry.{Entry}
use Rattle.feed_rows.specs.ServiceDays.{is_active}
use Rattle.feed_rows.specs.Calls.{call_at, calls_of}
use Rattle.feed_rows.specs.Shifts.{shifts_of}
use Rattle.feed_rows.specs.Rides.{is_ride, ride_facts}
use Rattle.feed_rows.specs.StopLinks.{link, stop_set}
use Rattle.feed_rows.specs.Legs.{stop_areas, holds_at, leg_facts, legs_of}
use Rattle.feed_rows.specs.LegRules.{network_matches, area_matches, frame_matches, rule_matches, is_top_priority, is_selected_rule}
use Rattle.feed_rows.specs.TransferRules.{group_matches, limit_holds, is_candidate, suffices, is_least_count, is_selected_transfer, is_arranged, goes_on, run_start, change_at}
use Rattle.feed_rows.specs.FareChoices.{is_open, is_leg_choice, is_transfer_choice, is_leg_paid, is_change_paid, is_fare_choice}
use Rattle.feed_rows.specs.FareSums.{transfer_kind, starts_chain, is_charged, amount_of, leg_charge, change_charge, fare_sum}
use Rattle.feed_rows.specs.JourneyEntries.{IsEntry, rides_price}
use Rattle.feed_examples.proofs.EntryChecks.{entry_test, entry-by-test}
use Rattle.feed_examples.specs.BaseFeed.{base, platform, trip, call, ticket, network_rule, transfer_rule, on_the_day, query, no_category, of_category}

-- a ride of a trip on 2025-06-02, from one position to another
abbrev pub ride : ℕ → ℕ → ℕ → Ride
ride trip from to = record { trip = record { 0 = trip }; day = record { 0 = pos 20241 }; shift = pos 0; from = from; to = to }

-- the rule and the product row of a leg
abbrev pub leg : ℕ → ℕ → LegChoice
leg rule product = record { rule = record { 0 = rule }; product = record { 0 = product } }

-- the row of a change, with its product row
abbrev pub change : ℕ → ℕ → Option ChangeChoice
change rule product = Some (record { rule = record { 0 = rule }; product = Some (record { 0 = product }) })

-- the row of a change that costs nothing
abbrev pub free_change : ℕ → Option ChangeChoice
free_change rule = Some (record { rule = record { 0 = rule }; product = None })

-- an entry of rides from a first stop to a last, that arrives at this time of 2025-06-02
abbrev pub entry : ℕ → ℕ → ℕ → ℕ → ℤ → List Ride → List LegChoice → List (Option ChangeChoice) → Entry
entry first last arrival rides price way legs changes =
    record {
      triple = record { arrival = record { 0 = pos (on_the_day arrival) }; rides = rides; price = record { 0 = price } };
      journey = record { first = record { 0 = first }; last = record { 0 = last }; rides = way };
      choice = record { legs = legs; changes = changes };
    }

-- from A to C by T1 and T2 at 08:30:00, and by T3 at 09:00:00
abbrev pub by_two_rides : ℤ → List (Option ChangeChoice) → Entry
by_two_rides price changes = entry 0 2 30600 2 price (ride 0 0 1 ∷ ride 1 0 1 ∷ []) (leg 0 0 ∷ leg 1 1 ∷ []) changes

abbrev pub by_one_ride : Entry
by_one_ride = entry 0 2 32400 1 (pos 250) (ride 2 0 1 ∷ []) (leg 0 0 ∷ []) []

-- from A to C at 08:00:00
abbrev pub morning : Query
morning = query 0 2 28800

-- the rides of the first entry, and how they are paid
abbrev pub two_rides : List Ride
two_rides = ride 0 0 1 ∷ ride 1 0 1 ∷ []

abbrev pub paid : List LegChoice → List (Option ChangeChoice) → Choice
paid legs changes = record { legs = legs; changes = changes }

-- ---- transfer rules: types, limits, counts

-- base with other transfer rules
abbrev with_transfers : List TransferRuleRow → FeedRows
with_transfers rows = record base { transfer_rules = rows }

abbrev of_type : ℕ → FeedRows
of_type kind = with_transfers (transfer_rule 0 1 kind (Some (record { 0 = 2 })) ∷ [])

abbrev limited : ℕ → ℕ → FeedRows
limited kind seconds = with_transfers (record (transfer_rule 0 1 0 (Some (record { 0 = 2 }))) { limit = Some (record { seconds = seconds; kind = kind }) } ∷ [])

-- the base feed: both tickets in one for 3.00, and the single ticket
pub base_entries : IsEntry (base) (morning) (by_two_rides (pos 300) (change 0 2 ∷ [])) × IsEntry (base) (morning) (by_one_ride)
unfolding entry_test is_ride ride_facts is_active shifts_of calls_of call_at link stop_set legs_of leg_facts stop_areas holds_at network_matches area_matches frame_matches rule_matches is_top_priority is_selected_rule group_matches limit_holds is_candidate suffices is_least_count is_selected_transfer is_arranged goes_on run_start change_at is_open is_leg_choice is_transfer_choice is_leg_paid is_change_paid is_fare_choice transfer_kind starts_chain is_charged amount_of leg_charge change_charge fare_sum
base_entries = (entry-by-test _ _ _ refl, entry-by-test _ _ _ refl)

-- without transfer rules both legs are charged; type 1 charges both legs and the change, type 2 the change alone
pub transfer_types : IsEntry (with_transfers []) (morning) (by_two_rides (pos 650) (None ∷ [])) × IsEntry (of_type 1) (morning) (by_two_rides (pos 700) (change 0 2 ∷ [])) × IsEntry (of_type 2) (morning) (by_two_rides (pos 50) (change 0 2 ∷ []))
unfolding entry_test is_ride ride_facts is_active shifts_of calls_of call_at link stop_set legs_of leg_facts stop_areas holds_at network_matches area_matches frame_matches rule_matches is_top_priority is_selected_rule group_matches limit_holds is_candidate suffices is_least_count is_selected_transfer is_arranged goes_on run_start change_at is_open is_leg_choice is_transfer_choice is_leg_paid is_change_paid is_fare_choice transfer_kind starts_chain is_charged amount_of leg_charge change_charge fare_sum
transfer_types = (entry-by-test _ _ _ refl, entry-by-test _ _ _ refl, entry-by-test _ _ _ refl)

-- a limit that is met exactly: from departure to arrival, departure to departure, arrival to departure, arrival to arrival
pub limits_met : IsEntry (limited 0 1800) (morning) (by_two_rides (pos 300) (change 0 2 ∷ [])) × IsEntry (limited 1 900) (morning) (by_two_rides (pos 300) (change 0 2 ∷ [])) × IsEntry (limited 2 300) (morning) (by_two_rides (pos 300) (change 0 2 ∷ [])) × IsEntry (limited 3 1200) (morning) (by_two_rides (pos 300) (change 0 2 ∷ []))
unfolding entry_test is_ride ride_facts is_active shifts_of calls_of call_at link stop_set legs_of leg_facts stop_areas holds_at network_matches area_matches frame_matches rule_matches is_top_priority is_selected_rule group_matches limit_holds is_candidate suffices is_least_count is_selected_transfer is_arranged goes_on run_start change_at is_open is_leg_choice is_transfer_choice is_leg_paid is_change_paid is_fare_choice transfer_kind starts_chain is_charged amount_of leg_charge change_charge fare_sum
limits_met = (entry-by-test _ _ _ refl, entry-by-test _ _ _ refl, entry-by-test _ _ _ refl, entry-by-test _ _ _ refl)

-- and one second less: the change is not arranged
pub limits_passed : IsEntry (limited 0 1799) (morning) (by_two_rides (pos 650) (None ∷ [])) × IsEntry (limited 1 899) (morning) (by_two_rides (pos 650) (None ∷ [])) × IsEntry (limited 2 299) (morning) (by_two_rides (pos 650) (None ∷ [])) × IsEntry (limited 3 1199) (morning) (by_two_rides (pos 650) (None ∷ []))
unfolding entry_test is_ride ride_facts is_active shifts_of calls_of call_at link stop_set legs_of leg_facts stop_areas holds_at network_matches area_matches frame_matches rule_matches is_top_priority is_selected_rule group_matches limit_holds is_candidate suffices is_least_count is_selected_transfer is_arranged goes_on run_start change_at is_open is_leg_choice is_transfer_choice is_leg_paid is_change_paid is_fare_choice transfer_kind starts_chain is_charged amount_of leg_charge change_charge fare_sum
limits_passed = (entry-by-test _ _ _ refl, entry-by-test _ _ _ refl, entry-by-test _ _ _ refl, entry-by-test _ _ _ refl)

-- then no ticket of the change is taken, nor is it left out where the limit is met
pub limits_strict : (rides_price (limited 0 1799) (two_rides) (paid (leg 0 0 ∷ leg 1 1 ∷ []) (change 0 2 ∷ [])) no_category ≡ None) × (rides_price (limited 1 899) (two_rides) (paid (leg 0 0 ∷ leg 1 1 ∷ []) (change 0 2 ∷ [])) no_category ≡ None) × (rides_price (limited 2 299) (two_rides) (paid (leg 0 0 ∷ leg 1 1 ∷ []) (change 0 2 ∷ [])) no_category ≡ None) × (rides_price (limited 3 1199) (two_rides) (paid (leg 0 0 ∷ leg 1 1 ∷ []) (change 0 2 ∷ [])) no_category ≡ None) × (rides_price (limited 0 1800) (two_rides) (paid (leg 0 0 ∷ leg 1 1 ∷ []) (None ∷ [])) no_category ≡ None) × (rides_price (limited 1 900) (two_rides) (paid (leg 0 0 ∷ leg 1 1 ∷ []) (None ∷ [])) no_category ≡ None) × (rides_price (limited 2 300) (two_rides) (paid (leg 0 0 ∷ leg 1 1 ∷ []) (None ∷ [])) no_category ≡ None) × (rides_price (limited 3 1200) (two_rides) (paid (leg 0 0 ∷ leg 1 1 ∷ []) (None ∷ [])) no_category ≡ None)
unfolding entry_test is_ride ride_facts is_active shifts_of calls_of call_at link stop_set legs_of leg_facts stop_areas holds_at network_matches area_matches frame_matches rule_matches is_top_priority is_selected_rule group_matches limit_holds is_candidate suffices is_least_count is_selected_transfer is_arranged goes_on run_start change_at is_open is_leg_choice is_transfer_choice is_leg_paid is_change_paid is_fare_choice transfer_kind starts_chain is_charged amount_of leg_charge change_charge fare_sum
limits_strict = (refl, refl, refl, refl, refl, refl, refl, refl)

-- buses U1 from A to B, U2 from B to C, U3 from C to D, of one leg group
abbrev three_buses : List TransferRuleRow → FeedRows
three_buses rows =
    record base {
      stops = platform (codes "A") ∷ platform (codes "B") ∷ platform (codes "C") ∷ platform (codes "D") ∷ [];
      trips = trip (codes "U1") 0 ∷ trip (codes "U2") 0 ∷ trip (codes "U3") 0 ∷ [];
      stop_times =
          call 0 0 1 28800 ∷ call 0 1 2 29400 ∷ call 1 1 1 29700 ∷ call 1 2 2 30300 ∷ call 2 2 1 30600 ∷ call 2 3 2 31200 ∷ [];
      products = ticket 0 250 ∷ ticket 1 30 ∷ ticket 2 70 ∷ [];
      product_names = codes "single" ∷ codes "p1" ∷ codes "p3" ∷ [];
      leg_rules = network_rule 0 0 0 ∷ [];
      group_names = codes "gb" ∷ [];
      transfer_rules = rows;
    }

-- a rule within the group for so many changes
abbrev counted : ℕ → ℕ → TransferRuleRow
counted count product = record (transfer_rule 0 0 0 (Some (record { 0 = product }))) { count = Some count }

abbrev to_d : Query
to_d = query 0 3 28800

abbrev by_three_buses : ℤ → List (Option ChangeChoice) → Entry
by_three_buses price changes = entry 0 3 31200 3 price (ride 0 0 1 ∷ ride 1 0 1 ∷ ride 2 0 1 ∷ []) (leg 0 0 ∷ leg 0 0 ∷ leg 0 0 ∷ []) changes

-- the first change takes the row of count 1, the second that of count 3; with the row of count 1 alone the second change is not arranged
pub counts : IsEntry (three_buses (counted 1 1 ∷ counted 3 2 ∷ [])) (to_d) (by_three_buses (pos 350) (change 0 1 ∷ change 1 2 ∷ [])) × IsEntry (three_buses (counted 1 1 ∷ [])) (to_d) (by_three_buses (pos 530) (change 0 1 ∷ None ∷ []))
unfolding entry_test is_ride ride_facts is_active shifts_of calls_of call_at link stop_set legs_of leg_facts stop_areas holds_at network_matches area_matches frame_matches rule_matches is_top_priority is_selected_rule group_matches limit_holds is_candidate suffices is_least_count is_selected_transfer is_arranged goes_on run_start change_at is_open is_leg_choice is_transfer_choice is_leg_paid is_change_paid is_fare_choice transfer_kind starts_chain is_charged amount_of leg_charge change_charge fare_sum
counts = (entry-by-test _ _ _ refl, entry-by-test _ _ _ refl)

-- the greater count is not taken where a lesser one suffices, nor one that is exceeded
pub counts_strict : (rides_price (three_buses (counted 1 1 ∷ counted 3 2 ∷ [])) (ride 0 0 1 ∷ ride 1 0 1 ∷ ride 2 0 1 ∷ []) (paid (leg 0 0 ∷ leg 0 0 ∷ leg 0 0 ∷ []) (change 1 2 ∷ change 1 2 ∷ [])) no_category ≡ None) × (rides_price (three_buses (counted 1 1 ∷ counted 3 2 ∷ [])) (ride 0 0 1 ∷ ride 1 0 1 ∷ ride 2 0 1 ∷ []) (paid (leg 0 0 ∷ leg 0 0 ∷ leg 0 0 ∷ []) (change 0 1 ∷ change 0 1 ∷ [])) no_category ≡ None) × (rides_price (three_buses (counted 1 1 ∷ counted 3 2 ∷ [])) (ride 0 0 1 ∷ ride 1 0 1 ∷ ride 2 0 1 ∷ []) (paid (leg 0 0 ∷ leg 0 0 ∷ leg 0 0 ∷ []) (change 0 1 ∷ None ∷ [])) no_category ≡ None)
unfolding entry_test is_ride ride_facts is_active shifts_of calls_of call_at link stop_set legs_of leg_facts stop_areas holds_at network_matches area_matches frame_matches rule_matches is_top_priority is_selected_rule group_matches limit_holds is_candidate suffices is_least_count is_selected_transfer is_arranged goes_on run_start change_at is_open is_leg_choice is_transfer_choice is_leg_paid is_change_paid is_fare_choice transfer_kind starts_chain is_charged amount_of leg_charge change_charge fare_sum
counts_strict = (refl, refl, refl)

-- ---- leg rules: networks, areas, timeframe groups

-- bus for single, and any network for any
abbrev any_network : Bool → ℕ → FeedRows
any_network priorities priority =
    record base {
      products = ticket 0 250 ∷ ticket 1 400 ∷ ticket 2 50 ∷ ticket 3 100 ∷ [];
      product_names = codes "single" ∷ codes "rail" ∷ codes "change" ∷ codes "any" ∷ [];
      leg_rules =
          record (network_rule 0 0 0) { priority = priority } ∷ record (network_rule 1 0 3) { network = None } ∷ [];
      group_names = codes "gb" ∷ codes "gx" ∷ [];
      transfer_rules = [];
      has_priority = priorities;
    }

abbrev single_any : ℤ → ℕ → ℕ → Entry
single_any price first product = entry 0 2 30600 2 price two_rides (leg first product ∷ leg 1 3 ∷ []) (None ∷ [])

-- without priorities an empty network is for the networks that no rule names; with them it is for all, and the highest priority alone is selected
pub empty_networks : IsEntry (any_network false 0) (morning) (single_any (pos 350) 0 0) × IsEntry (any_network false 0) (morning) (by_one_ride) × IsEntry (any_network true 0) (morning) (single_any (pos 200) 1 3) × IsEntry (any_network true 0) (morning) (entry 0 2 32400 1 (pos 100) (ride 2 0 1 ∷ []) (leg 1 3 ∷ []) []) × IsEntry (any_network true 1) (morning) (single_any (pos 350) 0 0) × IsEntry (any_network true 1) (morning) (by_one_ride)
unfolding entry_test is_ride ride_facts is_active shifts_of calls_of call_at link stop_set legs_of leg_facts stop_areas holds_at network_matches area_matches frame_matches rule_matches is_top_priority is_selected_rule group_matches limit_holds is_candidate suffices is_least_count is_selected_transfer is_arranged goes_on run_start change_at is_open is_leg_choice is_transfer_choice is_leg_paid is_change_paid is_fare_choice transfer_kind starts_chain is_charged amount_of leg_charge change_charge fare_sum
empty_networks = (entry-by-test _ _ _ refl, entry-by-test _ _ _ refl, entry-by-test _ _ _ refl, entry-by-test _ _ _ refl, entry-by-test _ _ _ refl, entry-by-test _ _ _ refl)

-- the rule for any network is no choice for a bus without priorities, nor where the bus rule has the higher one
pub empty_networks_strict : (rides_price (any_network false 0) (ride 2 0 1 ∷ []) (paid (leg 1 3 ∷ []) []) no_category ≡ None) × (rides_price (any_network true 1) (ride 2 0 1 ∷ []) (paid (leg 1 3 ∷ []) []) no_category ≡ None)
unfolding entry_test is_ride ride_facts is_active shifts_of calls_of call_at link stop_set legs_of leg_facts stop_areas holds_at network_matches area_matches frame_matches rule_matches is_top_priority is_selected_rule group_matches limit_holds is_candidate suffices is_least_count is_selected_transfer is_arranged goes_on run_start change_at is_open is_leg_choice is_transfer_choice is_leg_paid is_change_paid is_fare_choice transfer_kind starts_chain is_charged amount_of leg_charge change_charge fare_sum
empty_networks_strict = (refl, refl)

-- areas z1 and z2, with a rule for buses from each
abbrev in_areas : FeedRows
in_areas =
    record base {
      products = ticket 0 250 ∷ ticket 1 100 ∷ [];
      product_names = codes "single" ∷ codes "any" ∷ [];
      areas = record { id = codes "z1" } ∷ record { id = codes "z2" } ∷ [];
      stop_areas = record { area = record { 0 = 1 }; stop = record { 0 = 0 } } ∷ record { area = record { 0 = 0 }; stop = record { 0 = 0 } } ∷ [];
      leg_rules =
          record (network_rule 0 0 0) { from_area = Some (record { 0 = 0 }) }
          ∷ record (network_rule 0 0 1) { from_area = Some (record { 0 = 1 }) } ∷ [];
      group_names = codes "gb" ∷ [];
      transfer_rules = [];
    }

-- the platform A of station P, where P is in z1 and A in z2, with the rule from z1 alone
abbrev in_area_of_station : FeedRows
in_area_of_station =
    record in_areas {
      stops =
          record { id = codes "A"; kind = 0; parent = Some (record { 0 = 3 }) } ∷ platform (codes "B") ∷ platform (codes "C")
          ∷ record { id = codes "P"; kind = 1; parent = None } ∷ [];
      stop_areas = record { area = record { 0 = 0 }; stop = record { 0 = 3 } } ∷ record { area = record { 0 = 1 }; stop = record { 0 = 0 } } ∷ [];
      leg_rules = record (network_rule 0 0 0) { from_area = Some (record { 0 = 0 }) } ∷ [];
    }

-- a platform in two areas has the rules of both
pub areas_of_platform : IsEntry (in_areas) (morning) (entry 0 2 32400 1 (pos 100) (ride 2 0 1 ∷ []) (leg 1 1 ∷ []) []) × IsEntry (in_areas) (morning) (by_one_ride)
unfolding entry_test is_ride ride_facts is_active shifts_of calls_of call_at link stop_set legs_of leg_facts stop_areas holds_at network_matches area_matches frame_matches rule_matches is_top_priority is_selected_rule group_matches limit_holds is_candidate suffices is_least_count is_selected_transfer is_arranged goes_on run_start change_at is_open is_leg_choice is_transfer_choice is_leg_paid is_change_paid is_fare_choice transfer_kind starts_chain is_charged amount_of leg_charge change_charge fare_sum
areas_of_platform = (entry-by-test _ _ _ refl, entry-by-test _ _ _ refl)

-- the rail leg has no rule; a platform with rows of its own has not its station's areas, and one without has them
pub areas_strict : (rides_price (in_areas) (two_rides) (paid (leg 0 0 ∷ leg 0 0 ∷ []) (None ∷ [])) no_category ≡ None) × (rides_price (in_area_of_station) (ride 2 0 1 ∷ []) (paid (leg 0 0 ∷ []) []) no_category ≡ None) × (rides_price (record in_area_of_station { stop_areas = record { area = record { 0 = 0 }; stop = record { 0 = 3 } } ∷ [] }) (ride 2 0 1 ∷ []) (paid (leg 0 0 ∷ []) []) no_category ≡ Some (pos 250))
unfolding entry_test is_ride ride_facts is_active shifts_of calls_of call_at link stop_set legs_of leg_facts stop_areas holds_at network_matches area_matches frame_matches rule_matches is_top_priority is_selected_rule group_matches limit_holds is_candidate suffices is_least_count is_selected_transfer is_arranged goes_on run_start change_at is_open is_leg_choice is_transfer_choice is_leg_paid is_change_paid is_fare_choice transfer_kind starts_chain is_charged amount_of leg_charge change_charge fare_sum
areas_strict = (refl, refl, refl)

-- buses V1 at 08:59:59 and V2 at 09:00:00, where peak ends and off begins at 09:00:00
abbrev in_frames : FeedRows
in_frames =
    record base {
      trips = trip (codes "V1") 0 ∷ trip (codes "V2") 0 ∷ [];
      stop_times = call 0 0 1 32399 ∷ call 0 2 2 34200 ∷ call 1 0 1 32400 ∷ call 1 2 2 34800 ∷ [];
      timeframes =
          record { frame = record { 0 = 0 }; start = 0; end = 32400; service = record { 0 = 0 } }
          ∷ record { frame = record { 0 = 1 }; start = 32400; end = 86400; service = record { 0 = 0 } } ∷ [];
      frame_names = codes "peak" ∷ codes "off" ∷ [];
      products = ticket 0 250 ∷ ticket 1 100 ∷ [];
      product_names = codes "single" ∷ codes "any" ∷ [];
      leg_rules =
          record (network_rule 0 0 0) { from_frame = Some (record { 0 = 0 }) }
          ∷ record (network_rule 0 0 1) { from_frame = Some (record { 0 = 1 }) } ∷ [];
      transfer_rules = [];
    }

-- a group holds from its start to before its end
pub frame_edge : IsEntry (in_frames) (morning) (entry 0 2 34200 1 (pos 250) (ride 0 0 1 ∷ []) (leg 0 0 ∷ []) []) × IsEntry (in_frames) (morning) (entry 0 2 34800 1 (pos 100) (ride 1 0 1 ∷ []) (leg 1 1 ∷ []) [])
unfolding entry_test is_ride ride_facts is_active shifts_of calls_of call_at link stop_set legs_of leg_facts stop_areas holds_at network_matches area_matches frame_matches rule_matches is_top_priority is_selected_rule group_matches limit_holds is_candidate suffices is_least_count is_selected_transfer is_arranged goes_on run_start change_at is_open is_leg_choice is_transfer_choice is_leg_paid is_change_paid is_fare_choice transfer_kind starts_chain is_charged amount_of leg_charge change_charge fare_sum
frame_edge = (entry-by-test _ _ _ refl, entry-by-test _ _ _ refl)

-- and not at its end
pub frame_edge_strict : (rides_price (in_frames) (ride 1 0 1 ∷ []) (paid (leg 0 0 ∷ []) []) no_category ≡ None) × (rides_price (in_frames) (ride 0 0 1 ∷ []) (paid (leg 1 1 ∷ []) []) no_category ≡ None)
unfolding entry_test is_ride ride_facts is_active shifts_of calls_of call_at link stop_set legs_of leg_facts stop_areas holds_at network_matches area_matches frame_matches rule_matches is_top_priority is_selected_rule group_matches limit_holds is_candidate suffices is_least_count is_selected_transfer is_arranged goes_on run_start change_at is_open is_leg_choice is_transfer_choice is_leg_paid is_change_paid is_fare_choice transfer_kind starts_chain is_charged amount_of leg_charge change_charge fare_sum
frame_edge_strict = (refl, refl)

-- a bus of service S, active on 2025-06-01, that leaves A at 25:10:00; the group sun is of S, and mon of M, active on 2025-06-02
abbrev pub after_midnight : FeedRows
after_midnight =
    record in_frames {
      trips = trip (codes "N") 0 ∷ [];
      stop_times = call 0 0 1 90600 ∷ call 0 2 2 92400 ∷ [];
      exceptions =
          record { service = record { 0 = 0 }; day = record { 0 = pos 20240 }; added = true }
          ∷ record { service = record { 0 = 1 }; day = record { 0 = pos 20241 }; added = true } ∷ [];
      timeframes =
          record { frame = record { 0 = 0 }; start = 0; end = 86400; service = record { 0 = 0 } }
          ∷ record { frame = record { 0 = 1 }; start = 0; end = 86400; service = record { 0 = 1 } } ∷ [];
      frame_names = codes "sun" ∷ codes "mon" ∷ [];
      service_names = codes "S" ∷ codes "M" ∷ [];
    }

abbrev pub night_ride : Ride
night_ride = record (ride 0 0 1) { day = record { 0 = pos 20240 } }

-- timeframes go by the civil day of the departure, not by the service day
pub midnight : IsEntry (after_midnight) (query 0 2 1800) (entry 0 2 6000 1 (pos 100) (night_ride ∷ []) (leg 1 1 ∷ []) [])
unfolding entry_test is_ride ride_facts is_active shifts_of calls_of call_at link stop_set legs_of leg_facts stop_areas holds_at network_matches area_matches frame_matches rule_matches is_top_priority is_selected_rule group_matches limit_holds is_candidate suffices is_least_count is_selected_transfer is_arranged goes_on run_start change_at is_open is_leg_choice is_transfer_choice is_leg_paid is_change_paid is_fare_choice transfer_kind starts_chain is_charged amount_of leg_charge change_charge fare_sum
midnight = entry-by-test _ _ _ refl

-- so the group of the service day does not hold
pub midnight_strict : (rides_price (after_midnight) (night_ride ∷ []) (paid (leg 0 0 ∷ []) []) no_category ≡ None)
unfolding entry_test is_ride ride_facts is_active shifts_of calls_of call_at link stop_set legs_of leg_facts stop_areas holds_at network_matches area_matches frame_matches rule_matches is_top_priority is_selected_rule group_matches limit_holds is_candidate suffices is_least_count is_selected_transfer is_arranged goes_on run_start change_at is_open is_leg_choice is_transfer_choice is_leg_paid is_change_paid is_fare_choice transfer_kind starts_chain is_charged amount_of leg_charge change_charge fare_sum
midnight_strict = refl

-- ---- journeys without rides, and walks

-- a walk of an hour from A to C
abbrev pub with_walk : FeedRows
with_walk = record base { links = record { from = record { 0 = 0 }; to = record { 0 = 2 }; forbidden = false; seconds = 3600 } ∷ [] }

-- B and B2 are platforms of station P, and T2 departs from B2 at this time
abbrev pub from_b2 : ℕ → FeedRows
from_b2 time =
    record base {
      stops =
          platform (codes "A") ∷ record { id = codes "B"; kind = 0; parent = Some (record { 0 = 4 }) } ∷ platform (codes "C")
          ∷ record { id = codes "B2"; kind = 0; parent = Some (record { 0 = 4 }) } ∷ record { id = codes "P"; kind = 1; parent = None } ∷ [];
      stop_times =
          call 0 0 1 28800 ∷ call 0 1 2 29400 ∷ call 1 3 1 time ∷ call 1 2 2 30600 ∷ call 2 0 1 29100 ∷ call 2 2 2 32400 ∷ [];
    }

-- changing is forbidden within P
abbrev barred_station : FeedRows
barred_station = record (from_b2 29700) { links = record { from = record { 0 = 4 }; to = record { 0 = 4 }; forbidden = true; seconds = 0 } ∷ [] }

-- one stays, or walks
pub no_rides : IsEntry (base) (query 0 0 28800) (entry 0 0 28800 0 (pos 0) [] [] []) × IsEntry (with_walk) (morning) (entry 0 2 32400 0 (pos 0) [] [] [])
unfolding entry_test is_ride ride_facts is_active shifts_of calls_of call_at link stop_set legs_of leg_facts stop_areas holds_at network_matches area_matches frame_matches rule_matches is_top_priority is_selected_rule group_matches limit_holds is_candidate suffices is_least_count is_selected_transfer is_arranged goes_on run_start change_at is_open is_leg_choice is_transfer_choice is_leg_paid is_change_paid is_fare_choice transfer_kind starts_chain is_charged amount_of leg_charge change_charge fare_sum
no_rides = (entry-by-test _ _ _ refl, entry-by-test _ _ _ refl)

-- a walk within a station takes 180 seconds, and a ride is caught in that very second; from a station one may board at any of its platforms
pub station_walks : IsEntry (from_b2 29580) (morning) (by_two_rides (pos 300) (change 0 2 ∷ [])) × IsEntry (record (from_b2 29700) { transfer_rules = [] }) (query 4 2 29640) (entry 3 2 30600 1 (pos 400) (ride 1 0 1 ∷ []) (leg 1 1 ∷ []) [])
unfolding entry_test is_ride ride_facts is_active shifts_of calls_of call_at link stop_set legs_of leg_facts stop_areas holds_at network_matches area_matches frame_matches rule_matches is_top_priority is_selected_rule group_matches limit_holds is_candidate suffices is_least_count is_selected_transfer is_arranged goes_on run_start change_at is_open is_leg_choice is_transfer_choice is_leg_paid is_change_paid is_fare_choice transfer_kind starts_chain is_charged amount_of leg_charge change_charge fare_sum
station_walks = (entry-by-test _ _ _ refl, entry-by-test _ _ _ refl)

-- one second earlier it is missed, and where the station forbids the change there is no walk
pub missed_rides : (entry_test (from_b2 29579) morning (by_two_rides (pos 300) (change 0 2 ∷ [])) ≡ false) × (entry_test barred_station morning (by_two_rides (pos 300) (change 0 2 ∷ [])) ≡ false)
unfolding entry_test is_ride ride_facts is_active shifts_of calls_of call_at link stop_set legs_of leg_facts stop_areas holds_at network_matches area_matches frame_matches rule_matches is_top_priority is_selected_rule group_matches limit_holds is_candidate suffices is_least_count is_selected_transfer is_arranged goes_on run_start change_at is_open is_leg_choice is_transfer_choice is_leg_paid is_change_paid is_fare_choice transfer_kind starts_chain is_charged amount_of leg_charge change_charge fare_sum
missed_rides = (refl, refl)

-- the window's last second is within it, and the next one past it
pub window_edge : (entry_test base (record morning { window = 1800 }) (by_two_rides (pos 300) (change 0 2 ∷ [])) ≡ true) × (entry_test base (record morning { window = 1799 }) (by_two_rides (pos 300) (change 0 2 ∷ [])) ≡ false) × (entry_test base (record morning { rides = 1 }) (by_two_rides (pos 300) (change 0 2 ∷ [])) ≡ false)
unfolding entry_test is_ride ride_facts is_active shifts_of calls_of call_at link stop_set legs_of leg_facts stop_areas holds_at network_matches area_matches frame_matches rule_matches is_top_priority is_selected_rule group_matches limit_holds is_candidate suffices is_least_count is_selected_transfer is_arranged goes_on run_start change_at is_open is_leg_choice is_transfer_choice is_leg_paid is_change_paid is_fare_choice transfer_kind starts_chain is_charged amount_of leg_charge change_charge fare_sum
window_edge = (refl, refl, refl)

-- ---- longer chains

-- stop D, rail trip T5 from B to D, tram trip T4 from D to C; a bonus for the change from rail to tram
abbrev with_tram : ℕ → ℕ → FeedRows
with_tram to_rail to_tram =
    record base {
      stops = platform (codes "A") ∷ platform (codes "B") ∷ platform (codes "C") ∷ platform (codes "D") ∷ [];
      routes =
          record { id = codes "R1"; network = Some (record { 0 = 0 }) } ∷ record { id = codes "R2"; network = Some (record { 0 = 1 }) }
          ∷ record { id = codes "R3"; network = Some (record { 0 = 2 }) } ∷ [];
      trips = trip (codes "T1") 0 ∷ trip (codes "T5") 1 ∷ trip (codes "T4") 2 ∷ [];
      stop_times =
          call 0 0 1 28800 ∷ call 0 1 2 29400 ∷ call 1 1 1 29760 ∷ call 1 3 2 30660 ∷ call 2 3 1 30900 ∷ call 2 2 2 31800 ∷ [];
      network_names = codes "bus" ∷ codes "rail" ∷ codes "tram" ∷ [];
      products =
          ticket 0 250 ∷ ticket 1 400 ∷ ticket 2 50 ∷ ticket 3 100
          ∷ record (ticket 4 0) { amount = record { 0 = negsuc 199 } } ∷ [];
      product_names = codes "single" ∷ codes "rail" ∷ codes "change" ∷ codes "tram" ∷ codes "bonus" ∷ [];
      leg_rules = network_rule 0 0 0 ∷ network_rule 1 1 1 ∷ network_rule 2 2 3 ∷ [];
      group_names = codes "gb" ∷ codes "gr" ∷ codes "gt" ∷ [];
      transfer_rules = transfer_rule 0 1 to_rail (Some (record { 0 = 2 })) ∷ transfer_rule 1 2 to_tram (Some (record { 0 = 4 })) ∷ [];
    }

abbrev by_tram : ℤ → Entry
by_tram price = entry 0 2 31800 3 price (ride 0 0 1 ∷ ride 1 0 1 ∷ ride 2 0 1 ∷ []) (leg 0 0 ∷ leg 1 1 ∷ leg 2 3 ∷ []) (change 0 2 ∷ change 1 4 ∷ [])

-- a bonus lowers the price; under type 2 a leg that is not the first of its chain stays charged
pub chains : IsEntry (with_tram 0 0) (morning) (by_tram (pos 100)) × IsEntry (with_tram 1 2) (morning) (by_tram (pos 500))
unfolding entry_test is_ride ride_facts is_active shifts_of calls_of call_at link stop_set legs_of leg_facts stop_areas holds_at network_matches area_matches frame_matches rule_matches is_top_priority is_selected_rule group_matches limit_holds is_candidate suffices is_least_count is_selected_transfer is_arranged goes_on run_start change_at is_open is_leg_choice is_transfer_choice is_leg_paid is_change_paid is_fare_choice transfer_kind starts_chain is_charged amount_of leg_charge change_charge fare_sum
chains = (entry-by-test _ _ _ refl, entry-by-test _ _ _ refl)

-- tram trip T6 from A to B beside the bus T1, and a free change from bus to rail
abbrev two_prefixes : FeedRows
two_prefixes =
    record (with_tram 0 0) {
      trips = trip (codes "T6") 2 ∷ trip (codes "T2") 1 ∷ trip (codes "T1") 0 ∷ [];
      stop_times =
          call 0 0 1 28800 ∷ call 0 1 2 29400 ∷ call 1 1 1 29700 ∷ call 1 2 2 30600 ∷ call 2 0 1 28800 ∷ call 2 1 2 29400 ∷ [];
      transfer_rules = transfer_rule 0 1 0 None ∷ [];
    }

-- the dearer first ride leads to the cheaper journey
pub prefixes : IsEntry (two_prefixes) (morning) (entry 0 2 30600 2 (pos 250) (ride 2 0 1 ∷ ride 1 0 1 ∷ []) (leg 0 0 ∷ leg 1 1 ∷ []) (free_change 0 ∷ [])) × IsEntry (two_prefixes) (morning) (entry 0 2 30600 2 (pos 500) (ride 0 0 1 ∷ ride 1 0 1 ∷ []) (leg 2 3 ∷ leg 1 1 ∷ []) (None ∷ [])) × IsEntry (two_prefixes) (query 0 1 28800) (entry 0 1 29400 1 (pos 100) (ride 0 0 1 ∷ []) (leg 2 3 ∷ []) [])
unfolding entry_test is_ride ride_facts is_active shifts_of calls_of call_at link stop_set legs_of leg_facts stop_areas holds_at network_matches area_matches frame_matches rule_matches is_top_priority is_selected_rule group_matches limit_holds is_candidate suffices is_least_count is_selected_transfer is_arranged goes_on run_start change_at is_open is_leg_choice is_transfer_choice is_leg_paid is_change_paid is_fare_choice transfer_kind starts_chain is_charged amount_of leg_charge change_charge fare_sum
prefixes = (entry-by-test _ _ _ refl, entry-by-test _ _ _ refl, entry-by-test _ _ _ refl)

-- a surcharge of type 1 within 600 seconds from arrival to departure; bus T0 reaches B one second earlier than that
abbrev surcharge : FeedRows
surcharge =
    record base {
      trips = trip (codes "T1") 0 ∷ trip (codes "T2") 1 ∷ trip (codes "T0") 0 ∷ [];
      stop_times =
          call 0 0 1 28800 ∷ call 0 1 2 29400 ∷ call 1 1 1 29700 ∷ call 1 2 2 30600 ∷ call 2 0 1 28200 ∷ call 2 1 2 29099 ∷ [];
      transfer_rules = record (transfer_rule 0 1 1 (Some (record { 0 = 2 }))) { limit = Some (record { seconds = 600; kind = 2 }) } ∷ [];
    }

-- who comes early enough pays no surcharge
pub surcharges : IsEntry (surcharge) (query 0 2 28200) (entry 0 2 30600 2 (pos 650) (ride 2 0 1 ∷ ride 1 0 1 ∷ []) (leg 0 0 ∷ leg 1 1 ∷ []) (None ∷ [])) × IsEntry (surcharge) (morning) (by_two_rides (pos 700) (change 0 2 ∷ []))
unfolding entry_test is_ride ride_facts is_active shifts_of calls_of call_at link stop_set legs_of leg_facts stop_areas holds_at network_matches area_matches frame_matches rule_matches is_top_priority is_selected_rule group_matches limit_holds is_candidate suffices is_least_count is_selected_transfer is_arranged goes_on run_start change_at is_open is_leg_choice is_transfer_choice is_leg_paid is_change_paid is_fare_choice transfer_kind starts_chain is_charged amount_of leg_charge change_charge fare_sum
surcharges = (entry-by-test _ _ _ refl, entry-by-test _ _ _ refl)

-- ---- riders

-- adult and child; single is for children alone, at 1.20
abbrev with_riders : FeedRows
with_riders =
    record base {
      riders = record { id = codes "adult"; default = true } ∷ record { id = codes "child"; default = false } ∷ [];
      products = record (ticket 0 120) { rider = Some (record { 0 = 1 }) } ∷ ticket 1 400 ∷ ticket 2 50 ∷ [];
    }

abbrev child : Query
child = record morning { buyer = of_category 1 }

-- a row of a category is open to its riders
pub rider_rows : IsEntry (with_riders) (child) (by_two_rides (pos 170) (change 0 2 ∷ [])) × IsEntry (with_riders) (child) (entry 0 2 32400 1 (pos 120) (ride 2 0 1 ∷ []) (leg 0 0 ∷ []) [])
unfolding entry_test is_ride ride_facts is_active shifts_of calls_of call_at link stop_set legs_of leg_facts stop_areas holds_at network_matches area_matches frame_matches rule_matches is_top_priority is_selected_rule group_matches limit_holds is_candidate suffices is_least_count is_selected_transfer is_arranged goes_on run_start change_at is_open is_leg_choice is_transfer_choice is_leg_paid is_change_paid is_fare_choice transfer_kind starts_chain is_charged amount_of leg_charge change_charge fare_sum
rider_rows = (entry-by-test _ _ _ refl, entry-by-test _ _ _ refl)

-- and to no others, nor without a category
pub rider_rows_strict : (rides_price (with_riders) (two_rides) (paid (leg 0 0 ∷ leg 1 1 ∷ []) (change 0 2 ∷ [])) (of_category 0) ≡ None) × (rides_price (with_riders) (two_rides) (paid (leg 0 0 ∷ leg 1 1 ∷ []) (change 0 2 ∷ [])) no_category ≡ None)
unfolding entry_test is_ride ride_facts is_active shifts_of calls_of call_at link stop_set legs_of leg_facts stop_areas holds_at network_matches area_matches frame_matches rule_matches is_top_priority is_selected_rule group_matches limit_holds is_candidate suffices is_least_count is_selected_transfer is_arranged goes_on run_start change_at is_open is_leg_choice is_transfer_choice is_leg_paid is_change_paid is_fare_choice transfer_kind starts_chain is_charged amount_of leg_charge change_charge fare_sum
rider_rows_strict = (refl, refl)
