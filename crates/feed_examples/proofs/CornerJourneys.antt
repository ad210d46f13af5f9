-- Worked examples of journeys at their edges: stations as ends of a query, rows of transfers.txt at the ends and between
-- rides, windows, trips that call twice at one stop and runs outside their day. What is right stands as ≡ true, and what is
-- wrong as ≡ false.
use Rattle.std.proofs.Common.{◌≡◌, refl, ℕ, Bool, true, false, List, [], ◌∷◌}
use Rattle.std.specs.Prelude.{None, pos, negsuc, codes}
use Rattle.feed_rows.specs.FeedRows.{FeedRows}
use Rattle.feed_rows.specs.declared.rows.LinkRow.{LinkRow}
use Rattle.feed_rows.specs.declared.fares.Entry.{Entry}
use Rattle.feed_rows.specs.ServiceDays.{is_active}
use Rattle.feed_rows.specs.Calls.{call_at, calls_of}
use Rattle.feed_rows.specs.Shifts.{shifts_of}
use Rattle.feed_rows.specs.Rides.{is_ride, ride_facts}
use Rattle.feed_rows.specs.StopLinks.{link, stop_set}
use Rattle.feed_rows.specs.Legs.{stop_areas, holds_at, leg_facts, legs_of}
use Rattle.feed_rows.specs.LegRules.{network_matches, area_matches, frame_matches, rule_matches, is_top_priority, is_selected_rule}
use Rattle.feed_rows.specs.TransferRules.{group_matches, limit_holds, is_candidate, suffices, is_least_count, is_selected_transfer, is_arranged, goes_on, run_start, change_at}
use Rattle.feed_rows.specs.FareChoices.{is_open, is_leg_choice, is_transfer_choice, is_leg_paid, is_change_paid, is_fare_choice}
use Rattle.feed_rows.specs.FareSums.{transfer_kind, starts_chain, is_charged, amount_of, leg_charge, change_charge, fare_sum}
use Rattle.feed_examples.proofs.EntryChecks.{entry_test}
use Rattle.feed_examples.specs.BaseFeed.{base, query}
use Rattle.feed_examples.proofs.WorkedEntries.{ride, leg, change, entry, by_two_rides, morning, from_b2, with_walk}
use Rattle.feed_examples.proofs.CornerRides.{early_run, late_run, loop_trip}

-- a row of transfers.txt
abbrev pub link_row : ℕ → ℕ → Bool → ℕ → LinkRow
link_row from to forbidden seconds = record { from = record { 0 = from }; to = record { 0 = to }; forbidden = forbidden; seconds = seconds }

-- a feed with these rows of transfers.txt
abbrev pub with_links : FeedRows → List LinkRow → FeedRows
with_links feed rows = record feed { links = rows }

-- ---- stations as ends: B (1) and B2 (3) are platforms of P (4), T1 alights at B and T2 leaves B2

-- T2 from B2 to C, from this first stop, with its ticket alone
abbrev rail_from : ℕ → Entry
rail_from first = entry first 2 30600 1 (pos 400) (ride 1 0 1 ∷ []) (leg 1 1 ∷ []) []

-- from station P a journey starts at B2, where T2 leaves: neither at B nor at the station itself
station_origin : (entry_test (record (from_b2 29700) { transfer_rules = [] }) (query 4 2 29640) (rail_from 3) ≡ true) × (entry_test (record (from_b2 29700) { transfer_rules = [] }) (query 4 2 28800) (rail_from 1) ≡ false) × (entry_test (record (from_b2 29700) { transfer_rules = [] }) (query 4 2 28800) (rail_from 4) ≡ false)
unfolding entry_test is_ride ride_facts is_active shifts_of calls_of call_at link stop_set legs_of leg_facts stop_areas holds_at network_matches area_matches frame_matches rule_matches is_top_priority is_selected_rule group_matches limit_holds is_candidate suffices is_least_count is_selected_transfer is_arranged goes_on run_start change_at is_open is_leg_choice is_transfer_choice is_leg_paid is_change_paid is_fare_choice transfer_kind starts_chain is_charged amount_of leg_charge change_charge fare_sum
station_origin = (refl, refl, refl)

-- from platform B one walks 180 seconds to B2, and misses T2 a second later
platform_origin : (entry_test (record (from_b2 29700) { transfer_rules = [] }) (query 1 2 29520) (rail_from 1) ≡ true) × (entry_test (record (from_b2 29700) { transfer_rules = [] }) (query 1 2 29521) (rail_from 1) ≡ false)
unfolding entry_test is_ride ride_facts is_active shifts_of calls_of call_at link stop_set legs_of leg_facts stop_areas holds_at network_matches area_matches frame_matches rule_matches is_top_priority is_selected_rule group_matches limit_holds is_candidate suffices is_least_count is_selected_transfer is_arranged goes_on run_start change_at is_open is_leg_choice is_transfer_choice is_leg_paid is_change_paid is_fare_choice transfer_kind starts_chain is_charged amount_of leg_charge change_charge fare_sum
platform_origin = (refl, refl)

-- T1 from A to B, with this last stop and arrival
abbrev bus_to : ℕ → ℕ → Entry
bus_to last arrival = entry 0 last arrival 1 (pos 250) (ride 0 0 1 ∷ []) (leg 0 0 ∷ []) []

-- to station P a journey ends at B, where T1 alights: neither after a walk to B2, nor at the station itself
station_destination : (entry_test (from_b2 29700) (query 0 4 28800) (bus_to 1 29400) ≡ true) × (entry_test (from_b2 29700) (query 0 4 28800) (bus_to 3 29580) ≡ false) × (entry_test (from_b2 29700) (query 0 4 28800) (bus_to 4 29400) ≡ false)
unfolding entry_test is_ride ride_facts is_active shifts_of calls_of call_at link stop_set legs_of leg_facts stop_areas holds_at network_matches area_matches frame_matches rule_matches is_top_priority is_selected_rule group_matches limit_holds is_candidate suffices is_least_count is_selected_transfer is_arranged goes_on run_start change_at is_open is_leg_choice is_transfer_choice is_leg_paid is_change_paid is_fare_choice transfer_kind starts_chain is_charged amount_of leg_charge change_charge fare_sum
station_destination = (refl, refl, refl)

-- nor at B2 without a walk
station_destination_walkless : entry_test (from_b2 29700) (query 0 4 28800) (bus_to 3 29400) ≡ false
unfolding entry_test is_ride ride_facts is_active shifts_of calls_of call_at link stop_set legs_of leg_facts stop_areas holds_at network_matches area_matches frame_matches rule_matches is_top_priority is_selected_rule group_matches limit_holds is_candidate suffices is_least_count is_selected_transfer is_arranged goes_on run_start change_at is_open is_leg_choice is_transfer_choice is_leg_paid is_change_paid is_fare_choice transfer_kind starts_chain is_charged amount_of leg_charge change_charge fare_sum
station_destination_walkless = refl

-- to platform B2 one walks from B, and the walk counts in the window
platform_destination : (entry_test (from_b2 29700) (query 0 3 28800) (bus_to 3 29580) ≡ true) × (entry_test (from_b2 29700) (record (query 0 3 28800) { window = 780 }) (bus_to 3 29580) ≡ true) × (entry_test (from_b2 29700) (record (query 0 3 28800) { window = 779 }) (bus_to 3 29580) ≡ false)
unfolding entry_test is_ride ride_facts is_active shifts_of calls_of call_at link stop_set legs_of leg_facts stop_areas holds_at network_matches area_matches frame_matches rule_matches is_top_priority is_selected_rule group_matches limit_holds is_candidate suffices is_least_count is_selected_transfer is_arranged goes_on run_start change_at is_open is_leg_choice is_transfer_choice is_leg_paid is_change_paid is_fare_choice transfer_kind starts_chain is_charged amount_of leg_charge change_charge fare_sum
platform_destination = (refl, refl, refl)

-- a journey without rides from one stop to another, arriving at this time
abbrev on_foot : ℕ → ℕ → ℕ → Entry
on_foot first last arrival = entry first last arrival 0 (pos 0) [] [] []

-- from a station to itself one stays at a platform, or walks to the other, which takes its time
station_to_itself : (entry_test (from_b2 29700) (record (query 4 4 28800) { rides = 0 }) (on_foot 1 1 28800) ≡ true) × (entry_test (from_b2 29700) (query 4 4 28800) (on_foot 3 3 28800) ≡ true) × (entry_test (from_b2 29700) (query 4 4 28800) (on_foot 1 3 28980) ≡ true) × (entry_test (from_b2 29700) (query 4 4 28800) (on_foot 1 3 28800) ≡ false)
unfolding entry_test is_ride ride_facts is_active shifts_of calls_of call_at link stop_set legs_of leg_facts stop_areas holds_at network_matches area_matches frame_matches rule_matches is_top_priority is_selected_rule group_matches limit_holds is_candidate suffices is_least_count is_selected_transfer is_arranged goes_on run_start change_at is_open is_leg_choice is_transfer_choice is_leg_paid is_change_paid is_fare_choice transfer_kind starts_chain is_charged amount_of leg_charge change_charge fare_sum
station_to_itself = (refl, refl, refl, refl)

-- but one stays neither at the station itself nor at a platform that is not one of its own
station_no_platform : (entry_test (from_b2 29700) (query 4 4 28800) (on_foot 4 4 28800) ≡ false) × (entry_test (from_b2 29700) (query 4 4 28800) (on_foot 0 0 28800) ≡ false)
unfolding entry_test is_ride ride_facts is_active shifts_of calls_of call_at link stop_set legs_of leg_facts stop_areas holds_at network_matches area_matches frame_matches rule_matches is_top_priority is_selected_rule group_matches limit_holds is_candidate suffices is_least_count is_selected_transfer is_arranged goes_on run_start change_at is_open is_leg_choice is_transfer_choice is_leg_paid is_change_paid is_fare_choice transfer_kind starts_chain is_charged amount_of leg_charge change_charge fare_sum
station_no_platform = (refl, refl)

-- a station without platforms has no journey, not even to itself; nor has a stop of another kind, or no stop
no_platforms : (entry_test (record base { stops = record { id = codes "P"; kind = 1; parent = None } ∷ [] }) (query 0 0 28800) (on_foot 0 0 28800) ≡ false) × (entry_test (record base { stops = record { id = codes "E"; kind = 2; parent = None } ∷ [] }) (query 0 0 28800) (on_foot 0 0 28800) ≡ false) × (entry_test base (query 9 9 28800) (on_foot 9 9 28800) ≡ false)
unfolding entry_test is_ride ride_facts is_active shifts_of calls_of call_at link stop_set legs_of leg_facts stop_areas holds_at network_matches area_matches frame_matches rule_matches is_top_priority is_selected_rule group_matches limit_holds is_candidate suffices is_least_count is_selected_transfer is_arranged goes_on run_start change_at is_open is_leg_choice is_transfer_choice is_leg_paid is_change_paid is_fare_choice transfer_kind starts_chain is_charged amount_of leg_charge change_charge fare_sum
no_platforms = (refl, refl, refl)

-- ---- rows of transfers.txt

-- rows that forbid A to A and C to C don't touch boarding at A, alighting at C, or staying at A
barred_ends : (entry_test (with_links base (link_row 0 0 true 0 ∷ link_row 2 2 true 0 ∷ [])) morning (by_two_rides (pos 300) (change 0 2 ∷ [])) ≡ true) × (entry_test (with_links base (link_row 0 0 true 0 ∷ [])) (query 0 0 28800) (on_foot 0 0 28800) ≡ true)
unfolding entry_test is_ride ride_facts is_active shifts_of calls_of call_at link stop_set legs_of leg_facts stop_areas holds_at network_matches area_matches frame_matches rule_matches is_top_priority is_selected_rule group_matches limit_holds is_candidate suffices is_least_count is_selected_transfer is_arranged goes_on run_start change_at is_open is_leg_choice is_transfer_choice is_leg_paid is_change_paid is_fare_choice transfer_kind starts_chain is_charged amount_of leg_charge change_charge fare_sum
barred_ends = (refl, refl)

-- a row from B to B governs the change there: it forbids it, or asks for 300 seconds, which there are, or for 301
ruled_change : (entry_test (with_links base (link_row 1 1 true 0 ∷ [])) morning (by_two_rides (pos 300) (change 0 2 ∷ [])) ≡ false) × (entry_test (with_links base (link_row 1 1 false 300 ∷ [])) morning (by_two_rides (pos 300) (change 0 2 ∷ [])) ≡ true) × (entry_test (with_links base (link_row 1 1 false 301 ∷ [])) morning (by_two_rides (pos 300) (change 0 2 ∷ [])) ≡ false)
unfolding entry_test is_ride ride_facts is_active shifts_of calls_of call_at link stop_set legs_of leg_facts stop_areas holds_at network_matches area_matches frame_matches rule_matches is_top_priority is_selected_rule group_matches limit_holds is_candidate suffices is_least_count is_selected_transfer is_arranged goes_on run_start change_at is_open is_leg_choice is_transfer_choice is_leg_paid is_change_paid is_fare_choice transfer_kind starts_chain is_charged amount_of leg_charge change_charge fare_sum
ruled_change = (refl, refl, refl)

-- T1 from A to B after a walk from C
abbrev walked_bus : Entry
walked_bus = entry 2 1 29400 1 (pos 250) (ride 0 0 1 ∷ []) (leg 0 0 ∷ []) []

-- a walk of 60 seconds to the first ride catches it to the second, and not a second later; a row is for its direction alone
course_before : (entry_test (with_links base (link_row 2 0 false 60 ∷ [])) (query 2 1 28740) walked_bus ≡ true) × (entry_test (with_links base (link_row 2 0 false 60 ∷ [])) (query 2 1 28741) walked_bus ≡ false) × (entry_test (with_links base (link_row 0 2 false 60 ∷ [])) (query 2 1 28740) walked_bus ≡ false)
unfolding entry_test is_ride ride_facts is_active shifts_of calls_of call_at link stop_set legs_of leg_facts stop_areas holds_at network_matches area_matches frame_matches rule_matches is_top_priority is_selected_rule group_matches limit_holds is_candidate suffices is_least_count is_selected_transfer is_arranged goes_on run_start change_at is_open is_leg_choice is_transfer_choice is_leg_paid is_change_paid is_fare_choice transfer_kind starts_chain is_charged amount_of leg_charge change_charge fare_sum
course_before = (refl, refl, refl)

-- the walk of a journey without rides is within the window to the second, whatever the limit of rides
walk_window : (entry_test with_walk (record morning { window = 3600; rides = 0 }) (on_foot 0 2 32400) ≡ true) × (entry_test with_walk (record morning { window = 3599 }) (on_foot 0 2 32400) ≡ false)
unfolding entry_test is_ride ride_facts is_active shifts_of calls_of call_at link stop_set legs_of leg_facts stop_areas holds_at network_matches area_matches frame_matches rule_matches is_top_priority is_selected_rule group_matches limit_holds is_candidate suffices is_least_count is_selected_transfer is_arranged goes_on run_start change_at is_open is_leg_choice is_transfer_choice is_leg_paid is_change_paid is_fare_choice transfer_kind starts_chain is_charged amount_of leg_charge change_charge fare_sum
walk_window = (refl, refl)

-- ---- unusual trips

-- one may ride from A round to A, in one ride or in two rides of one run
round_trips : (entry_test loop_trip (query 0 0 28800) (entry 0 0 30000 1 (pos 250) (ride 0 0 2 ∷ []) (leg 0 0 ∷ []) []) ≡ true) × (entry_test loop_trip (query 0 0 28800) (entry 0 0 30000 2 (pos 500) (ride 0 0 1 ∷ ride 0 1 2 ∷ []) (leg 0 0 ∷ leg 0 0 ∷ []) (None ∷ [])) ≡ true)
unfolding entry_test is_ride ride_facts is_active shifts_of calls_of call_at link stop_set legs_of leg_facts stop_areas holds_at network_matches area_matches frame_matches rule_matches is_top_priority is_selected_rule group_matches limit_holds is_candidate suffices is_least_count is_selected_transfer is_arranged goes_on run_start change_at is_open is_leg_choice is_transfer_choice is_leg_paid is_change_paid is_fare_choice transfer_kind starts_chain is_charged amount_of leg_charge change_charge fare_sum
round_trips = (refl, refl)

-- a run an hour before the trip's own departure
early_journey : entry_test early_run (query 0 2 25500) (entry 0 2 28800 1 (pos 250) (record (ride 2 0 1) { shift = negsuc 3599 } ∷ []) (leg 0 0 ∷ []) []) ≡ true
unfolding entry_test is_ride ride_facts is_active shifts_of calls_of call_at link stop_set legs_of leg_facts stop_areas holds_at network_matches area_matches frame_matches rule_matches is_top_priority is_selected_rule group_matches limit_holds is_candidate suffices is_least_count is_selected_transfer is_arranged goes_on run_start change_at is_open is_leg_choice is_transfer_choice is_leg_paid is_change_paid is_fare_choice transfer_kind starts_chain is_charged amount_of leg_charge change_charge fare_sum
early_journey = refl

-- a run that starts at 25:00:00, boarded at its second stop 900 seconds later: the query's time is that of the run's first
-- departure
late_journey : entry_test late_run (query 1 2 90000) (entry 1 2 93300 1 (pos 250) (record (ride 2 1 2) { shift = pos 60900 } ∷ []) (leg 0 0 ∷ []) []) ≡ true
unfolding entry_test is_ride ride_facts is_active shifts_of calls_of call_at link stop_set legs_of leg_facts stop_areas holds_at network_matches area_matches frame_matches rule_matches is_top_priority is_selected_rule group_matches limit_holds is_candidate suffices is_least_count is_selected_transfer is_arranged goes_on run_start change_at is_open is_leg_choice is_transfer_choice is_leg_paid is_change_paid is_fare_choice transfer_kind starts_chain is_charged amount_of leg_charge change_charge fare_sum
late_journey = refl

-- an entry tells the number of its rides
told_rides : entry_test base morning (entry 0 2 32400 2 (pos 250) (ride 2 0 1 ∷ []) (leg 0 0 ∷ []) []) ≡ false
unfolding entry_test is_ride ride_facts is_active shifts_of calls_of call_at link stop_set legs_of leg_facts stop_areas holds_at network_matches area_matches frame_matches rule_matches is_top_priority is_selected_rule group_matches limit_holds is_candidate suffices is_least_count is_selected_transfer is_arranged goes_on run_start change_at is_open is_leg_choice is_transfer_choice is_leg_paid is_change_paid is_fare_choice transfer_kind starts_chain is_charged amount_of leg_charge change_charge fare_sum
told_rides = refl
