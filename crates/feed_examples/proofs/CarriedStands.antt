-- What bodies carry along lists: the calls in one pass, where a traveller stands, the sets of stops row by row, and
-- where fares stand.
use Rattle.std.proofs.Common.{◌≡◌, refl, ℕ, Bool, true, false, List, [], ◌∷◌}
use Rattle.std.specs.Prelude.{Option, Some, None, ℤ, pos, map}
use Rattle.feed_rows.specs.declared.fares.ChangeChoice.{ChangeChoice}
use Rattle.feed_rows.specs.declared.fares.LegChoice.{LegChoice}
use Rattle.feed_rows.specs.declared.journeys.LegFacts.{LegFacts}
use Rattle.feed_rows.specs.declared.rows.StopTimeRow.{StopTimeRow}
use Rattle.feed_rows.specs.declared.rows.TransferRuleRow.{TransferRuleRow}
use Rattle.feed_rows.specs.FeedRows.{FeedRows}
use Rattle.feed_rows.specs.ServiceDays.{is_active}
use Rattle.feed_rows.specs.Calls.{call_at, calls_of}
use Rattle.feed_rows.specs.CallPass.{gap_at, pass}
use Rattle.feed_rows.specs.Shifts.{shifts_of}
use Rattle.feed_rows.specs.Rides.{is_ride, ride_facts}
use Rattle.feed_rows.specs.StopLinks.{link, stop_set}
use Rattle.feed_rows.specs.JourneyStands.{Stand, next_stand, stand_after, end_arrival}
use Rattle.feed_rows.specs.StopSets.{row_sets, row_sets_at}
use Rattle.feed_rows.specs.LegRules.{network_matches, area_matches, frame_matches, rule_matches, is_top_priority, is_selected_rule}
use Rattle.feed_rows.specs.TransferRules.{group_matches, limit_holds, is_candidate, suffices, is_least_count, is_selected_transfer, is_arranged}
use Rattle.feed_rows.specs.FareChoices.{is_open, is_leg_choice, is_transfer_choice}
use Rattle.feed_rows.specs.FareSums.{amount_of}
use Rattle.feed_rows.specs.FareStands.{FareStand, extends, next_run, first_fare_stand, next_fare_stand, stand_at}
use Rattle.feed_examples.specs.BaseFeed.{base, on_the_day, no_category}
use Rattle.feed_examples.proofs.CornerJourneys.{with_links, link_row}
use Rattle.feed_examples.proofs.CornerRides.{timed}
use Rattle.feed_examples.proofs.WorkedEntries.{ride, leg, change, free_change, paid, morning, two_rides}
use Rattle.feed_examples.proofs.WorkedStates.{leg_1, leg_2, bus_1, bus_2, bus_3, with_rules, bus_to_rail, among_buses}

-- ---- calls

-- rows at 10, without times, and from 31 to 40
abbrev rows : List StopTimeRow
rows =
    timed 0 0 1 None (Some 10) ∷ timed 0 1 2 None None ∷ timed 0 1 3 None None ∷ timed 0 2 4 (Some 31) (Some 40) ∷ []

-- the rows without times lie between positions 0 and 3, which are left at 10 and reached at 31; the pass gives them 17
-- and 24, and the others their own times
passed_calls :
    (gap_at rows 3 ≡ record { from = 0; left = 10; to = 3; reached = 31 })
    × (map (λ call. call.arrival) (pass rows) ≡ 10 ∷ 17 ∷ 24 ∷ 31 ∷ [])
    × (map (λ call. call.departure) (pass rows) ≡ 10 ∷ 17 ∷ 24 ∷ 40 ∷ [])
    × (map (λ call. call.stop.0) (pass rows) ≡ 0 ∷ 1 ∷ 1 ∷ 2 ∷ [])
passed_calls = (refl, refl, refl, refl)

-- ---- stands of travellers

-- where one stands at a stop since a time of 2025-06-02
abbrev stands : ℕ → ℕ → Bool → Option Stand
stands stop time fresh = Some (record { stop = record { 0 = stop }; at = pos (on_the_day time); fresh = fresh })

-- where one stands after so many of T1 and T2 from A
abbrev after : FeedRows → ℕ → Option Stand
after feed count = stand_after feed morning (record { 0 = 0 }) two_rides count

-- at A at 08:00:00, at B since 08:10:00 and at C since 08:30:00; nowhere where the change at B takes over 300 seconds
stands_along :
    (after base 0 ≡ stands 0 28800 true)
    × (after base 1 ≡ stands 1 29400 false)
    × (after base 2 ≡ stands 2 30600 false)
    × (after (with_links base (link_row 1 1 false 300 ∷ [])) 2 ≡ stands 2 30600 false)
    × (after (with_links base (link_row 1 1 false 301 ∷ [])) 2 ≡ None)
    × (stand_after base morning (record { 0 = 0 }) (ride 1 0 1 ∷ []) 1 ≡ None)
unfolding next_stand is_ride ride_facts is_active shifts_of calls_of call_at link stop_set
stands_along = (refl, refl, refl, refl, refl, refl)

-- the arrival at C, where one stands at a stop since second 7, after a ride or before the first
abbrev end_from : FeedRows → ℕ → Bool → Option ℤ
end_from feed stop fresh =
    end_arrival feed morning (record { stop = record { 0 = stop }; at = pos 7; fresh = fresh }) (record { 0 = 2 })

-- the end: at C without a walk, also where a row from C to C asks for one, and at A after no ride by a walk of an hour
ends_along :
    (end_from (with_links base (link_row 2 2 false 60 ∷ [])) 2 false ≡ Some (pos 7))
    × (end_from (with_links base (link_row 0 2 false 3600 ∷ [])) 0 true ≡ Some (pos 3607))
    × (end_from base 1 false ≡ None)
unfolding end_arrival link stop_set
ends_along = (refl, refl, refl)

-- ---- sets of stops

-- a platform is in its own set and in that of its station, and a stop of another kind in none
sets_by_row :
    (map (row_sets (record { id = []; kind = 0; parent = Some (record { 0 = 4 }) }) 1) (0 ∷ 1 ∷ 4 ∷ [])
    ≡ [] ∷ (record { 0 = 1 } ∷ []) ∷ (record { 0 = 1 } ∷ []) ∷ [])
    × (map (row_sets (record { id = []; kind = 2; parent = Some (record { 0 = 4 }) }) 1) (1 ∷ 4 ∷ []) ≡ [] ∷ [] ∷ [])
    × (map (row_sets_at base.stops 2) (1 ∷ 2 ∷ []) ≡ [] ∷ (record { 0 = 2 } ∷ []) ∷ [])
    × (row_sets_at base.stops 3 3 ≡ [])
unfolding row_sets_at
sets_by_row = (refl, refl, refl, refl)

-- ---- stands of fares

-- the changes of the run, what is paid and what is held after leg i
abbrev summed : FeedRows → List LegFacts → List LegChoice → List (Option ChangeChoice) → ℕ → Option (ℕ × ℤ × ℤ)
summed feed legs picks places i = summary (stand_at feed no_category legs (paid picks places) i)
  where
    summary : Option FareStand → Option (ℕ × ℤ × ℤ)
    summary None = None
    summary (Some stand) = Some (stand.run.changes, stand.paid, stand.held)

-- T1 and T2, with these rules
abbrev bus_then_rail : List TransferRuleRow → Option ChangeChoice → ℕ → Option (ℕ × ℤ × ℤ)
bus_then_rail rules place i = summed (with_rules rules) (leg_1 ∷ leg_2 ∷ []) (leg 0 0 ∷ leg 1 1 ∷ []) (place ∷ []) i

-- three buses with free changes among them
abbrev three_buses : ℕ → Option (ℕ × ℤ × ℤ)
three_buses i =
    summed (with_rules (among_buses None None ∷ [])) (bus_1 ∷ bus_2 ∷ bus_3 ∷ []) (leg 0 0 ∷ leg 0 0 ∷ leg 0 0 ∷ [])
    (free_change 0 ∷ free_change 0 ∷ []) i

-- a first ticket is held; it is paid with the next leg, or taken back by type 2; a run of three buses has two changes;
-- and fares stand nowhere where a change that is arranged isn't taken
fares_along :
    (bus_then_rail (bus_to_rail 0 ∷ []) (change 0 2) 0 ≡ Some (0, pos 0, pos 250))
    × (bus_then_rail (bus_to_rail 0 ∷ []) (change 0 2) 1 ≡ Some (0, pos 300, pos 0))
    × (bus_then_rail (bus_to_rail 2 ∷ []) (change 0 2) 1 ≡ Some (0, pos 50, pos 0))
    × (bus_then_rail [] None 1 ≡ Some (0, pos 250, pos 400))
    × (bus_then_rail (bus_to_rail 0 ∷ []) None 1 ≡ None)
    × (three_buses 1 ≡ Some (1, pos 250, pos 0))
    × (three_buses 2 ≡ Some (2, pos 250, pos 0))
unfolding first_fare_stand next_fare_stand next_run extends is_arranged is_selected_transfer is_candidate suffices
    is_least_count limit_holds group_matches network_matches area_matches frame_matches rule_matches is_top_priority
    is_selected_rule is_open is_leg_choice is_transfer_choice amount_of
fares_along = (refl, refl, refl, refl, refl, refl, refl)
