-- Entries that are none of a query, each for one reason: so what is asked of an entry asks no less.
use Rattle.std.proofs.Common.{◌≡◌, true, false, [], ◌∷◌, arith}
use Rattle.std.specs.Prelude.{pos, ◌≤ℤ◌}
use Rattle.std.proofs.lemmas.Int.{ints}
use Rattle.std.proofs.lemmas.Option.{same_Some}
use Rattle.feed_rows.specs.declared.journeys.Query.{Query}
use Rattle.feed_rows.specs.declared.fares.Entry.{Entry}
use Rattle.feed_rows.specs.FeedRows.{FeedRows}
use Rattle.feed_rows.specs.ServiceDays.{is_active}
use Rattle.feed_rows.specs.Calls.{call_at, calls_of}
use Rattle.feed_rows.specs.Shifts.{shifts_of}
use Rattle.feed_rows.specs.Rides.{is_ride, ride_facts}
use Rattle.feed_rows.specs.StopLinks.{link, stop_set}
use Rattle.feed_rows.specs.Legs.{stop_areas, holds_at, leg_facts, legs_of}
use Rattle.feed_rows.specs.LegRules.{network_matches, area_matches, frame_matches, rule_matches, is_top_priority, is_selected_rule}
use Rattle.feed_rows.specs.TransferRules.{group_matches, limit_holds, is_candidate, suffices, is_least_count, is_selected_transfer, is_arranged, goes_on, run_start, change_at}
use Rattle.feed_rows.specs.FareChoices.{is_open, is_leg_choice, is_transfer_choice, is_leg_paid, is_change_paid, is_fare_choice}
use Rattle.feed_rows.specs.FareSums.{transfer_kind, starts_chain, is_charged, amount_of, leg_charge, change_charge, fare_sum}
use Rattle.feed_rows.specs.JourneyEntries.{IsEntry, IsExactAnswer}
use Rattle.feed_examples.specs.BaseFeed.{base, query}
use Rattle.feed_examples.proofs.CornerJourneys.{with_links, link_row}
use Rattle.feed_examples.proofs.WorkedEntries.{ride, leg, change, entry, morning, by_two_rides, by_one_ride}

-- it is no entry of the query
abbrev IsNone : FeedRows → Query → Entry → Type 0
IsNone feed query entry = IsEntry feed query entry → ⊥

-- T1 and T2 from A to C, with the one ticket for both
abbrev both : Entry
both = by_two_rides (pos 300) (change 0 2 ∷ [])

-- ---- the journey

-- it starts at B, or ends there
wrong_start : IsNone base morning (entry 1 2 30600 1 (pos 400) (ride 1 0 1 ∷ []) (leg 1 1 ∷ []) [])
unfolding stop_set
wrong_start is = absurd (let no : false ≡ true = is.journey.starts in cc)

wrong_end : IsNone base morning (entry 0 1 29400 1 (pos 250) (ride 0 0 1 ∷ []) (leg 0 0 ∷ []) [])
unfolding stop_set
wrong_end is = absurd (let no : false ≡ true = is.journey.ends in cc)

-- its second ride goes backwards, and is none
no_ride : IsNone base morning
    (entry 0 2 30600 2 (pos 300) (ride 0 0 1 ∷ ride 1 1 0 ∷ []) (leg 0 0 ∷ leg 1 1 ∷ []) (change 0 2 ∷ []))
unfolding is_ride is_active shifts_of
no_ride is = absurd (let no : false ≡ true = is.journey.rides 1 (ride 0 0 0) (omega arith) in cc)

-- it has two rides, where the query permits one
too_many_rides : IsNone base (record morning { rides = 1 }) both
too_many_rides is = let no = is.journey.few in omega (arith, no)

-- its first ride departs a second before the query
missed_start : IsNone base (query 0 2 28801) both
unfolding is_ride ride_facts is_active shifts_of calls_of call_at link stop_set
missed_start is = absurd (let no : false ≡ true = is.journey.begins in cc)

-- its second ride departs a second before one is there
missed_change : IsNone (with_links base (link_row 1 1 false 301 ∷ [])) morning both
unfolding is_ride ride_facts is_active shifts_of calls_of call_at link
missed_change is = absurd (let no : false ≡ true = is.journey.goes_on 0 (omega arith) in cc)

-- it arrives a second later than it says
other_arrival : IsNone base morning
    (entry 0 2 30601 2 (pos 300) both.journey.rides both.choice.legs both.choice.changes)
unfolding is_ride ride_facts is_active shifts_of calls_of call_at link stop_set
other_arrival is =
    let same : pos 1_748_853_000 ≡ pos 1_748_853_001 = same_Some _ _ is.journey.arrives in
    omega (arith, ints, same)

-- it arrives a second after the window
late_arrival : IsNone base (record morning { window = 1799 }) both
late_arrival is =
    let no : pos 1_748_853_000 ≤ℤ pos 1_748_852_999 = is.journey.in_time in
    omega (arith, ints, no)

-- ---- the triple

-- it says that it has three rides, or another price
other_count : IsNone base morning (entry 0 2 30600 3 (pos 300) both.journey.rides both.choice.legs both.choice.changes)
other_count is = let no : 3 ≡ 2 = is.rides in omega (arith, no)

other_price : IsNone base morning (by_two_rides (pos 301) (change 0 2 ∷ []))
unfolding is_ride ride_facts is_active shifts_of calls_of call_at legs_of leg_facts stop_areas holds_at network_matches
    area_matches frame_matches rule_matches is_top_priority is_selected_rule group_matches limit_holds is_candidate
    suffices is_least_count is_selected_transfer is_arranged goes_on run_start change_at is_open is_leg_choice
    is_transfer_choice is_leg_paid is_change_paid is_fare_choice transfer_kind starts_chain is_charged amount_of
    leg_charge change_charge fare_sum
other_price is =
    let same : pos 300 ≡ pos 301 = same_Some _ _ is.price in
    omega (arith, ints, same)

-- ---- the answer

-- an exact answer has no such entry
not_of_the_query : IsExactAnswer base morning (by_two_rides (pos 301) (change 0 2 ∷ []) ∷ []) → ⊥
not_of_the_query exact = other_price (exact.right 0 by_one_ride (omega arith))
