-- Worked examples of printed texts at their edges: money of 0, 2 and 3 decimals, walks before and after the rides, a medium,
-- later changes, and a run after midnight.
use Rattle.std.proofs.Common.{◌≡◌, refl, false, [], ◌∷◌, ◌++◌}
use Rattle.std.specs.Prelude.{Some, None, pos, negsuc, codes}
use Rattle.std.specs.Fmt.{digits}
use Rattle.transit_base.specs.Dates.{date_of, date_from_year, date_in_year}
use Rattle.transit_base.specs.DateTexts.{date_text, time_text}
use Rattle.feed_rows.specs.FeedRows.{FeedRows}
use Rattle.feed_rows.specs.ServiceDays.{is_active}
use Rattle.feed_rows.specs.Calls.{call_at, calls_of}
use Rattle.feed_rows.specs.Shifts.{shifts_of}
use Rattle.feed_rows.specs.Rides.{is_ride, ride_facts}
use Rattle.feed_rows.specs.StopLinks.{link}
use Rattle.feed_rows.specs.FareSums.{transfer_kind, starts_chain, is_charged, amount_of}
use Rattle.feed_rows.specs.MoneyText.{money_text}
use Rattle.feed_rows.specs.EntryText.{journey_line, walk_line, start_text, ride_line, ride_lines, travel_lines, leg_line, change_line, leg_lines, fare_lines, entry_lines, lines_of_entries}
use Rattle.feed_rows.specs.PriceTexts.{price_text}
use Rattle.feed_examples.specs.BaseFeed.{base, ticket}
use Rattle.feed_examples.proofs.WorkedEntries.{ride, leg, change, entry, paid}
use Rattle.feed_examples.proofs.CornerRides.{early_run, late_run}
use Rattle.feed_examples.proofs.CornerJourneys.{link_row, with_links}
use Rattle.feed_examples.proofs.CornerFares.{chain, three_legs}

-- money without decimals, with two and with three; a negative amount below one whole keeps its sign
money : (money_text 0 (pos 0) ≡ codes "0") × (money_text 0 (negsuc 299) ≡ codes "-300") × (money_text 2 (pos 0) ≡ codes "0.00") × (money_text 2 (pos 12345) ≡ codes "123.45") × (money_text 2 (negsuc 29) ≡ codes "-0.30") × (money_text 2 (negsuc 0) ≡ codes "-0.01") × (money_text 3 (pos 1005) ≡ codes "1.005") × (money_text 3 (pos 12340) ≡ codes "12.340") × (money_text 3 (negsuc 49) ≡ codes "-0.050")
unfolding money_text digits
money = (refl, refl, refl, refl, refl, refl, refl, refl, refl)

-- 2025-06-02 and the day after, as text
day_is : date_text (pos 20241) ≡ codes "2025-06-02"
unfolding date_text date_of date_from_year date_in_year
day_is = refl

day_after_is : date_text (pos 20242) ≡ codes "2025-06-03"
unfolding date_text date_of date_from_year date_in_year
day_after_is = refl

-- a walk before the first ride and one after the last have their lines, also where a walk takes no time
walks_at_ends : lines_of_entries (with_links base (link_row 2 0 false 60 ∷ link_row 1 2 false 0 ∷ link_row 0 0 false 9 ∷ [])) (entry 2 2 29400 1 (pos 250) (ride 0 0 1 ∷ []) (leg 0 0 ∷ []) [] ∷ []) ≡
    (codes "journey" ++ 9 ∷ codes "2025-06-02 08:10:00" ++ 9 ∷ codes "1" ++ 9 ∷ codes "2.50" ++ 9 ∷ codes "EUR" ++ 10 ∷ []) ∷
    (codes "walk" ++ 9 ∷ codes "C" ++ 9 ∷ codes "A" ++ 9 ∷ codes "60" ++ 10 ∷ []) ∷
    (codes "ride" ++ 9 ∷ codes "T1" ++ 9 ∷ codes "2025-06-02" ++ 9 ∷ codes "-" ++ 9 ∷ codes "1" ++ 9 ∷ codes "2" ++ 9 ∷ codes "A" ++ 9 ∷ codes "2025-06-02 08:00:00" ++ 9 ∷ codes "B" ++ 9 ∷ codes "2025-06-02 08:10:00" ++ 10 ∷ []) ∷
    (codes "walk" ++ 9 ∷ codes "B" ++ 9 ∷ codes "C" ++ 9 ∷ codes "0" ++ 10 ∷ []) ∷
    (codes "leg" ++ 9 ∷ codes "1" ++ 9 ∷ codes "buy" ++ 9 ∷ codes "1" ++ 9 ∷ codes "1" ++ 9 ∷ codes "single" ++ 9 ∷ [] ++ 9 ∷ codes "2.50" ++ 10 ∷ []) ∷ []
unfolding journey_line walk_line ride_line ride_lines travel_lines leg_line change_line leg_lines fare_lines entry_lines price_text money_text time_text digits is_ride ride_facts is_active shifts_of calls_of call_at link transfer_kind starts_chain is_charged amount_of
walks_at_ends = rw day_is refl

-- the walk to the first ride starts at the journey's first stop, which is not its last
walk_to_first : travel_lines (with_links base (link_row 2 0 false 60 ∷ link_row 1 0 false 5 ∷ [])) (entry 2 1 29400 1 (pos 250) (ride 0 0 1 ∷ []) [] []).journey ≡
    (codes "walk" ++ 9 ∷ codes "C" ++ 9 ∷ codes "A" ++ 9 ∷ codes "60" ++ 10 ∷ []) ∷
    (codes "ride" ++ 9 ∷ codes "T1" ++ 9 ∷ codes "2025-06-02" ++ 9 ∷ codes "-" ++ 9 ∷ codes "1" ++ 9 ∷ codes "2" ++ 9 ∷ codes "A" ++ 9 ∷ codes "2025-06-02 08:00:00" ++ 9 ∷ codes "B" ++ 9 ∷ codes "2025-06-02 08:10:00" ++ 10 ∷ []) ∷ []
unfolding walk_line ride_line ride_lines travel_lines time_text digits is_ride ride_facts is_active shifts_of calls_of call_at link
walk_to_first = rw day_is refl

-- the chain of three rides, with a bonus of 0.30 on a card for the second change, of type 2
abbrev bonus_on_card : FeedRows
bonus_on_card =
    record (chain None (Some 2)) {
      media = record { id = codes "card" } ∷ [];
      products =
          ticket 0 250 ∷ ticket 1 400 ∷ ticket 2 100 ∷ ticket 3 50
          ∷ record { product = record { 0 = 4 }; rider = None; medium = Some (record { 0 = 0 }); amount = record { 0 = negsuc 29 } }
          ∷ [];
    }

-- a change that is not arranged has no line, a later one keeps its number, and the medium stands in its field; the leg
-- before a change of type 2 is included, where it is the first of its chain
bonus_lines : fare_lines bonus_on_card (paid three_legs (None ∷ change 0 4 ∷ [])) ≡
    (codes "leg" ++ 9 ∷ codes "1" ++ 9 ∷ codes "buy" ++ 9 ∷ codes "1" ++ 9 ∷ codes "1" ++ 9 ∷ codes "a" ++ 9 ∷ [] ++ 9 ∷ codes "2.50" ++ 10 ∷ []) ∷
    (codes "leg" ++ 9 ∷ codes "2" ++ 9 ∷ codes "included" ++ 9 ∷ codes "2" ++ 9 ∷ codes "2" ++ 9 ∷ codes "b" ++ 9 ∷ [] ++ 9 ∷ codes "0.00" ++ 10 ∷ []) ∷
    (codes "change" ++ 9 ∷ codes "2" ++ 9 ∷ codes "2" ++ 9 ∷ codes "1" ++ 9 ∷ codes "5" ++ 9 ∷ codes "bc" ++ 9 ∷ codes "card" ++ 9 ∷ codes "-0.30" ++ 10 ∷ []) ∷
    (codes "leg" ++ 9 ∷ codes "3" ++ 9 ∷ codes "included" ++ 9 ∷ codes "3" ++ 9 ∷ codes "3" ++ 9 ∷ codes "c" ++ 9 ∷ [] ++ 9 ∷ codes "0.00" ++ 10 ∷ []) ∷ []
unfolding journey_line walk_line ride_line ride_lines travel_lines leg_line change_line leg_lines fare_lines entry_lines price_text money_text time_text digits is_ride ride_facts is_active shifts_of calls_of call_at link transfer_kind starts_chain is_charged amount_of
bonus_lines = refl

-- the price of no rides is one line
no_rides_text : price_text base 0 (paid [] []) (pos 0) ≡ codes "price" ++ 9 ∷ codes "0" ++ 9 ∷ codes "0.00" ++ 9 ∷ codes "EUR" ++ 10 ∷ []
unfolding journey_line walk_line ride_line ride_lines travel_lines leg_line change_line leg_lines fare_lines entry_lines price_text money_text time_text digits is_ride ride_facts is_active shifts_of calls_of call_at link transfer_kind starts_chain is_charged amount_of
no_rides_text = refl

-- the start of a run may be past 24:00:00, and is that of its first stop wherever one boards; the sequence values are those
-- of the file
late_lines : travel_lines late_run (entry 1 2 93300 1 (pos 250) (record (ride 2 1 2) { shift = pos 60900 } ∷ []) [] []).journey ≡
    (codes "ride" ++ 9 ∷ codes "T3" ++ 9 ∷ codes "2025-06-02" ++ 9 ∷ codes "25:00:00" ++ 9 ∷ codes "5" ++ 9 ∷ codes "9" ++ 9 ∷ codes "B" ++ 9 ∷ codes "2025-06-03 01:15:00" ++ 9 ∷ codes "C" ++ 9 ∷ codes "2025-06-03 01:55:00" ++ 10 ∷ []) ∷ []
unfolding journey_line walk_line ride_line ride_lines travel_lines leg_line change_line leg_lines fare_lines entry_lines price_text money_text time_text digits is_ride ride_facts is_active shifts_of calls_of call_at link transfer_kind starts_chain is_charged amount_of
late_lines = rw (day_is, day_after_is) refl

-- a run that departs before its service day, as no run of a feed does, has no text of its start; one at midnight has
early_starts :
    (start_text early_run (record (ride 2 0 1) { shift = negsuc 29100 }) ≡ [])
    × (start_text early_run (record (ride 2 0 1) { shift = negsuc 29099 }) ≡ codes "00:00:00")
unfolding time_text calls_of call_at
early_starts = (refl, refl)
