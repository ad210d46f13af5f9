-- Worked examples of printed texts over the base feed and its variants.
use Rattle.std.proofs.Common.{◌≡◌, refl, [], ◌∷◌, ◌++◌}
use Rattle.std.specs.Prelude.{Some, None, pos, codes}
use Rattle.std.specs.Fmt.{digits}
use Rattle.transit_base.specs.Dates.{date_of, date_from_year, date_in_year}
use Rattle.transit_base.specs.DateTexts.{date_text, time_text}
use Rattle.feed_rows.specs.ServiceDays.{is_active}
use Rattle.feed_rows.specs.Calls.{call_at, calls_of}
use Rattle.feed_rows.specs.Shifts.{shifts_of}
use Rattle.feed_rows.specs.Rides.{is_ride, ride_facts}
use Rattle.feed_rows.specs.StopLinks.{link}
use Rattle.feed_rows.specs.FareSums.{amount_of, transfer_kind, starts_chain, is_charged}
use Rattle.feed_rows.specs.MoneyText.{money_text}
use Rattle.feed_rows.specs.EntryText.{journey_line, walk_line, ride_line, ride_lines, travel_lines, leg_line, change_line, leg_lines, fare_lines, entry_lines, lines_of_entries, text_of_entries}
use Rattle.feed_rows.specs.PriceTexts.{price_text, uncovered_text}
use Rattle.feed_examples.specs.BaseFeed.{base}
use Rattle.feed_examples.proofs.WorkedEntries.{ride, change, entry, by_two_rides, by_one_ride, from_b2, with_walk, after_midnight, night_ride}

-- 2025-06-02 and the day before, as text
pub day_is : date_text (pos 20241) ≡ codes "2025-06-02"
unfolding date_text date_of date_from_year date_in_year
day_is = refl

day_before_is : date_text (pos 20240) ≡ codes "2025-06-01"
unfolding date_text date_of date_from_year date_in_year
day_before_is = refl

-- the base feed's answer from A to C at 08:00:00
base_lines : lines_of_entries base (by_two_rides (pos 300) (change 0 2 ∷ []) ∷ by_one_ride ∷ []) ≡
    (codes "journey" ++ 9 ∷ codes "2025-06-02 08:30:00" ++ 9 ∷ codes "2" ++ 9 ∷ codes "3.00" ++ 9 ∷ codes "EUR" ++ 10 ∷ []) ∷
    (codes "ride" ++ 9 ∷ codes "T1" ++ 9 ∷ codes "2025-06-02" ++ 9 ∷ codes "-" ++ 9 ∷ codes "1" ++ 9 ∷ codes "2" ++ 9 ∷ codes "A" ++ 9 ∷ codes "2025-06-02 08:00:00" ++ 9 ∷ codes "B" ++ 9 ∷ codes "2025-06-02 08:10:00" ++ 10 ∷ []) ∷
    (codes "ride" ++ 9 ∷ codes "T2" ++ 9 ∷ codes "2025-06-02" ++ 9 ∷ codes "-" ++ 9 ∷ codes "1" ++ 9 ∷ codes "2" ++ 9 ∷ codes "B" ++ 9 ∷ codes "2025-06-02 08:15:00" ++ 9 ∷ codes "C" ++ 9 ∷ codes "2025-06-02 08:30:00" ++ 10 ∷ []) ∷
    (codes "leg" ++ 9 ∷ codes "1" ++ 9 ∷ codes "buy" ++ 9 ∷ codes "1" ++ 9 ∷ codes "1" ++ 9 ∷ codes "single" ++ 9 ∷ [] ++ 9 ∷ codes "2.50" ++ 10 ∷ []) ∷
    (codes "change" ++ 9 ∷ codes "1" ++ 9 ∷ codes "0" ++ 9 ∷ codes "1" ++ 9 ∷ codes "3" ++ 9 ∷ codes "change" ++ 9 ∷ [] ++ 9 ∷ codes "0.50" ++ 10 ∷ []) ∷
    (codes "leg" ++ 9 ∷ codes "2" ++ 9 ∷ codes "included" ++ 9 ∷ codes "2" ++ 9 ∷ codes "2" ++ 9 ∷ codes "rail" ++ 9 ∷ [] ++ 9 ∷ codes "0.00" ++ 10 ∷ []) ∷
    (codes "journey" ++ 9 ∷ codes "2025-06-02 09:00:00" ++ 9 ∷ codes "1" ++ 9 ∷ codes "2.50" ++ 9 ∷ codes "EUR" ++ 10 ∷ []) ∷
    (codes "ride" ++ 9 ∷ codes "T3" ++ 9 ∷ codes "2025-06-02" ++ 9 ∷ codes "-" ++ 9 ∷ codes "1" ++ 9 ∷ codes "2" ++ 9 ∷ codes "A" ++ 9 ∷ codes "2025-06-02 08:05:00" ++ 9 ∷ codes "C" ++ 9 ∷ codes "2025-06-02 09:00:00" ++ 10 ∷ []) ∷
    (codes "leg" ++ 9 ∷ codes "1" ++ 9 ∷ codes "buy" ++ 9 ∷ codes "1" ++ 9 ∷ codes "1" ++ 9 ∷ codes "single" ++ 9 ∷ [] ++ 9 ∷ codes "2.50" ++ 10 ∷ []) ∷ []
unfolding journey_line walk_line ride_line ride_lines travel_lines leg_line change_line leg_lines fare_lines entry_lines price_text money_text time_text digits is_ride ride_facts is_active shifts_of calls_of call_at link transfer_kind starts_chain is_charged amount_of
base_lines = rw day_is refl

-- the text is the lines, one after another
base_text : text_of_entries base (by_one_ride ∷ []) ≡
    (codes "journey" ++ 9 ∷ codes "2025-06-02 09:00:00" ++ 9 ∷ codes "1" ++ 9 ∷ codes "2.50" ++ 9 ∷ codes "EUR" ++ 10 ∷ []) ++ (codes "ride" ++ 9 ∷ codes "T3" ++ 9 ∷ codes "2025-06-02" ++ 9 ∷ codes "-" ++ 9 ∷ codes "1" ++ 9 ∷ codes "2" ++ 9 ∷ codes "A" ++ 9 ∷ codes "2025-06-02 08:05:00" ++ 9 ∷ codes "C" ++ 9 ∷ codes "2025-06-02 09:00:00" ++ 10 ∷ []) ++ (codes "leg" ++ 9 ∷ codes "1" ++ 9 ∷ codes "buy" ++ 9 ∷ codes "1" ++ 9 ∷ codes "1" ++ 9 ∷ codes "single" ++ 9 ∷ [] ++ 9 ∷ codes "2.50" ++ 10 ∷ [])
unfolding journey_line walk_line ride_line ride_lines travel_lines leg_line change_line leg_lines fare_lines entry_lines price_text money_text time_text digits is_ride ride_facts is_active shifts_of calls_of call_at link transfer_kind starts_chain is_charged amount_of
base_text = rw day_is refl

-- no entry prints nothing
no_text : text_of_entries base [] ≡ []
no_text = refl

-- a journey without rides stays or walks
stay_lines : lines_of_entries base (entry 0 0 28800 0 (pos 0) [] [] [] ∷ []) ≡
    (codes "journey" ++ 9 ∷ codes "2025-06-02 08:00:00" ++ 9 ∷ codes "0" ++ 9 ∷ codes "0.00" ++ 9 ∷ codes "EUR" ++ 10 ∷ []) ∷
    (codes "stay" ++ 9 ∷ codes "A" ++ 10 ∷ []) ∷ []
unfolding journey_line walk_line ride_line ride_lines travel_lines leg_line change_line leg_lines fare_lines entry_lines price_text money_text time_text digits is_ride ride_facts is_active shifts_of calls_of call_at link transfer_kind starts_chain is_charged amount_of
stay_lines = rw day_is refl

walked_lines : lines_of_entries with_walk (entry 0 2 32400 0 (pos 0) [] [] [] ∷ []) ≡
    (codes "journey" ++ 9 ∷ codes "2025-06-02 09:00:00" ++ 9 ∷ codes "0" ++ 9 ∷ codes "0.00" ++ 9 ∷ codes "EUR" ++ 10 ∷ []) ∷
    (codes "walk" ++ 9 ∷ codes "A" ++ 9 ∷ codes "C" ++ 9 ∷ codes "3600" ++ 10 ∷ []) ∷ []
unfolding journey_line walk_line ride_line ride_lines travel_lines leg_line change_line leg_lines fare_lines entry_lines price_text money_text time_text digits is_ride ride_facts is_active shifts_of calls_of call_at link transfer_kind starts_chain is_charged amount_of
walked_lines = rw day_is refl

-- a walk between two rides has its line in its place
change_of_platform : travel_lines (from_b2 29580) (by_two_rides (pos 300) []).journey ≡
    (codes "ride" ++ 9 ∷ codes "T1" ++ 9 ∷ codes "2025-06-02" ++ 9 ∷ codes "-" ++ 9 ∷ codes "1" ++ 9 ∷ codes "2" ++ 9 ∷ codes "A" ++ 9 ∷ codes "2025-06-02 08:00:00" ++ 9 ∷ codes "B" ++ 9 ∷ codes "2025-06-02 08:10:00" ++ 10 ∷ []) ∷
    (codes "walk" ++ 9 ∷ codes "B" ++ 9 ∷ codes "B2" ++ 9 ∷ codes "180" ++ 10 ∷ []) ∷
    (codes "ride" ++ 9 ∷ codes "T2" ++ 9 ∷ codes "2025-06-02" ++ 9 ∷ codes "-" ++ 9 ∷ codes "1" ++ 9 ∷ codes "2" ++ 9 ∷ codes "B2" ++ 9 ∷ codes "2025-06-02 08:13:00" ++ 9 ∷ codes "C" ++ 9 ∷ codes "2025-06-02 08:30:00" ++ 10 ∷ []) ∷ []
unfolding journey_line walk_line ride_line ride_lines travel_lines leg_line change_line leg_lines fare_lines entry_lines price_text money_text time_text digits is_ride ride_facts is_active shifts_of calls_of call_at link transfer_kind starts_chain is_charged amount_of
change_of_platform = rw day_is refl

-- the service day of a ride after midnight is the day before its moments
midnight_lines : travel_lines after_midnight (entry 0 2 6000 1 (pos 100) (night_ride ∷ []) [] []).journey ≡
    (codes "ride" ++ 9 ∷ codes "N" ++ 9 ∷ codes "2025-06-01" ++ 9 ∷ codes "-" ++ 9 ∷ codes "1" ++ 9 ∷ codes "2" ++ 9 ∷ codes "A" ++ 9 ∷ codes "2025-06-02 01:10:00" ++ 9 ∷ codes "C" ++ 9 ∷ codes "2025-06-02 01:40:00" ++ 10 ∷ []) ∷ []
unfolding journey_line walk_line ride_line ride_lines travel_lines leg_line change_line leg_lines fare_lines entry_lines price_text money_text time_text digits is_ride ride_facts is_active shifts_of calls_of call_at link transfer_kind starts_chain is_charged amount_of
midnight_lines = rw (day_is, day_before_is) refl

-- a run of a frequency row prints its first departure
start_lines : travel_lines (record base { frequencies = record { trip = record { 0 = 2 }; start = 30000; end = 30001; headway = 1800 } ∷ [] }) (entry 0 2 33300 1 (pos 250) (record (ride 2 0 1) { shift = pos 900 } ∷ []) [] []).journey ≡
    (codes "ride" ++ 9 ∷ codes "T3" ++ 9 ∷ codes "2025-06-02" ++ 9 ∷ codes "08:20:00" ++ 9 ∷ codes "1" ++ 9 ∷ codes "2" ++ 9 ∷ codes "A" ++ 9 ∷ codes "2025-06-02 08:20:00" ++ 9 ∷ codes "C" ++ 9 ∷ codes "2025-06-02 09:15:00" ++ 10 ∷ []) ∷ []
unfolding journey_line walk_line ride_line ride_lines travel_lines leg_line change_line leg_lines fare_lines entry_lines price_text money_text time_text digits is_ride ride_facts is_active shifts_of calls_of call_at link transfer_kind starts_chain is_charged amount_of
start_lines = rw day_is refl

-- the price of two rides, and of rides that no choice pays
price_lines : price_text base 2 (by_two_rides (pos 300) (change 0 2 ∷ [])).choice (pos 300) ≡
    (codes "price" ++ 9 ∷ codes "2" ++ 9 ∷ codes "3.00" ++ 9 ∷ codes "EUR" ++ 10 ∷ []) ++ (codes "leg" ++ 9 ∷ codes "1" ++ 9 ∷ codes "buy" ++ 9 ∷ codes "1" ++ 9 ∷ codes "1" ++ 9 ∷ codes "single" ++ 9 ∷ [] ++ 9 ∷ codes "2.50" ++ 10 ∷ []) ++ (codes "change" ++ 9 ∷ codes "1" ++ 9 ∷ codes "0" ++ 9 ∷ codes "1" ++ 9 ∷ codes "3" ++ 9 ∷ codes "change" ++ 9 ∷ [] ++ 9 ∷ codes "0.50" ++ 10 ∷ []) ++ (codes "leg" ++ 9 ∷ codes "2" ++ 9 ∷ codes "included" ++ 9 ∷ codes "2" ++ 9 ∷ codes "2" ++ 9 ∷ codes "rail" ++ 9 ∷ [] ++ 9 ∷ codes "0.00" ++ 10 ∷ [])
unfolding journey_line walk_line ride_line ride_lines travel_lines leg_line change_line leg_lines fare_lines entry_lines price_text money_text time_text digits is_ride ride_facts is_active shifts_of calls_of call_at link transfer_kind starts_chain is_charged amount_of
price_lines = refl

uncovered_lines : uncovered_text ≡ codes "uncovered" ++ 10 ∷ []
uncovered_lines = refl

-- a change without a product, and a feed without a product row: no currency, and two decimals
free_change_line : change_line base 0 (record { rule = record { 0 = 0 }; product = None }) ≡ Some (codes "change" ++ 9 ∷ codes "1" ++ 9 ∷ codes "0" ++ 9 ∷ codes "1" ++ 9 ∷ codes "-" ++ 9 ∷ [] ++ 9 ∷ [] ++ 9 ∷ codes "0.00" ++ 10 ∷ [])
unfolding journey_line walk_line ride_line ride_lines travel_lines leg_line change_line leg_lines fare_lines entry_lines price_text money_text time_text digits is_ride ride_facts is_active shifts_of calls_of call_at link transfer_kind starts_chain is_charged amount_of
free_change_line = refl

no_currency : lines_of_entries (record base { products = []; currency = None }) (entry 0 0 28800 0 (pos 0) [] [] [] ∷ []) ≡
    (codes "journey" ++ 9 ∷ codes "2025-06-02 08:00:00" ++ 9 ∷ codes "0" ++ 9 ∷ codes "0.00" ++ 9 ∷ [] ++ 10 ∷ []) ∷
    (codes "stay" ++ 9 ∷ codes "A" ++ 10 ∷ []) ∷ []
unfolding journey_line walk_line ride_line ride_lines travel_lines leg_line change_line leg_lines fare_lines entry_lines price_text money_text time_text digits is_ride ride_facts is_active shifts_of calls_of call_at link transfer_kind starts_chain is_charged amount_of
no_currency = rw day_is refl
