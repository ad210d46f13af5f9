-- Worked examples of answers at their edges: the order of triples, what an exact answer can't be, and prices of what is no
-- way to travel.
use Rattle.std.proofs.Common.{◌≡◌, refl, ap, ℕ, true, false, List, [], ◌∷◌, arith}
use Rattle.std.specs.Prelude.{Some, None, ℤ, pos, negsuc}
use Rattle.std.proofs.lemmas.Bool.{both_ways}
use Rattle.feed_rows.specs.declared.fares.Entry.{Entry}
use Rattle.feed_rows.specs.declared.fares.Triple.{Triple}
use Rattle.feed_rows.specs.ServiceDays.{is_active}
use Rattle.feed_rows.specs.Calls.{call_at, calls_of}
use Rattle.feed_rows.specs.Shifts.{shifts_of}
use Rattle.feed_rows.specs.Rides.{is_ride, ride_facts}
use Rattle.feed_rows.specs.StopLinks.{link, stop_set}
use Rattle.feed_rows.specs.Legs.{stop_areas, holds_at, leg_facts, legs_of}
use Rattle.feed_rows.specs.LegRules.{network_matches, area_matches, frame_matches, rule_matches, is_top_priority, is_selected_rule}
use Rattle.feed_rows.specs.TransferRules.{group_matches, limit_holds, is_candidate, suffices, is_least_count, is_selected_transfer, is_arranged, goes_on, run_start, change_at}
use Rattle.feed_rows.specs.FareChoices.{is_open, is_leg_choice, is_transfer_choice, is_leg_paid, is_change_paid, is_fare_choice}
use Rattle.feed_rows.specs.FareSums.{transfer_kind, starts_chain, is_charged, amount_of, leg_charge, change_charge, fare_sum}
use Rattle.feed_rows.specs.ParetoTriples.{at_most, is_before}
use Rattle.feed_rows.specs.JourneyEntries.{IsEntry, IsMinimal, IsExactAnswer, rides_price}
use Rattle.feed_rows.specs.PriceTexts.{IsPriceText, IsUncovered}
use Rattle.feed_examples.proofs.EntryChecks.{entry_test}
use Rattle.feed_laws.proofs.ParetoLaws.{is_before-irrefl}
use Rattle.feed_examples.specs.BaseFeed.{base, no_category}
use Rattle.feed_examples.proofs.WorkedEntries.{ride, leg, change, entry, by_two_rides, by_one_ride, morning, paid, no_rides, with_walk}

-- ---- triples

abbrev triple_of : ℤ → ℕ → ℤ → Triple
triple_of arrival rides price = record { arrival = record { 0 = arrival }; rides = rides; price = record { 0 = price } }

-- the arrival decides before the rides, and the rides before the price; no triple is before itself
order_of_triples : (is_before (triple_of (pos 5) 9 (pos 9)) (triple_of (pos 6) 0 (pos 0)) ≡ true) × (is_before (triple_of (pos 5) 1 (pos 9)) (triple_of (pos 5) 2 (pos 0)) ≡ true) × (is_before (triple_of (pos 5) 2 (negsuc 0)) (triple_of (pos 5) 2 (pos 0)) ≡ true) × (is_before (triple_of (pos 5) 2 (pos 0)) (triple_of (pos 5) 2 (pos 0)) ≡ false) × (is_before (triple_of (pos 6) 0 (pos 0)) (triple_of (pos 5) 9 (pos 9)) ≡ false)
order_of_triples = (refl, refl, refl, refl, refl)

-- one triple is at most another where each part is: a lower, also negative price doesn't make up for more rides
parts_of_triples : (at_most (triple_of (pos 5) 2 (negsuc 5)) (triple_of (pos 5) 2 (negsuc 4)) ≡ true) × (at_most (triple_of (pos 5) 2 (pos 0)) (triple_of (pos 5) 2 (negsuc 4)) ≡ false) × (at_most (triple_of (pos 5) 3 (pos 0)) (triple_of (pos 9) 2 (pos 4)) ≡ false)
parts_of_triples = (refl, refl, refl)

-- ---- exact answers

-- an exact answer has no entry twice
not_twice : (e : Entry) → IsExactAnswer base morning (e ∷ e ∷ []) → ⊥
not_twice e exact = both_ways _ (is_before-irrefl e.triple) (exact.in_order 0 1 e (omega arith) (omega arith))

-- nor two entries in the wrong order
not_reversed : IsExactAnswer base morning (by_one_ride ∷ by_two_rides (pos 300) (change 0 2 ∷ []) ∷ []) → ⊥
not_reversed exact = let wrong : false ≡ true = exact.in_order 0 1 by_one_ride (omega arith) (omega arith) in absurd (cc)

-- nor is it empty where a triple is minimal
not_empty : (t : Triple) → IsMinimal base morning t → IsExactAnswer base morning [] → ⊥
not_empty t minimal exact = let has = exact.complete t minimal in let lt = has.1 in omega (arith, lt)

-- nor has it a triple that another is at most: a walk of an hour costs nothing and arrives with T3
not_dominated : IsExactAnswer with_walk morning (by_one_ride ∷ []) → ⊥
not_dominated exact =
    let passed = entry 0 2 32400 0 (pos 0) [] [] [] in
    let is : IsEntry with_walk morning passed = no_rides.1 in
    let same : passed.triple ≡ by_one_ride.triple = (exact.minimal 0 by_one_ride (omega arith)).least passed.triple (passed, is, refl) refl in
    let rides : 0 ≡ 1 = ap (λ t. t.rides) same in
    omega (arith, rides)

-- ---- what is no way to travel

-- no choice pays a ride of a trip that is not there
absent_ride_uncovered : IsUncovered base (ride 9 0 1 ∷ []) no_category
unfolding is_ride ride_facts legs_of
absent_ride_uncovered choice = refl

-- but it has no price text, not even that it is uncovered
absent_ride_text : (text : List ℕ) → IsPriceText base (ride 9 0 1 ∷ []) no_category text → ⊥
unfolding is_ride
absent_ride_text text priced = let wrong : false ≡ true = priced.0.are_rides 0 (ride 9 0 1) (omega arith) in absurd (cc)

-- two rides that don't join cost their tickets
unjoined_price : rides_price base (ride 1 0 1 ∷ ride 0 0 1 ∷ []) (paid (leg 1 1 ∷ leg 0 0 ∷ []) (None ∷ [])) no_category ≡ Some (pos 650)
unfolding entry_test is_ride ride_facts is_active shifts_of calls_of call_at link stop_set legs_of leg_facts stop_areas holds_at network_matches area_matches frame_matches rule_matches is_top_priority is_selected_rule group_matches limit_holds is_candidate suffices is_least_count is_selected_transfer is_arranged goes_on run_start change_at is_open is_leg_choice is_transfer_choice is_leg_paid is_change_paid is_fare_choice transfer_kind starts_chain is_charged amount_of leg_charge change_charge fare_sum
unjoined_price = refl

-- but have no price text: T1 leaves before T2 arrives
unjoined_text : (text : List ℕ) → IsPriceText base (ride 1 0 1 ∷ ride 0 0 1 ∷ []) no_category text → ⊥
unfolding is_ride ride_facts is_active shifts_of calls_of call_at link
unjoined_text text priced = let wrong : false ≡ true = priced.0.goes_on 0 (omega arith) in absurd (cc)
