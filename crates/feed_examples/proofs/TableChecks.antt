-- Tables of labels that are sound or closed, and tables that aren't, each for one reason.
use Rattle.std.proofs.Common.{◌≡◌, ◌≢◌, refl, sym, ◌∙◌, ap, subst, ℕ, zero, suc, ◌<◌, ◌≤◌, Bool, true, false, ◌||◌, ◌==◌, ◌⊎◌, inl, inr, List, [], ◌∷◌, length, arith}
use Rattle.std.specs.Prelude.{Option, Some, None, ℤ, pos, slice_get, slice_index_or, Contains, Any, IsTrue}
use Rattle.std.proofs.lemmas.Int.{ints}
use Rattle.std.proofs.lemmas.Bool.{eqb-true}
use Rattle.feed_rows.specs.declared.journeys.Ride.{Ride}
use Rattle.feed_rows.specs.Journeys.{stands_for}
use Rattle.std.proofs.lemmas.Option.{same_Some, none-some}
use Rattle.transit_base.specs.declared.numbers.StopId.{StopId}
use Rattle.feed_rows.specs.ServiceDays.{is_active}
use Rattle.feed_rows.specs.Calls.{call_at, calls_of}
use Rattle.feed_rows.specs.Shifts.{shifts_of}
use Rattle.feed_rows.specs.Rides.{is_ride, ride_facts}
use Rattle.feed_rows.specs.StopLinks.{link, stop_set}
use Rattle.feed_rows.specs.Legs.{stop_areas, holds_at, leg_facts, legs_of}
use Rattle.feed_rows.specs.LegRules.{network_matches, area_matches, frame_matches, rule_matches, is_top_priority, is_selected_rule}
use Rattle.feed_rows.specs.TransferRules.{group_matches, limit_holds, is_candidate, suffices, is_least_count, is_selected_transfer, is_arranged, goes_on, run_start, change_at}
use Rattle.feed_rows.specs.FareChoices.{is_open, is_leg_choice, is_transfer_choice, is_leg_paid, is_change_paid, is_fare_choice}
use Rattle.feed_rows.specs.FareSums.{transfer_kind, starts_chain, is_charged, amount_of, leg_charge, change_charge, fare_sum}
use Rattle.feed_rows.specs.FareStates.{held_amount, paid_amount, greatest_count, is_clock_read, fare_state}
use Rattle.feed_rows.specs.FareFloor.{fare_floor, is_outdone}
use Rattle.feed_rows.specs.PartialJourneys.{PartialJourney, IsPartialJourney, LabelFacts, label_facts}
use Rattle.feed_rows.specs.LabelCover.{Covers}
use Rattle.feed_rows.specs.ParetoTriples.{at_most}
use Rattle.feed_rows.specs.RoundTables.{Label, Final, RoundTable}
use Rattle.feed_rows.specs.SoundTable.{IsReal, AreReal, IsBag, IsWithoutExcess, IsCovered, IsBettered, CoversJourneys, IsPruned}
use Rattle.feed_rows.specs.ClosedTable.{IsOutdone, IsClosed, HasStarts, HasEarlierParents, HasBareStarts}
use Rattle.feed_examples.specs.BaseFeed.{base, query}
use Rattle.feed_examples.proofs.WorkedEntries.{ride, morning}
use Rattle.feed_examples.proofs.WorkedStates.{state, one_choice, bus_ticket, by_change}
use Rattle.feed_examples.proofs.WorkedLabels.{part_0, part_1, part_2, part, partial_test, partial-by-test, facts_0, facts_1, facts_2, facts_3, facts, triple, label, start_label, four_labels, final, table, no_bag, base_finals, base_table, completion_checks}

-- equal numbers
abbrev Same : ℕ → ℕ → Type 0
Same m n = m ≡ n

-- ---- the labels of the base table are real

real_labels : AreReal base morning base_table
unfolding partial_test label_facts held_amount paid_amount fare_state greatest_count is_clock_read link stop_set is_ride ride_facts is_active shifts_of calls_of call_at legs_of leg_facts stop_areas holds_at network_matches area_matches frame_matches rule_matches is_top_priority is_selected_rule group_matches limit_holds is_candidate suffices is_least_count is_selected_transfer is_arranged goes_on run_start change_at is_open is_leg_choice is_transfer_choice is_leg_paid is_change_paid is_fare_choice transfer_kind starts_chain is_charged amount_of leg_charge change_charge fare_sum
real_labels zero l is =
    subst (IsReal base morning base_table 0) (same_Some (start_label facts_0) l is)
    (record { part = part_0; is_traced = refl; is_partial = partial-by-test _ _ _ refl; has_facts = refl })
real_labels (suc zero) l is =
    subst (IsReal base morning base_table 1) (same_Some (label facts_1 0 0 bus_ticket) l is)
    (record { part = part_1; is_traced = refl; is_partial = partial-by-test _ _ _ refl; has_facts = refl })
real_labels (suc (suc zero)) l is =
    subst (IsReal base morning base_table 2) (same_Some (label facts_3 0 2 bus_ticket) l is)
    (record { part = part 0 (ride 2 0 1 ∷ []) one_choice; is_traced = refl; is_partial = partial-by-test _ _ _ refl; has_facts = refl })
real_labels (suc (suc (suc zero))) l is =
    subst (IsReal base morning base_table 3) (same_Some (label facts_2 1 1 by_change) l is)
    (record { part = part_2; is_traced = refl; is_partial = partial-by-test _ _ _ refl; has_facts = refl })
real_labels (suc (suc (suc (suc n)))) l is = absurd (none-some l is)

-- a label that says less of its price than is paid, one whose parents don't lead back, and one of a ride that is missed
record UnrealLabels : Type 0 where
  pub cheaper : IsReal base morning (table (start_label facts_0 ∷ label (facts 1 29400 1 (pos 0) (pos 249) (Some (state (Some 0) 0 None None true))) 0 0 bus_ticket ∷ []) no_bag [])
      1 (label (facts 1 29400 1 (pos 0) (pos 249) (Some (state (Some 0) 0 None None true))) 0 0 bus_ticket) → ⊥
  pub no_parent : IsReal base morning (table (label facts_1 1 0 bus_ticket ∷ []) no_bag []) 0 (label facts_1 1 0 bus_ticket) → ⊥
  pub missed : IsReal base (query 0 2 28801) base_table 1 (label facts_1 0 0 bus_ticket) → ⊥

-- the amount that is held
abbrev held_by : Option LabelFacts → ℤ
held_by None = pos 7
held_by (Some f) = f.held

unreal_labels : UnrealLabels
unfolding label_facts held_amount paid_amount fare_state greatest_count is_clock_read link stop_set is_ride ride_facts is_active shifts_of calls_of call_at legs_of leg_facts stop_areas holds_at group_matches limit_holds is_candidate suffices is_least_count is_selected_transfer is_arranged goes_on run_start change_at transfer_kind starts_chain is_charged amount_of leg_charge change_charge fare_sum
unreal_labels = record {
  cheaper = λ r.
      let same : part_1 ≡ r.part = same_Some part_1 r.part r.is_traced in
      let no : pos 250 ≡ pos 249 = ap (λ (p : PartialJourney). held_by (label_facts base morning p)) same ∙ ap held_by r.has_facts in
      absurd (omega (arith, ints, no));
  no_parent = λ r. absurd (none-some r.part r.is_traced);
  missed = λ r.
      let same : part_1 ≡ r.part = same_Some part_1 r.part r.is_traced in
      let late : IsPartialJourney base (query 0 2 28801) part_1 =
      subst (IsPartialJourney base (query 0 2 28801)) (sym same) r.is_partial in
      let no : false ≡ true = late.begins in
      absurd (cc);
}

-- ---- bags

-- the base table, with a bag of these labels for each number of rides and each stop
abbrev with_bag : List ℕ → RoundTable
with_bag numbers = table four_labels (λ rides stop. numbers) base_finals

-- the bag of one ride at C
abbrev IsBagAtC : List ℕ → Type 0
IsBagAtC numbers = IsBag (with_bag numbers) 1 (record { 0 = 2 })

-- the number of a label's rides
abbrev rides_of : Label → ℕ
rides_of l = l.facts.rides

abbrev stop_of : Label → ℕ
stop_of l = l.facts.stop.0

record BagChecks : Type 0 where
  pub right : IsBagAtC (2 ∷ [])
  -- a label is lacking, stands twice, has another number of rides, is at another stop, or isn't there
  pub lacking : IsBagAtC [] → ⊥
  pub twice : IsBagAtC (2 ∷ 2 ∷ []) → ⊥
  pub other_rides : IsBagAtC (2 ∷ 3 ∷ []) → ⊥
  pub other_stop : IsBagAtC (2 ∷ 1 ∷ []) → ⊥
  pub no_label : IsBagAtC (2 ∷ 4 ∷ []) → ⊥

-- only label 2 has one ride and is at C
at_c : (number : ℕ) (l : Label) → slice_get four_labels number ≡ Some l → l.facts.rides ≡ 1 → l.facts.stop ≡ record { 0 = 2 }
    → Contains (2 ∷ []) number
at_c zero l is rides stop = let no : Same 0 1 = ap rides_of (same_Some (start_label facts_0) l is) ∙ rides in absurd (omega arith)
at_c (suc zero) l is rides stop = let no : Same 1 2 = ap stop_of (same_Some (label facts_1 0 0 bus_ticket) l is) ∙ ap (λ (s : StopId). s.0) stop in absurd (omega arith)
at_c (suc (suc zero)) l is rides stop = (0, omega arith, refl)
at_c (suc (suc (suc zero))) l is rides stop = let no : Same 2 1 = ap rides_of (same_Some (label facts_2 1 1 by_change) l is) ∙ rides in absurd (omega arith)
at_c (suc (suc (suc (suc n)))) l is rides stop = absurd (none-some l is)

-- what a bag of one number holds is that
only : (m n : ℕ) → Contains (m ∷ []) n → m ≡ n
only m n (zero, lt, is) = is
only m n (suc k, lt, is) = absurd (omega (arith, lt))

bag_checks : BagChecks
bag_checks = record {
  right = record {
    right = λ number is_in. subst (λ (n : ℕ). (l : Label) × (slice_get four_labels n ≡ Some l) × (l.facts.rides ≡ 1) × (l.facts.stop ≡ record { 0 = 2 }))
        (only 2 number is_in) (label facts_3 0 2 bus_ticket, refl, refl, refl);
    all = at_c;
    once = λ i j d lt lt'. absurd (omega (arith, lt, lt'));
  };
  lacking = λ b. let c = b.all 2 (label facts_3 0 2 bus_ticket) refl refl refl in let lt = c.1 in absurd (omega (arith, lt));
  twice = λ b. b.once 0 1 0 (omega arith) (omega arith) refl;
  other_rides = λ b.
      let c = b.right 3 (1, omega arith, refl) in
      let no : Same 2 1 = ap rides_of (same_Some (label facts_2 1 1 by_change) c.0 c.1) ∙ c.2 in
      absurd (omega arith);
  other_stop = λ b.
      let c = b.right 1 (1, omega arith, refl) in
      let no : Same 1 2 = ap stop_of (same_Some (label facts_1 0 0 bus_ticket) c.0 c.1) ∙ ap (λ (s : StopId). s.0) c.3 in
      absurd (omega arith);
  no_label = λ b. let c = b.right 4 (1, omega arith, refl) in absurd (none-some c.0 c.1);
}

-- ---- excess

-- two labels of a table
abbrev pair : LabelFacts → LabelFacts → RoundTable
pair a b = table (start_label a ∷ start_label b ∷ []) no_bag []

record ExcessChecks : Type 0 where
  pub apart : IsWithoutExcess (pair facts_1 (facts 1 29399 1 (pos 0) (pos 251) (Some (state (Some 0) 0 None None true))))
  pub alone : IsWithoutExcess (table (start_label facts_0 ∷ []) no_bag [])
  -- the same twice, and a better one before or after
  pub twice : IsWithoutExcess (pair facts_1 facts_1) → ⊥
  pub before : IsWithoutExcess (pair (facts 1 29399 1 (pos 0) (pos 250) (Some (state (Some 0) 0 None None true))) facts_1) → ⊥
  pub after : IsWithoutExcess (pair facts_1 (facts 1 29399 1 (pos 0) (pos 250) (Some (state (Some 0) 0 None None true)))) → ⊥

-- neither of two facts covers the other
apart_pair : (a b : LabelFacts) → (Covers a b → ⊥) → (Covers b a → ⊥) → IsWithoutExcess (pair a b)
apart_pair a b ab ba zero zero x y is is' differ c = differ refl
apart_pair a b ab ba zero (suc zero) x y is is' differ c =
    ab (subst (λ (l : Label). Covers a l.facts) (sym (same_Some (start_label b) y is'))
    (subst (λ (l : Label). Covers l.facts y.facts) (sym (same_Some (start_label a) x is)) c))
apart_pair a b ab ba zero (suc (suc n)) x y is is' differ c = absurd (none-some y is')
apart_pair a b ab ba (suc zero) zero x y is is' differ c =
    ba (subst (λ (l : Label). Covers b l.facts) (sym (same_Some (start_label a) y is'))
    (subst (λ (l : Label). Covers l.facts y.facts) (sym (same_Some (start_label b) x is)) c))
apart_pair a b ab ba (suc zero) (suc zero) x y is is' differ c = differ refl
apart_pair a b ab ba (suc zero) (suc (suc n)) x y is is' differ c = absurd (none-some y is')
apart_pair a b ab ba (suc (suc m)) n x y is is' differ c = absurd (none-some x is)

single : (m n : ℕ) (x y : Label) → slice_get (start_label facts_0 ∷ []) m ≡ Some x → slice_get (start_label facts_0 ∷ []) n ≡ Some y → m ≢ n → ⊥
single zero zero x y is is' differ = differ refl
single zero (suc n) x y is is' differ = none-some y is'
single (suc m) n x y is is' differ = none-some x is

-- facts at B with the first bus' state, one second earlier
abbrev earlier : ℤ → LabelFacts
earlier held = facts 1 29399 1 (pos 0) held (Some (state (Some 0) 0 None None true))

covers_itself : Covers facts_1 facts_1
covers_itself = record { stop = refl; arrival = omega (arith, ints); rides = omega arith; spent = record { paid = omega (arith, ints); price = omega (arith, ints) }; state = refl }

covers_later : Covers (earlier (pos 250)) facts_1
covers_later = record { stop = refl; arrival = omega (arith, ints); rides = omega arith; spent = record { paid = omega (arith, ints); price = omega (arith, ints) }; state = refl }

one_is_two : Same 0 1 → ⊥
one_is_two e = absurd (omega (arith, e))

two_is_one : Same 1 0 → ⊥
two_is_one e = absurd (omega (arith, e))

excess_checks : ExcessChecks
excess_checks = record {
  apart = apart_pair facts_1 (earlier (pos 251)) (λ c. let no = c.arrival in absurd (omega (arith, ints, no))) (λ c. let no = c.spent.price in absurd (omega (arith, ints, no)));
  alone = λ m n a b is is' differ c. single m n a b is is' differ;
  twice = λ w. w 0 1 (start_label facts_1) (start_label facts_1) refl refl one_is_two covers_itself;
  before = λ w. w 0 1 (start_label (earlier (pos 250))) (start_label facts_1) refl refl one_is_two covers_later;
  after = λ w. w 1 0 (start_label (earlier (pos 250))) (start_label facts_1) refl refl two_is_one covers_later;
}

-- ---- cover of journeys, and what is found

-- nothing is in an empty list
in_none : (X : Type 0) (k : ℕ) → k < length {A = X} [] → ⊥
in_none X k lt = absurd (omega (arith, lt))

record CoverOfJourneys : Type 0 where
  -- the start alone covers the journey without rides, and not that by T1, if nothing is found
  pub start : IsCovered (table (start_label facts_0 ∷ []) no_bag []) facts_0
  pub lacking : CoversJourneys base morning (table (start_label facts_0 ∷ []) no_bag []) → ⊥
  -- what is found at more than 3.00, or later, isn't as good as what T1 with T2 leads to
  pub dearer : IsBettered base morning (table [] no_bag (final (triple 30600 2 (pos 301)) 0 2 ∷ [])) part_0 → ⊥
  pub later : IsBettered base morning (table [] no_bag (final (triple 30601 2 (pos 300)) 0 2 ∷ [])) part_0 → ⊥
  pub no_final : IsBettered base morning (table [] no_bag []) part_0 → ⊥

only_start : (k : ℕ) (l : Label) → k < 1 → slice_index_or (start_label facts_0 ∷ []) k l ≡ l → start_label facts_0 ≡ l
only_start zero l lt is = is
only_start (suc k) l lt is = absurd (omega (arith, lt))

one_final : (f x : Final) (k : ℕ) → k < 1 → slice_index_or (f ∷ []) k x ≡ x → f ≡ x
one_final f x zero lt is = is
one_final f x (suc k) lt is = absurd (omega (arith, lt))

cover_of_journeys : CoverOfJourneys
unfolding partial_test label_facts held_amount paid_amount fare_state greatest_count is_clock_read link stop_set is_ride ride_facts is_active shifts_of calls_of call_at legs_of leg_facts stop_areas holds_at network_matches area_matches frame_matches rule_matches is_top_priority is_selected_rule group_matches limit_holds is_candidate suffices is_least_count is_selected_transfer is_arranged goes_on run_start change_at is_open is_leg_choice is_transfer_choice is_leg_paid is_change_paid is_fare_choice transfer_kind starts_chain is_charged amount_of leg_charge change_charge fare_sum
cover_of_journeys = record {
  start = (
    0,
    start_label facts_0,
    omega arith,
    refl,
    record { stop = refl; arrival = omega (arith, ints); rides = omega arith; spent = record { paid = omega (arith, ints); price = omega (arith, ints) }; state = refl },
  );
  lacking = λ c. lacks (c part_1 facts_1 (partial-by-test _ _ _ refl) refl);
  dearer = λ b.
      let below : IsTrue (at_most b.1.triple (triple 30600 2 (pos 300))) = b.4 (triple 30600 2 (pos 300)) completion_checks.from_start in
      let no : false ≡ true =
      subst (λ (f : Final). IsTrue (at_most f.triple (triple 30600 2 (pos 300)))) (sym (one_final (final (triple 30600 2 (pos 301)) 0 2) b.1 b.0 b.2 b.3)) below in
      absurd (cc);
  later = λ b.
      let below : IsTrue (at_most b.1.triple (triple 30600 2 (pos 300))) = b.4 (triple 30600 2 (pos 300)) completion_checks.from_start in
      let no : false ≡ true =
      subst (λ (f : Final). IsTrue (at_most f.triple (triple 30600 2 (pos 300)))) (sym (one_final (final (triple 30601 2 (pos 300)) 0 2) b.1 b.0 b.2 b.3)) below in
      absurd (cc);
  no_final = λ b. in_none Final b.0 b.2;
}
  where
    lacks : IsCovered (table (start_label facts_0 ∷ []) no_bag []) facts_1 ⊎ IsBettered base morning (table (start_label facts_0 ∷ []) no_bag []) part_1 → ⊥
    lacks (inl c) =
        let is = only_start c.0 c.1 c.2 c.3 in
        let no : Same 0 1 = ap stop_of is ∙ ap (λ (s : StopId). s.0) c.4.stop in
        absurd (omega (arith, no))
    lacks (inr b) = in_none Final b.0 b.2

-- ---- pruning

record PruneChecks : Type 0 where
  -- the labels of the base table have none fewer rides that is as good
  pub base_pruned : IsPruned base morning base_table
  -- what is found without a ride by the time of T1, at no price, outdoes it; what is found by one ride doesn't count
  pub outdone : IsPruned base morning (table four_labels no_bag (final (triple 29400 0 (pos 0)) 0 1 ∷ [])) → ⊥
  pub same_rides : IsPruned base morning (table (start_label facts_0 ∷ []) no_bag (final (triple 28800 0 (pos 0)) 0 0 ∷ []))

prune_checks : PruneChecks
unfolding is_outdone fare_floor is_open
prune_checks = record {
  base_pruned = pruned;
  outdone = λ p. p 1 (label facts_1 0 0 bus_ticket) (final (triple 29400 0 (pos 0)) 0 1) refl (0, omega arith, refl) (omega arith) refl;
  same_rides = same;
}
  where
    -- no label has more rides than a final, but the last, which is earlier than the other final
    two_finals : (f : Final) → Contains base_finals f → (final (triple 30600 2 (pos 300)) 3 2 ≡ f) ⊎ (final (triple 32400 1 (pos 250)) 2 2 ≡ f)
    two_finals f (zero, lt, is) = inl is
    two_finals f (suc zero, lt, is) = inr is
    two_finals f (suc (suc k), lt, is) = absurd (omega (arith, lt))

    few : (rides : ℕ) → rides ≤ 1 → (f : Final) → (final (triple 30600 2 (pos 300)) 3 2 ≡ f) ⊎ (final (triple 32400 1 (pos 250)) 2 2 ≡ f)
        → f.triple.rides < rides → ⊥
    few rides le f (inl is) lt = let e : Same 2 f.triple.rides = ap (λ (f : Final). f.triple.rides) is in absurd (omega (arith, le, lt, e))
    few rides le f (inr is) lt = let e : Same 1 f.triple.rides = ap (λ (f : Final). f.triple.rides) is in absurd (omega (arith, le, lt, e))

    last : (f : Final) → (final (triple 30600 2 (pos 300)) 3 2 ≡ f) ⊎ (final (triple 32400 1 (pos 250)) 2 2 ≡ f)
        → f.triple.rides < 2 → IsTrue (is_outdone base morning f.triple facts_2) → ⊥
    last f (inl is) lt out = let e : Same 2 f.triple.rides = ap (λ (f : Final). f.triple.rides) is in absurd (omega (arith, lt, e))
    last f (inr is) lt out =
        let no : false ≡ true = subst (λ (f : Final). IsTrue (is_outdone base morning f.triple facts_2)) (sym is) out in
        absurd (cc)

    pruned : IsPruned base morning base_table
    pruned zero l f is is_in lt out = few 0 (omega arith) f (two_finals f is_in) (subst (λ (l : Label). f.triple.rides < l.facts.rides) (sym (same_Some (start_label facts_0) l is)) lt)
    pruned (suc zero) l f is is_in lt out = few 1 (omega arith) f (two_finals f is_in) (subst (λ (l : Label). f.triple.rides < l.facts.rides) (sym (same_Some (label facts_1 0 0 bus_ticket) l is)) lt)
    pruned (suc (suc zero)) l f is is_in lt out = few 1 (omega arith) f (two_finals f is_in) (subst (λ (l : Label). f.triple.rides < l.facts.rides) (sym (same_Some (label facts_3 0 2 bus_ticket) l is)) lt)
    pruned (suc (suc (suc zero))) l f is is_in lt out =
        let e = sym (same_Some (label facts_2 1 1 by_change) l is) in
        last f (two_finals f is_in) (subst (λ (l : Label). f.triple.rides < l.facts.rides) e lt)
        (subst (λ (l : Label). IsTrue (is_outdone base morning f.triple l.facts)) e out)
    pruned (suc (suc (suc (suc n)))) l f is is_in lt out = none-some l is

    same : IsPruned base morning (table (start_label facts_0 ∷ []) no_bag (final (triple 28800 0 (pos 0)) 0 0 ∷ []))
    same zero l f is is_in lt out =
        let e : Same 0 l.facts.rides = ap rides_of (same_Some (start_label facts_0) l is) in
        absurd (omega (arith, e, lt))
    same (suc n) l f is is_in lt out = none-some l is

-- ---- closed tables

record ClosedChecks : Type 0 where
  -- the start alone doesn't hold what T1 makes of it
  pub lacking : IsClosed base morning (table (start_label facts_0 ∷ []) no_bag []) → ⊥
  pub starts : HasStarts base morning base_table
  pub no_start : HasStarts base morning (table (label facts_0 0 0 bus_ticket ∷ []) no_bag []) → ⊥
  pub elsewhere : HasStarts base morning (table (start_label (facts 1 28800 0 (pos 0) (pos 0) None) ∷ []) no_bag []) → ⊥
  pub earlier : HasEarlierParents base_table
  pub itself : HasEarlierParents (table (label facts_1 0 0 bus_ticket ∷ []) no_bag []) → ⊥
  pub bare : HasBareStarts base_table
  pub with_parent : HasBareStarts (table (record (start_label facts_0) { parent = Some 0 } ∷ []) no_bag []) → ⊥
  pub with_move : HasBareStarts (table (record (start_label facts_0) { taken = Some bus_ticket } ∷ []) no_bag []) → ⊥

closed_checks : ClosedChecks
unfolding partial_test label_facts held_amount paid_amount fare_state greatest_count is_clock_read link stop_set is_ride ride_facts is_active shifts_of calls_of call_at legs_of leg_facts stop_areas holds_at network_matches area_matches frame_matches rule_matches is_top_priority is_selected_rule group_matches limit_holds is_candidate suffices is_least_count is_selected_transfer is_arranged goes_on run_start change_at is_open is_leg_choice is_transfer_choice is_leg_paid is_change_paid is_fare_choice transfer_kind starts_chain is_charged amount_of leg_charge change_charge fare_sum
closed_checks = record {
  lacking = λ c. lacks (c 0 (start_label facts_0) part_0 (ride 0 0 1) bus_ticket facts_1 refl refl (partial-by-test _ _ _ refl) refl);
  starts = λ stop stands. start_of stop (eqb-true 0 stop.0 (only_member stop stands));
  no_start = λ h. let s = h (record { 0 = 0 }) refl in no_ride_none s.0 s.1 s.2 s.3 s.4.1;
  elsewhere = λ h.
      let s = h (record { 0 = 0 }) refl in
      let no : Same 1 0 = ap stop_of (at_one (start_label (facts 1 28800 0 (pos 0) (pos 0) None)) s.1 s.0 s.2 s.3) ∙ ap (λ (t : StopId). t.0) s.4.0 in
      absurd (omega (arith, no));
  earlier = parents;
  itself = λ h. let lt = h 0 0 (label facts_1 0 0 bus_ticket) refl refl in absurd (omega (arith, lt));
  bare = bare_labels;
  with_parent = λ h. let b = h 0 (record (start_label facts_0) { parent = Some 0 }) refl refl in absurd (none-some 0 (sym b.0));
  with_move = λ h. let b = h 0 (record (start_label facts_0) { taken = Some bus_ticket }) refl refl in absurd (none-some bus_ticket (sym b.1));
}
  where
    at_one : (f x : Label) (k : ℕ) → k < 1 → slice_index_or (f ∷ []) k x ≡ x → f ≡ x
    at_one f x zero lt is = is
    at_one f x (suc k) lt is = absurd (omega (arith, lt))

    lacks : IsCovered (table (start_label facts_0 ∷ []) no_bag []) facts_1 ⊎ IsOutdone base morning (table (start_label facts_0 ∷ []) no_bag []) facts_1 → ⊥
    lacks (inl c) =
        let no : Same 0 1 = ap stop_of (at_one (start_label facts_0) c.1 c.0 c.2 c.3) ∙ ap (λ (s : StopId). s.0) c.4.stop in
        absurd (omega (arith, no))
    lacks (inr b) = in_none Final b.0 b.2

    or_false : (b : Bool) → (b || false) ≡ true → b ≡ true
    or_false true e = refl
    or_false false e = e

    only_member : (stop : StopId) → IsTrue (stands_for base (record { 0 = 0 }) stop) → (0 == stop.0) ≡ true
    only_member stop stands = or_false (0 == stop.0) stands

    start_of : (stop : StopId) → Same 0 stop.0 → Any (λ (l : Label). (l.facts.stop ≡ stop) × (l.ride ≡ None)) four_labels
    start_of stop is = (0, start_label facts_0, omega arith, refl, (ap (λ (n : ℕ). record { 0 = n }) is, refl))

    no_ride_none : (k : ℕ) (l : Label) → k < 1 → slice_index_or (label facts_0 0 0 bus_ticket ∷ []) k l ≡ l → l.ride ≡ None → ⊥
    no_ride_none k l lt is none = none-some (ride 0 0 1) (sym (ap (λ (l : Label). l.ride) (at_one (label facts_0 0 0 bus_ticket) l k lt is) ∙ none))

    parent_of : (n parent : ℕ) (l : Label) → Some n ≡ l.parent → l.parent ≡ Some parent → n ≡ parent
    parent_of n parent l is has = same_Some n parent (is ∙ has)

    parents : HasEarlierParents base_table
    parents zero parent l is has = absurd (none-some parent (ap (λ (l : Label). l.parent) (same_Some (start_label facts_0) l is) ∙ has))
    parents (suc zero) parent l is has =
        let e = parent_of 0 parent l (ap (λ (l : Label). l.parent) (same_Some (label facts_1 0 0 bus_ticket) l is)) has in omega (arith, e)
    parents (suc (suc zero)) parent l is has =
        let e = parent_of 0 parent l (ap (λ (l : Label). l.parent) (same_Some (label facts_3 0 2 bus_ticket) l is)) has in omega (arith, e)
    parents (suc (suc (suc zero))) parent l is has =
        let e = parent_of 1 parent l (ap (λ (l : Label). l.parent) (same_Some (label facts_2 1 1 by_change) l is)) has in omega (arith, e)
    parents (suc (suc (suc (suc n)))) parent l is has = absurd (none-some l is)

    with_ride_not : (r : Ride) (l : Label) → Some r ≡ l.ride → l.ride ≡ None → ⊥
    with_ride_not r l is none = none-some r (sym (is ∙ none))

    bare_labels : HasBareStarts base_table
    bare_labels zero l is none =
        (sym (ap (λ (l : Label). l.parent) (same_Some (start_label facts_0) l is)), sym (ap (λ (l : Label). l.taken) (same_Some (start_label facts_0) l is)))
    bare_labels (suc zero) l is none = absurd (with_ride_not (ride 0 0 1) l (ap (λ (l : Label). l.ride) (same_Some (label facts_1 0 0 bus_ticket) l is)) none)
    bare_labels (suc (suc zero)) l is none = absurd (with_ride_not (ride 2 0 1) l (ap (λ (l : Label). l.ride) (same_Some (label facts_3 0 2 bus_ticket) l is)) none)
    bare_labels (suc (suc (suc zero))) l is none = absurd (with_ride_not (ride 1 0 1) l (ap (λ (l : Label). l.ride) (same_Some (label facts_2 1 1 by_change) l is)) none)
    bare_labels (suc (suc (suc (suc n)))) l is none = absurd (none-some l is)
