-- Whole tables that are sound or closed: over a feed of one ride, of which all partial journeys can be listed.
use Rattle.std.proofs.Common.{◌≡◌, ◌≢◌, refl, sym, ◌∙◌, ap, subst, ℕ, zero, suc, ◌≤◌, Bool, true, false, ◌&&◌, ◌||◌, ◌==◌, nat_lt, ◌⊎◌, inl, inr, List, [], ◌∷◌, length, arith}
use Rattle.std.specs.Prelude.{Option, Some, ℤ, pos, ◌+ℤ◌, option_map, slice_get, All, AllPairs, if◌then◌else◌, Contains, IsTrue, IsSome, codes}
use Rattle.std.specs.List.{list_any}
use Rattle.std.proofs.lemmas.Int.{ints}
use Rattle.std.proofs.lemmas.Bool.{and_parts, eqb-true}
use Rattle.std.proofs.lemmas.Option.{same_Some, none-some, cond_some}
use Rattle.transit_base.specs.declared.numbers.StopId.{StopId}
use Rattle.feed_rows.specs.declared.fares.ChangeChoice.{ChangeChoice}
use Rattle.feed_rows.specs.declared.fares.Choice.{Choice}
use Rattle.feed_rows.specs.declared.fares.LegChoice.{LegChoice}
use Rattle.feed_rows.specs.declared.journeys.Buyer.{Buyer}
use Rattle.feed_rows.specs.declared.journeys.Query.{Query}
use Rattle.feed_rows.specs.declared.journeys.Ride.{Ride}
use Rattle.feed_rows.specs.FeedRows.{FeedRows}
use Rattle.feed_rows.specs.ServiceDays.{is_active}
use Rattle.feed_rows.specs.Calls.{call_at, calls_of}
use Rattle.feed_rows.specs.Shifts.{shifts_of}
use Rattle.feed_rows.specs.Rides.{runs_on, is_ride, ride_facts}
use Rattle.feed_rows.specs.StopLinks.{link, stop_set}
use Rattle.feed_rows.specs.Journeys.{stands_for, direct, arrival_after}
use Rattle.feed_rows.specs.Legs.{stop_areas, holds_at, leg_facts, legs_of}
use Rattle.feed_rows.specs.LegRules.{network_matches, area_matches, frame_matches, rule_matches, is_top_priority, is_selected_rule}
use Rattle.feed_rows.specs.FareChoices.{is_open, is_leg_choice, is_leg_paid, is_fare_choice}
use Rattle.feed_rows.specs.JourneyEntries.{IsEntry, IsMinimal, rides_price}
use Rattle.feed_rows.specs.ParetoTriples.{at_most}
use Rattle.feed_rows.specs.TransferRules.{goes_on, run_start}
use Rattle.feed_rows.specs.FareSums.{transfer_kind, starts_chain, is_charged, amount_of, leg_charge, change_charge, fare_sum}
use Rattle.feed_rows.specs.FareStates.{held_amount, paid_amount, greatest_count, is_clock_read, fare_state}
use Rattle.feed_rows.specs.PartialJourneys.{PartialJourney, IsPartialJourney, LabelFacts, label_facts}
use Rattle.feed_rows.specs.LabelCover.{Covers}
use Rattle.feed_rows.specs.FareFloor.{fare_floor, is_outdone}
use Rattle.feed_rows.specs.RoundTables.{Label, Final, RoundTable, with_ride}
use Rattle.feed_rows.specs.SoundTable.{IsReal, AreReal, IsBag, AreBags, IsCovered, CoversJourneys, EndsExactly, IsSoundTable}
use Rattle.feed_rows.specs.ClosedTable.{IsOutdone, IsClosed, IsClosedTable}
use Rattle.feed_rows.specs.declared.fares.Entry.{Entry}
use Rattle.feed_rows.specs.declared.fares.Triple.{Triple}
use Rattle.transit_base.specs.declared.moments.Moment.{Moment}
use Rattle.plain_laws.specs.Plain.{at_and, int_same, when}
use Rattle.feed_laws.proofs.StandLaws.{places_of_paid, one_of_paid}
use Rattle.feed_examples.specs.BaseFeed.{base, trip, call, ticket, network_rule, query, no_category}
use Rattle.feed_examples.proofs.EntryChecks.{entry_test, entry-by-test}
use Rattle.feed_examples.proofs.WorkedEntries.{ride, entry, leg, paid}
use Rattle.feed_examples.proofs.WorkedStates.{bus_1, one_choice, bus_ticket}
use Rattle.feed_examples.proofs.WorkedLabels.{part, part_0, part_1, partial_test, partial-by-test, facts_0, facts_1, label, start_label, final, triple, table, no_bag}

-- the feed of T1 alone
abbrev pub one_trip : FeedRows
one_trip =
    record base {
      trips = trip (codes "T1") 0 ∷ [];
      stop_times = call 0 0 1 28800 ∷ call 0 1 2 29400 ∷ [];
      products = ticket 0 250 ∷ [];
      leg_rules = network_rule 0 0 0 ∷ [];
      transfer_rules = [];
    }

abbrev bus : Ride
bus = ride 0 0 1

-- equal numbers
abbrev Same : ℕ → ℕ → Type 0
Same m n = m ≡ n

-- ---- its only ride

the_trip : (t : ℕ) (day : ℤ) → runs_on one_trip (record { 0 = t }) day ≡ true → 0 ≡ t
the_trip zero day e = refl
the_trip (suc t) day e = absurd (let no : false ≡ true = e in cc)

same_int : (a b : ℤ) → int_same a b ≡ true → a ≡ b
same_int a b e = grind (arith, ints, e)

the_day : (day : ℤ) → runs_on one_trip (record { 0 = 0 }) day ≡ true → pos 20241 ≡ day
unfolding is_active
the_day day e = by (int_same (pos 20241) day) refl
  where
    by : (b : Bool) → int_same (pos 20241) day ≡ b → pos 20241 ≡ day
    by true is = same_int _ _ is
    by false is = absurd (let no : false ≡ true = rw is at e in cc)

the_shift : (shift : ℤ) → list_any (int_same shift) (shifts_of one_trip (record { 0 = 0 })) ≡ true → pos 0 ≡ shift
unfolding shifts_of
the_shift shift e = by (int_same shift (pos 0)) refl
  where
    by : (b : Bool) → int_same shift (pos 0) ≡ b → pos 0 ≡ shift
    by true is = sym (same_int _ _ is)
    by false is = absurd (let no : false ≡ true = rw is at e in cc)

the_span : (from to : ℕ) → nat_lt from to ≡ true → at_and (calls_of one_trip (record { 0 = 0 })) from (λ c. c.pickup) ≡ true
    → at_and (calls_of one_trip (record { 0 = 0 })) to (λ c. c.drop_off) ≡ true → (0 ≡ from) × (1 ≡ to)
unfolding calls_of call_at
the_span zero zero lt a b = absurd (let no : false ≡ true = lt in cc)
the_span zero (suc zero) lt a b = (refl, refl)
the_span zero (suc (suc n)) lt a b = absurd (let no : false ≡ true = b in cc)
the_span (suc zero) zero lt a b = absurd (let no : false ≡ true = lt in cc)
the_span (suc zero) (suc zero) lt a b = absurd (let no : false ≡ true = lt in cc)
the_span (suc zero) (suc (suc n)) lt a b = absurd (let no : false ≡ true = b in cc)
the_span (suc (suc n)) to lt a b = absurd (let no : false ≡ true = a in cc)

ride_by : ℕ → ℤ → ℤ → ℕ → ℕ → Ride
ride_by t day shift from to = record { trip = record { 0 = t }; day = record { 0 = day }; shift = shift; from = from; to = to }

same_ride : (t t' : ℕ) (d d' s s' : ℤ) (f f' g g' : ℕ) → t ≡ t' → d ≡ d' → s ≡ s' → f ≡ f' → g ≡ g' → ride_by t d s f g ≡ ride_by t' d' s' f' g'
same_ride t t' d d' s s' f f' g g' a b c e h = rw (a, b, c, e, h) refl

pub only_ride : (r : Ride) → is_ride one_trip r ≡ true → bus ≡ r
unfolding is_ride ride_by
only_ride r e =
    let p1 = and_parts _ _ e in
    let p2 = and_parts _ _ p1.0 in
    let p3 = and_parts _ _ p2.0 in
    let p4 = and_parts _ _ p3.0 in
    let t = the_trip r.trip.0 r.day.0 p4.0 in
    at_zero (subst (λ (n : ℕ). runs_on one_trip (record { 0 = n }) r.day.0 ≡ true) (sym t) p4.0)
    (subst (λ (n : ℕ). list_any (int_same r.shift) (shifts_of one_trip (record { 0 = n })) ≡ true) (sym t) p4.1)
    p3.1
    (subst (λ (n : ℕ). at_and (calls_of one_trip (record { 0 = n })) r.from (λ c. c.pickup) ≡ true) (sym t) p2.1)
    (subst (λ (n : ℕ). at_and (calls_of one_trip (record { 0 = n })) r.to (λ c. c.drop_off) ≡ true) (sym t) p1.1)
    t
  where
    at_zero : runs_on one_trip (record { 0 = 0 }) r.day.0 ≡ true → list_any (int_same r.shift) (shifts_of one_trip (record { 0 = 0 })) ≡ true
        → nat_lt r.from r.to ≡ true → at_and (calls_of one_trip (record { 0 = 0 })) r.from (λ c. c.pickup) ≡ true
        → at_and (calls_of one_trip (record { 0 = 0 })) r.to (λ c. c.drop_off) ≡ true → 0 ≡ r.trip.0 → bus ≡ r
    at_zero runs shifted lt a b t =
        let span = the_span r.from r.to lt a b in
        same_ride 0 r.trip.0 (pos 20241) r.day.0 (pos 0) r.shift 0 r.from 1 r.to t (the_day r.day.0 runs) (the_shift r.shift shifted) span.0 span.1

-- ---- its partial journeys from A

-- a choice of no leg is empty
no_leg : (legs : List LegChoice) (places : List (Option ChangeChoice)) →
    is_fare_choice one_trip [] (record { legs = legs; changes = places }) no_category ≡ true → paid [] [] ≡ record { legs = legs; changes = places }
unfolding is_fare_choice
no_leg [] [] e = refl
no_leg [] (place ∷ places) e = absurd (let no = (places_of_paid one_trip no_category [] (record { legs = []; changes = place ∷ places }) e).1 in omega (arith, no))
no_leg (pick ∷ picks) places e = absurd (let no = (places_of_paid one_trip no_category [] (record { legs = pick ∷ picks; changes = places }) e).0 in omega (arith, no))

-- the bus has one ticket
the_ticket : (r p : ℕ) → is_fare_choice one_trip (bus_1 ∷ []) (paid (leg r p ∷ []) []) no_category ≡ true → one_choice ≡ paid (leg r p ∷ []) []
unfolding is_leg_paid is_fare_choice network_matches area_matches frame_matches rule_matches is_top_priority is_selected_rule is_open is_leg_choice
the_ticket zero zero e = refl
the_ticket zero (suc p) e = absurd (let no : false ≡ true = e in cc)
the_ticket (suc r) p e = absurd (let no : false ≡ true = e in cc)

one_leg : (choice : Choice) → is_fare_choice one_trip (bus_1 ∷ []) choice no_category ≡ true → one_choice ≡ choice
one_leg choice e =
    let one = one_of_paid one_trip no_category bus_1 choice e in
    let pick = one.0 in
    the_ticket pick.rule.0 pick.product.0 (subst (λ (c : Choice). is_fare_choice one_trip (bus_1 ∷ []) c no_category ≡ true) one.1 e) ∙ sym one.1

-- what has a price is a choice
is_choice : (b : Bool) (z : ℤ) → IsSome (when b z) → b ≡ true
is_choice true z some = refl
is_choice false z some = some

-- the two partial journeys from A: no ride, and T1
abbrev AreOnly : PartialJourney → Type 0
AreOnly p = (part_0 ≡ p) ⊎ (part_1 ≡ p)

same_part : (s s' : ℕ) (rs rs' : List Ride) (c c' : Choice) → s ≡ s' → rs ≡ rs' → c ≡ c' → part s rs c ≡ part s' rs' c'
same_part s s' rs rs' c c' e f g = rw (e, f, g) refl

pub only_parts : (query : Query) → query.from ≡ record { 0 = 0 } → query.rides ≤ 1 → query.buyer ≡ no_category →
    (p : PartialJourney) → IsPartialJourney one_trip query p → AreOnly p
unfolding link stop_set is_ride ride_facts is_active shifts_of calls_of call_at legs_of leg_facts stop_areas holds_at
only_parts query from few buyer p is = by p.rides refl
  where
    or_false : (b : Bool) → (b || false) ≡ true → b ≡ true
    or_false true e = refl
    or_false false e = e

    first : 0 ≡ p.first.0
    first =
        let stands : IsTrue (stands_for one_trip (record { 0 = 0 }) p.first) = subst (λ (s : StopId). IsTrue (stands_for one_trip s p.first)) from is.starts in
        eqb-true 0 p.first.0 (or_false (0 == p.first.0) stands)

    pays : IsSome (rides_price one_trip p.rides p.choice no_category)
    pays = subst (λ (b : Buyer). IsSome (rides_price one_trip p.rides p.choice b)) buyer is.pays

    by : (rides : List Ride) → p.rides ≡ rides → AreOnly p
    by [] none =
        let some : IsSome (rides_price one_trip [] p.choice no_category) = subst (λ (rs : List Ride). IsSome (rides_price one_trip rs p.choice no_category)) none pays in
        inl (same_part 0 p.first.0 [] p.rides (paid [] []) p.choice first (sym none) (no_leg p.choice.legs p.choice.changes (is_choice _ _ some)))
    by (r ∷ []) one =
        let at : is_ride one_trip r ≡ true = (subst (λ (rs : List Ride). All (λ ride. IsTrue (is_ride one_trip ride)) rs) one is.rides) 0 r (omega arith) in
        let same = only_ride r at in
        let rides : bus ∷ [] ≡ p.rides = ap (λ (x : Ride). x ∷ []) same ∙ sym one in
        let some : IsSome (rides_price one_trip (bus ∷ []) p.choice no_category) = subst (λ (rs : List Ride). IsSome (rides_price one_trip rs p.choice no_category)) (sym rides) pays in
        inr (same_part 0 p.first.0 (bus ∷ []) p.rides one_choice p.choice first rides (one_leg p.choice (is_choice _ _ some)))
    by (r ∷ s ∷ rs) many =
        let most = is.few in
        let long = ap length many in
        absurd (omega (arith, most, long, few))

-- ---- one ride to B

-- from A to B by at most one ride
abbrev to_b : Query
to_b = record (query 0 1 28800) { rides = 1 }

-- from A to A, by as many
abbrev to_a : Query
to_a = record (query 0 0 28800) { rides = 1 }

abbrev HasEither : LabelFacts → Type 0
HasEither f = (facts_0 ≡ f) ⊎ (facts_1 ≡ f)

either : (query : Query) → query.departure ≡ record { 0 = pos 1748851200 } → (p : PartialJourney) (f : LabelFacts) → AreOnly p →
    label_facts one_trip query p ≡ Some f → HasEither f
unfolding label_facts held_amount paid_amount fare_state greatest_count is_clock_read is_ride ride_facts is_active shifts_of calls_of call_at legs_of leg_facts stop_areas holds_at goes_on run_start transfer_kind starts_chain is_charged amount_of leg_charge change_charge fare_sum
either query at p f (inl same) is =
    let known = (subst (λ (q : PartialJourney). label_facts one_trip query q ≡ Some f) (sym same) is) in
    inl (same_Some facts_0 f (sym (ap (λ (t : Moment). Some (record facts_0 { arrival = t.0 })) at) ∙ known))
either query at p f (inr same) is = inr (same_Some facts_1 f (subst (λ (q : PartialJourney). label_facts one_trip query q ≡ Some f) (sym same) is))

abbrev two_labels : List Label
two_labels = start_label facts_0 ∷ label facts_1 0 0 bus_ticket ∷ []

itself : (f : LabelFacts) → Covers f f
itself f = record { stop = refl; arrival = omega (arith, ints); rides = omega arith; spent = record { paid = omega (arith, ints); price = omega (arith, ints) }; state = refl }

-- two labels cover all
covered : (bag : ℕ → StopId → List ℕ) (finals : List Final) (f : LabelFacts) → HasEither f → IsCovered (table two_labels bag finals) f
covered bag finals f (inl is) = (0, start_label facts_0, omega arith, refl, subst (Covers facts_0) is (itself facts_0))
covered bag finals f (inr is) = (1, label facts_1 0 0 bus_ticket, omega arith, refl, subst (Covers facts_1) is (itself facts_1))

-- and so does one label with a final that outdoes T1
outdone : (f : LabelFacts) → HasEither f → IsOutdone one_trip to_a (table (start_label facts_0 ∷ []) no_bag (final (triple 28800 0 (pos 0)) 0 0 ∷ [])) f
unfolding is_outdone fare_floor is_open
outdone f (inl is) =
    (0, final (triple 28800 0 (pos 0)) 0 0, omega arith, refl, subst (λ (g : LabelFacts). IsTrue (is_outdone one_trip to_a (triple 28800 0 (pos 0)) g)) is refl)
outdone f (inr is) =
    (0, final (triple 28800 0 (pos 0)) 0 0, omega arith, refl, subst (λ (g : LabelFacts). IsTrue (is_outdone one_trip to_a (triple 28800 0 (pos 0)) g)) is refl)

record OneRide : Type 0 where
  pub covers : CoversJourneys one_trip to_b (table two_labels no_bag [])
  pub closed : IsClosed one_trip to_b (table two_labels no_bag [])
  pub closed_by_final : IsClosed one_trip to_a (table (start_label facts_0 ∷ []) no_bag (final (triple 28800 0 (pos 0)) 0 0 ∷ []))

one_ride : OneRide
one_ride = record {
  covers = λ p f is_partial is.
      inl (covered no_bag [] f (either to_b refl p f (only_parts to_b refl (omega arith) refl p is_partial) is));
  closed = λ number l p r taken f has traced is_partial is.
      inl (covered no_bag [] f (either to_b refl (with_ride p r taken) f (only_parts to_b refl (omega arith) refl (with_ride p r taken) is_partial) is));
  closed_by_final = λ number l p r taken f has traced is_partial is.
      inr (outdone f (either to_a refl (with_ride p r taken) f (only_parts to_a refl (omega arith) refl (with_ride p r taken) is_partial) is));
}

-- ---- no ride

-- from A to A without a ride
abbrev stay : Query
stay = record (query 0 0 28800) { rides = 0 }

abbrev stay_triple : Triple
stay_triple = triple 28800 0 (pos 0)

abbrev stay_entry : Entry
stay_entry = entry 0 0 28800 0 (pos 0) [] [] []

triple_by : ℤ → ℕ → ℤ → Triple
triple_by arrival rides price = record { arrival = record { 0 = arrival }; rides = rides; price = record { 0 = price } }

same_triple : (a a' : ℤ) (n n' : ℕ) (z z' : ℤ) → a ≡ a' → n ≡ n' → z ≡ z' →
    triple_by a n z ≡ triple_by a' n' z'
same_triple a a' n n' z z' e f g = rw (e, f, g) refl

-- each entry has that triple
only_entry : (e : Entry) → IsEntry one_trip stay e → stay_triple ≡ e.triple
unfolding triple_by stop_set legs_of fare_sum is_fare_choice
only_entry e is = by e.journey.rides refl
  where
    or_false : (b : Bool) → (b || false) ≡ true → b ≡ true
    or_false true h = refl
    or_false false h = h

    first : 0 ≡ e.journey.first.0
    first = eqb-true 0 e.journey.first.0 (or_false (0 == e.journey.first.0) is.journey.starts)

    last : 0 ≡ e.journey.last.0
    last = eqb-true 0 e.journey.last.0 (or_false (0 == e.journey.last.0) is.journey.ends)

    -- what stays arrives at the departure
    stays : (a b : ℕ) (t : ℤ) → 0 ≡ a → 0 ≡ b →
        option_map (λ s. pos 1748851200 +ℤ pos s) (direct one_trip (record { 0 = a }) (record { 0 = b })) ≡ Some t → pos 1748851200 ≡ t
    stays a b t ea eb h = same_Some _ t (rw (sym ea, sym eb) at h)

    by : (rides : List Ride) → e.journey.rides ≡ rides → stay_triple ≡ e.triple
    by [] none =
        let arrives : arrival_after one_trip stay e.journey 0 ≡ Some e.triple.arrival.0 =
        subst (λ (rs : List Ride). arrival_after one_trip stay e.journey (length rs) ≡ Some e.triple.arrival.0) none is.journey.arrives in
        let price : rides_price one_trip [] e.choice no_category ≡ Some e.triple.price.0 =
        subst (λ (rs : List Ride). rides_price one_trip rs e.choice no_category ≡ Some e.triple.price.0) none is.price in
        let paid_by = cond_some (is_fare_choice one_trip [] e.choice no_category) (fare_sum one_trip e.choice) e.triple.price.0 price in
        let choice = no_leg e.choice.legs e.choice.changes paid_by.0 in
        same_triple (pos 1748851200) e.triple.arrival.0 0 e.triple.rides (pos 0) e.triple.price.0
        (stays e.journey.first.0 e.journey.last.0 e.triple.arrival.0 first last arrives)
        (sym (is.rides ∙ ap length none))
        (ap (λ (c : Choice). fare_sum one_trip c) choice ∙ paid_by.1)
    by (r ∷ rs) some =
        let most = is.journey.few in
        let long = ap length some in
        absurd (omega (arith, most, long))

-- the bag of the start
abbrev start_bag : ℕ → StopId → List ℕ
start_bag rides stop = if (rides == 0) && (stop.0 == 0) then 0 ∷ [] else []

abbrev stay_table : List Label → RoundTable
stay_table labels = table labels start_bag (final stay_triple 0 0 ∷ [])

abbrev start_table : RoundTable
start_table = stay_table (start_label facts_0 ∷ [])

-- a label of the table is the start
the_start : (number : ℕ) (l : Label) → slice_get (start_label facts_0 ∷ []) number ≡ Some l → (0 ≡ number) × (start_label facts_0 ≡ l)
the_start zero l is = (refl, same_Some (start_label facts_0) l is)
the_start (suc n) l is = absurd (none-some l is)

start_bags : AreBags start_table
start_bags rides stop = by ((rides == 0) && (stop.0 == 0)) refl
  where
    in_bag : (b : Bool) (number : ℕ) → Contains {X = ℕ} (if b then 0 ∷ [] else []) number → (b ≡ true) × (0 ≡ number)
    in_bag true number (zero, lt, is) = (refl, is)
    in_bag true number (suc k, lt, is) = absurd (omega (arith, lt))
    in_bag false number (k, lt, is) = absurd (omega (arith, lt))

    once : (b : Bool) → AllPairs (λ (m n : ℕ). m ≢ n) (if b then 0 ∷ [] else [])
    once true i j d lt lt' = absurd (omega (arith, lt, lt'))
    once false i j d lt lt' = absurd (omega (arith, lt'))

    zeros : (a b : ℕ) → ((a == 0) && (b == 0)) ≡ true → (0 ≡ a) × (0 ≡ b)
    zeros a b e = let both = and_parts (a == 0) (b == 0) e in (sym (eqb-true a 0 both.0), sym (eqb-true b 0 both.1))

    are_zeros : (a b : ℕ) → 0 ≡ a → 0 ≡ b → ((a == 0) && (b == 0)) ≡ true
    are_zeros a b e f = rw (sym e, sym f) refl

    by : (b : Bool) → ((rides == 0) && (stop.0 == 0)) ≡ b → IsBag start_table rides stop
    by b e = record {
      right = λ number is_in.
          let has = in_bag ((rides == 0) && (stop.0 == 0)) number is_in in
          let at = zeros rides stop.0 has.0 in
          (start_label facts_0, subst (λ (n : ℕ). slice_get (start_label facts_0 ∷ []) n ≡ Some (start_label facts_0)) has.1 refl, at.0, ap (λ (n : ℕ). record { 0 = n }) at.1);
      all = λ number l is has_rides has_stop.
          let known = the_start number l is in
          let zero_rides : Same 0 rides = ap (λ (x : Label). x.facts.rides) known.1 ∙ has_rides in
          let zero_stop : Same 0 stop.0 = ap (λ (x : Label). x.facts.stop.0) known.1 ∙ ap (λ (s : StopId). s.0) has_stop in
          subst (λ (c : Bool). Contains {X = ℕ} (if c then 0 ∷ [] else []) number) (sym (are_zeros rides stop.0 zero_rides zero_stop)) (0, omega arith, known.0);
      once = once ((rides == 0) && (stop.0 == 0));
    }

-- the start is real
start_is_real : AreReal one_trip stay start_table
unfolding partial_test label_facts held_amount paid_amount fare_state stop_set legs_of is_fare_choice fare_sum
start_is_real number l is =
    let known = the_start number l is in
    subst (λ (n : ℕ). IsReal one_trip stay start_table n l) known.0
    (subst (IsReal one_trip stay start_table 0) known.1
    (record { part = part_0; is_traced = refl; is_partial = partial-by-test _ _ _ refl; has_facts = refl }))

-- no partial journey has a ride
no_rides : (p : PartialJourney) → IsPartialJourney one_trip stay p → AreOnly p → part_0 ≡ p
no_rides p is (inl same) = same
no_rides p is (inr same) =
    let most = is.few in
    let long : Same 1 (length p.rides) = ap (λ (q : PartialJourney). length q.rides) same in
    absurd (omega (arith, most, long))

no_ride_facts : (p : PartialJourney) (f : LabelFacts) → part_0 ≡ p → label_facts one_trip stay p ≡ Some f → facts_0 ≡ f
unfolding label_facts held_amount paid_amount fare_state legs_of fare_sum
no_ride_facts p f same is = same_Some facts_0 f (subst (λ (q : PartialJourney). label_facts one_trip stay q ≡ Some f) (sym same) is)

one_item : {X : Type 0} (P : X → Type 0) (x : X) → P x → All P (x ∷ [])
one_item P x holds zero d lt = holds
one_item P x holds (suc k) d lt = absurd (omega (arith, lt))

-- the triple is offered, and nothing else is
offered : IsEntry one_trip stay stay_entry
unfolding entry_test stop_set legs_of is_fare_choice fare_sum
offered = entry-by-test one_trip stay stay_entry refl

exact : EndsExactly one_trip stay start_table
exact = (
  stay_entry ∷ [],
  refl,
  record {
    right = one_item (IsEntry one_trip stay) stay_entry offered;
    minimal = one_item (λ e. IsMinimal one_trip stay e.triple) stay_entry (record {
      offered = (stay_entry, offered, refl);
      least = λ other is_offered below. sym is_offered.2 ∙ sym (only_entry is_offered.0 is_offered.1);
    });
    complete = λ t minimal. (0, omega arith, only_entry minimal.offered.0 minimal.offered.1 ∙ minimal.offered.2);
    in_order = λ i j d lt lt'. absurd (omega (arith, lt, lt'));
  },
)

record NoRide : Type 0 where
  pub sound : IsSoundTable one_trip stay start_table
  -- without a label, what the journey without rides leads to is found
  pub found : CoversJourneys one_trip stay (table [] no_bag (final stay_triple 0 0 ∷ []))
  pub closed : IsClosedTable one_trip stay start_table

no_ride : NoRide
unfolding stop_set
no_ride = record {
  sound = record {
    real = start_is_real;
    bags = start_bags;
    no_excess = λ m n a b is is' differ c. differ (sym (the_start m a is).0 ∙ (the_start n b is').0);
    covers = λ p f is_partial is. inl (covered_by_start f (no_ride_facts p f (no_rides p is_partial (only_parts stay refl (omega arith) refl p is_partial)) is));
    exact = exact;
    pruned = λ number l f is is_in lt out.
        let none : Same 0 l.facts.rides = ap (λ (x : Label). x.facts.rides) (the_start number l is).1 in
        absurd (omega (arith, lt, none));
  };
  found = λ p f is_partial is. inr (0, final stay_triple 0 0, omega arith, refl, λ t completes. at (only_entry completes.0 completes.1 ∙ completes.3));
  closed = record {
    closed = λ number l p r taken f has traced is_partial is.
        inl (covered_by_start f (no_ride_facts (with_ride p r taken) f (no_rides (with_ride p r taken) is_partial (only_parts stay refl (omega arith) refl (with_ride p r taken) is_partial)) is));
    starts = λ stop stands. (0, start_label facts_0, omega arith, refl, (ap (λ (n : ℕ). record { 0 = n }) (eqb-true 0 stop.0 (or_false (0 == stop.0) stands)), refl));
    earlier = λ number parent l is has. absurd (none-some parent (ap (λ (x : Label). x.parent) (the_start number l is).1 ∙ has));
    bare = λ number l is none. (sym (ap (λ (x : Label). x.parent) (the_start number l is).1), sym (ap (λ (x : Label). x.taken) (the_start number l is).1));
  };
}
  where
    or_false : (b : Bool) → (b || false) ≡ true → b ≡ true
    or_false true h = refl
    or_false false h = h

    at : {t : Triple} → stay_triple ≡ t → IsTrue (at_most stay_triple t)
    at {t} same = subst (λ (u : Triple). IsTrue (at_most stay_triple u)) same refl

    covered_by_start : (f : LabelFacts) → facts_0 ≡ f → IsCovered start_table f
    covered_by_start f is = (0, start_label facts_0, omega arith, refl, subst (Covers facts_0) is (itself facts_0))
