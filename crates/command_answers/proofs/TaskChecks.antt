-- Lines that do a task over the folder of one bus, for each command, and lines that don't.
use Rattle.std.proofs.Common.{◌≡◌, refl, sym, ◌∙◌, ap, subst, ℕ, zero, suc, ◌<◌, Bool, true, false, ◌||◌, ◌==◌, List, [], ◌∷◌, ◌++◌, length, get_or, inl, arith}
use Rattle.std.specs.Prelude.{if◌then◌else◌, Option, Some, ℤ, pos, ◌+ℤ◌, ◌≤ℤ◌, option_map, All, IsTrue, codes}
use Rattle.std.specs.Fmt.{digits}
use Rattle.std.proofs.lemmas.Int.{ints}
use Rattle.std.proofs.lemmas.Bool.{eqb-true}
use Rattle.std.proofs.lemmas.Option.{same_Some, cond_some}
use Rattle.transit_base.specs.Dates.{date_of, date_from_year, date_in_year}
use Rattle.transit_base.specs.DateTexts.{date_text, time_text}
use Rattle.feed_rows.specs.declared.fares.ChangeChoice.{ChangeChoice}
use Rattle.feed_rows.specs.declared.fares.Choice.{Choice}
use Rattle.feed_rows.specs.declared.fares.Entry.{Entry}
use Rattle.feed_rows.specs.declared.fares.LegChoice.{LegChoice}
use Rattle.feed_rows.specs.declared.fares.Triple.{Triple}
use Rattle.feed_rows.specs.declared.journeys.LegFacts.{LegFacts}
use Rattle.feed_rows.specs.declared.journeys.Ride.{Ride}
use Rattle.feed_rows.specs.ServiceDays.{is_active}
use Rattle.feed_rows.specs.Calls.{call_at, calls_of}
use Rattle.feed_rows.specs.Shifts.{shifts_of}
use Rattle.feed_rows.specs.Rides.{is_ride, ride_facts}
use Rattle.feed_rows.specs.StopLinks.{stop_set}
use Rattle.feed_rows.specs.Journeys.{direct, arrival_after}
use Rattle.feed_rows.specs.Legs.{stop_areas, holds_at, leg_facts, legs_of}
use Rattle.feed_rows.specs.LegRules.{network_matches, area_matches, frame_matches, rule_matches, is_top_priority, is_selected_rule}
use Rattle.feed_rows.specs.FareChoices.{is_open, is_leg_choice, is_leg_paid, is_fare_choice}
use Rattle.feed_rows.specs.FareSums.{transfer_kind, starts_chain, is_charged, amount_of, leg_charge, change_charge, fare_sum}
use Rattle.feed_rows.specs.JourneyEntries.{rides_price, IsEntry, IsOffered, IsMinimal}
use Rattle.feed_rows.specs.ParetoTriples.{at_most}
use Rattle.feed_rows.specs.EntryText.{journey_line, travel_lines, leg_line, leg_lines, fare_lines, entry_lines, lines_of_entries}
use Rattle.feed_rows.specs.MoneyText.{money_text}
use Rattle.feed_rows.specs.GeneratedTexts.{triple_line}
use Rattle.commands.specs.CommandTexts.{stats_line}
use Rattle.feed_laws.proofs.StandLaws.{places_of_paid, one_of_paid}
use Rattle.command_answers.specs.Due.{Task, DoTask}
use Rattle.command_answers.proofs.SmallFolder.{rows, no_category, on_the_day, stay, bus}

-- a text with `|` for each tab, as a line with its line feed
abbrev pub tabbed : List ℕ → List ℕ
tabbed [] = 10 ∷ []
tabbed (byte ∷ bytes) = (if byte == 124 then 9 else byte) ∷ tabbed bytes

-- no lines are none
no_lines : {X : Type 0} (x : X) (xs : List X) → [] ≡ x ∷ xs → ⊥
no_lines x xs e = let no = ap length e in absurd (omega (arith, no))

one_item : {X : Type 0} (P : X → Type 0) (x : X) → P x → All P (x ∷ [])
one_item P x holds zero d lt = holds
one_item P x holds (suc k) d lt = absurd (omega (arith, lt))

-- ---- check

-- two stops, a route, a trip, two stop times, a leg rule and no transfer rule
check_done : DoTask (Task.Checks rows) (tabbed (codes "accepted|2|1|1|2|1|0") ∷ [])
unfolding digits
check_done = refl

check_left : DoTask (Task.Checks rows) [] → ⊥
check_left are = no_lines _ _ are

-- ---- price

-- the ticket of the bus, by the rows of its rule and its product
abbrev ticket : ℕ → ℕ → Choice
ticket rule product =
    record { legs = record { rule = record { 0 = rule }; product = record { 0 = product } } ∷ []; changes = [] }

abbrev bus_leg : LegFacts
bus_leg =
    record {
      network = Some (record { 0 = 0 });
      from_areas = [];
      to_areas = [];
      from_frames = [];
      to_frames = [];
      departure = record { 0 = pos (on_the_day 28800) };
      arrival = record { 0 = pos (on_the_day 29400) };
    }

-- it is the only one
only_ticket : (rule product : ℕ) → is_fare_choice rows (bus_leg ∷ []) (ticket rule product) no_category ≡ true
    → ticket 0 0 ≡ ticket rule product
unfolding is_leg_paid is_fare_choice network_matches area_matches frame_matches rule_matches is_top_priority
    is_selected_rule is_open is_leg_choice
only_ticket zero zero e = refl
only_ticket zero (suc p) e = absurd (let no : false ≡ true = e in cc)
only_ticket (suc r) p e = absurd (let no : false ≡ true = e in cc)

only_choice : (choice : Choice) → is_fare_choice rows (bus_leg ∷ []) choice no_category ≡ true → ticket 0 0 ≡ choice
only_choice choice e =
    let one = one_of_paid rows no_category bus_leg choice e in
    let pick = one.0 in
    only_ticket pick.rule.0 pick.product.0
    (subst (λ (c : Choice). is_fare_choice rows (bus_leg ∷ []) c no_category ≡ true) one.1 e) ∙ sym one.1

its_sum : pos 250 ≡ fare_sum rows (ticket 0 0)
unfolding transfer_kind starts_chain is_charged amount_of leg_charge change_charge fare_sum
its_sum = refl

-- so no choice pays less
least_sum : (other : Choice) (sum : ℤ) → rides_price rows (bus ∷ []) other no_category ≡ Some sum → pos 250 ≤ℤ sum
unfolding is_ride ride_facts is_active shifts_of calls_of call_at legs_of leg_facts stop_areas holds_at
least_sum other sum paid =
    let both = cond_some (is_fare_choice rows (bus_leg ∷ []) other no_category) (fare_sum rows other) sum paid in
    let is : pos 250 ≡ sum = its_sum ∙ ap (λ (c : Choice). fare_sum rows c) (only_choice other both.0) ∙ both.1 in
    omega (arith, ints, is)

-- the lines tell the price of one ride and its ticket
price_done : DoTask (Task.Prices rows (record { rides = bus ∷ []; buyer = no_category }))
    (tabbed (codes "price|1|2.50|EUR") ∷ tabbed (codes "leg|1|buy|1|1|single||2.50") ∷ [])
unfolding is_ride ride_facts is_active shifts_of calls_of call_at legs_of leg_facts stop_areas holds_at network_matches
    area_matches frame_matches rule_matches is_top_priority is_selected_rule is_open is_leg_choice is_leg_paid
    is_fare_choice transfer_kind starts_chain is_charged amount_of leg_charge change_charge fare_sum leg_line leg_lines
    fare_lines money_text digits
price_done = (
  record {
    are_rides = one_item (λ ride. IsTrue (is_ride rows ride)) bus refl;
    goes_on = λ i lt. absurd (omega (arith, lt));
  },
  inl (ticket 0 0, pos 250, record { paid = refl; least = least_sum }, refl),
)

-- ---- plan

abbrev no_choice : Choice
no_choice = record { legs = []; changes = [] }

abbrev stay_triple : Triple
stay_triple = record { arrival = record { 0 = pos (on_the_day 28800) }; rides = 0; price = record { 0 = pos 0 } }

abbrev stay_entry : Entry
stay_entry =
    record {
      triple = stay_triple;
      journey = record { first = record { 0 = 0 }; last = record { 0 = 0 }; rides = [] };
      choice = no_choice;
    }

-- the stay at A is an entry of the query
stay_is : IsEntry rows stay stay_entry
unfolding stop_set legs_of is_fare_choice fare_sum
stay_is = record {
  journey = record {
    starts = refl;
    ends = refl;
    rides = λ i d lt. absurd (omega (arith, lt));
    few = omega arith;
    begins = refl;
    goes_on = λ i lt. absurd (omega (arith, lt));
    arrives = refl;
    in_time = omega (arith, ints);
  };
  rides = refl;
  price = refl;
}

triple_by : ℤ → ℕ → ℤ → Triple
triple_by arrival rides price = record { arrival = record { 0 = arrival }; rides = rides; price = record { 0 = price } }

same_triple : (a a' : ℤ) (n n' : ℕ) (z z' : ℤ) → a ≡ a' → n ≡ n' → z ≡ z' → triple_by a n z ≡ triple_by a' n' z'
same_triple a a' n n' z z' e f g = rw (e, f, g) refl

-- a choice of no leg is empty
no_leg : (legs : List LegChoice) (places : List (Option ChangeChoice)) →
    is_fare_choice rows [] (record { legs = legs; changes = places }) no_category ≡ true
    → no_choice ≡ record { legs = legs; changes = places }
unfolding is_fare_choice
no_leg [] [] e = refl
no_leg [] (place ∷ places) e =
    absurd (let no = (places_of_paid rows no_category [] (record { legs = []; changes = place ∷ places }) e).1 in
    omega (arith, no))
no_leg (pick ∷ picks) places e =
    absurd (let no = (places_of_paid rows no_category [] (record { legs = pick ∷ picks; changes = places }) e).0 in
    omega (arith, no))

-- each entry has its triple
only_entry : (e : Entry) → IsEntry rows stay e → stay_triple ≡ e.triple
unfolding triple_by stop_set legs_of fare_sum is_fare_choice
only_entry e is = by e.journey.rides refl
  where
    or_false : (b : Bool) → (b || false) ≡ true → b ≡ true
    or_false true h = refl
    or_false false h = h

    first : 0 ≡ e.journey.first.0
    first = eqb-true 0 e.journey.first.0 (or_false (0 == e.journey.first.0) is.journey.starts)

    last : 0 ≡ e.journey.last.0
    last = eqb-true 0 e.journey.last.0 (or_false (0 == e.journey.last.0) is.journey.ends)

    -- what stays arrives at the departure
    stays : (a b : ℕ) (t : ℤ) → 0 ≡ a → 0 ≡ b →
        option_map (λ s. stay.departure.0 +ℤ pos s) (direct rows (record { 0 = a }) (record { 0 = b })) ≡ Some t
        → stay.departure.0 ≡ t
    stays a b t ea eb h = same_Some _ t (rw (sym ea, sym eb) at h)

    by : (rides : List Ride) → e.journey.rides ≡ rides → stay_triple ≡ e.triple
    by [] none =
        let arrives : arrival_after rows stay e.journey 0 ≡ Some e.triple.arrival.0 =
        subst (λ (rs : List Ride). arrival_after rows stay e.journey (length rs) ≡ Some e.triple.arrival.0) none
        is.journey.arrives in
        let price : rides_price rows [] e.choice no_category ≡ Some e.triple.price.0 =
        subst (λ (rs : List Ride). rides_price rows rs e.choice no_category ≡ Some e.triple.price.0) none is.price in
        let paid = cond_some (is_fare_choice rows [] e.choice no_category) (fare_sum rows e.choice) e.triple.price.0 price in
        let choice = no_leg e.choice.legs e.choice.changes paid.0 in
        same_triple stay.departure.0 e.triple.arrival.0 0 e.triple.rides (pos 0) e.triple.price.0
        (stays e.journey.first.0 e.journey.last.0 e.triple.arrival.0 first last arrives)
        (sym (is.rides ∙ ap length none))
        (ap (λ (c : Choice). fare_sum rows c) choice ∙ paid.1)
    by (r ∷ rs) some =
        let most = is.journey.few in
        let long = ap length some in
        absurd (omega (arith, most, long))

-- what is offered has it too, so it is minimal and at most each
offered_is : (t : Triple) → IsOffered rows stay t → stay_triple ≡ t
offered_is t offered = only_entry offered.0 offered.1 ∙ offered.2

stay_is_minimal : IsMinimal rows stay stay_triple
stay_is_minimal = record {
  offered = (stay_entry, stay_is, refl);
  least = λ other offered below. sym (offered_is other offered);
}

at_most_each : (t : Triple) → IsOffered rows stay t → IsTrue (at_most stay_triple t)
at_most_each t offered = subst (λ (u : Triple). IsTrue (at_most stay_triple u)) (offered_is t offered) refl

day_is : date_text (pos 20241) ≡ codes "2025-06-02"
unfolding date_text date_of date_from_year date_in_year
day_is = refl

abbrev stay_lines : List (List ℕ)
stay_lines = tabbed (codes "journey|2025-06-02 08:00:00|0|0.00|EUR") ∷ tabbed (codes "stay|A") ∷ []

their_lines : stay_lines ≡ lines_of_entries rows (stay_entry ∷ [])
unfolding journey_line travel_lines fare_lines entry_lines money_text time_text digits
their_lines = rw day_is refl

-- the lines of the stay do the plan without a last line
plan_done : DoTask (Task.Plans rows stay false) stay_lines
plan_done = record {
  entries = stay_entry ∷ [];
  exact = record {
    right = one_item (IsEntry rows stay) stay_entry stay_is;
    minimal = one_item (λ e. IsMinimal rows stay e.triple) stay_entry stay_is_minimal;
    complete = λ t minimal. (0, omega arith, offered_is t minimal.offered);
    in_order = λ i j d lt lt'. absurd (omega (arith, lt, lt'));
  };
  covers = λ t offered. (0, stay_entry, omega arith, refl, at_most_each t offered);
  are_lines = their_lines;
}

-- no lines don't, since the stay is offered
plan_left : DoTask (Task.Plans rows stay false) [] → ⊥
unfolding entry_lines
plan_left are = by are.entries (are.covers stay_triple (stay_entry, stay_is, refl)).0
    (are.covers stay_triple (stay_entry, stay_is, refl)).2 are.are_lines
  where
    by : (entries : List Entry) (k : ℕ) → k < length entries → [] ≡ lines_of_entries rows entries → ⊥
    by [] k lt are = absurd (omega (arith, lt))
    by (e ∷ es) k lt are = no_lines _ _ are

-- the last of some lines
abbrev last_of : List (List ℕ) → List ℕ
last_of [] = []
last_of (l ∷ []) = l
last_of (l ∷ m ∷ ms) = last_of (m ∷ ms)

last_is : (ls : List (List ℕ)) (l : List ℕ) → last_of (ls ++ l ∷ []) ≡ l
last_is [] l = refl
last_is (k ∷ []) l = refl
last_is (k ∷ m ∷ ms) l = last_is (m ∷ ms) l

-- nor do its lines do the plan with a last line of statistics, which they lack
plan_without_stats : DoTask (Task.Plans rows stay true) stay_lines → ⊥
plan_without_stats are =
    let last : tabbed (codes "stay|A") ≡ stats_line (length are.table.labels) =
    ap last_of are.are_lines ∙ last_is (lines_of_entries rows are.entries) (stats_line (length are.table.labels)) in
    let no : 121 ≡ 116 = ap (λ (text : List ℕ). get_or text 3 0) last in
    omega (arith, no)

-- ---- gen

abbrev gen_done_lines : List (List ℕ)
gen_done_lines = tabbed (codes "gen|2|1|1|2") ∷ tabbed (codes "triple|2025-06-02 08:00:00|0|0.00") ∷ []

-- the line of the rows, and that of the one triple
gen_done : DoTask (Task.Generates rows stay) gen_done_lines
unfolding triple_line money_text time_text digits
gen_done = record {
  triples = stay_triple ∷ [];
  are_minimal = record {
    minimal = one_item (IsMinimal rows stay) stay_triple stay_is_minimal;
    complete = λ t minimal. (0, omega arith, offered_is t minimal.offered);
    in_order = λ i j d lt lt'. absurd (omega (arith, lt, lt'));
  };
  covers = λ t offered. (0, stay_triple, omega arith, refl, at_most_each t offered);
  are_lines = rw day_is refl;
}

gen_left : DoTask (Task.Generates rows stay) [] → ⊥
gen_left are = no_lines _ _ are.are_lines
