-- What a search keeps true from leg to leg, and that the cheapest of its ways is the least price.
use Rattle.std.proofs.Common.{◌≡◌, refl, sym, ◌∙◌, ap, subst, ℕ, zero, suc, ◌+◌, ◌-◌, ◌*◌, ◌^◌, ◌<◌, ◌≤◌, ◌⊎◌, inl, inr, ⊎_elim, Bool, true, false, List, [], ◌∷◌, ◌++◌, length, map, take, All, Contains, arith}
use Rattle.std.specs.Prelude.{Option, Some, None, ℤ, pos, ◌+ℤ◌, ◌≤ℤ◌, nat_abs, slice_get, if◌then◌else◌}
use Rattle.std.specs.Option.{option_map_or}
use Rattle.std.proofs.lemmas.Int.{ints}
use Rattle.std.proofs.lemmas.Option.{same_Some, slice_get_within, cond_some}
use Rattle.std.proofs.lemmas.List.Elements.{All-contains}
use Rattle.transit_base.specs.declared.moments.Money.{Money}
use Rattle.feed_rows.specs.declared.journeys.Buyer.{Buyer}
use Rattle.feed_rows.specs.declared.fares.Choice.{Choice}
use Rattle.feed_rows.specs.declared.journeys.LegFacts.{LegFacts}
use Rattle.feed_rows.specs.declared.states.FareState.{FareState}
use Rattle.feed_rows.specs.declared.states.Move.{Move}
use Rattle.feed_rows.specs.FeedRows.{FeedRows}
use Rattle.feed_rows.specs.SoundFeed.{IsSoundFeed}
use Rattle.feed_rows.specs.FareChoices.{is_fare_choice}
use Rattle.feed_rows.specs.FareExtensions.{extended, Extends}
use Rattle.feed_rows.specs.FareSteps.{move_after}
use Rattle.feed_rows.specs.FareStates.{held_amount, paid_amount, fare_state}
use Rattle.feed_rows.specs.FareSums.{fare_sum}
use Rattle.feed_rows.specs.LeastPrices.{IsLeastPriceOfLegs, AreUncoveredLegs}
use Rattle.plain_laws.specs.Plain.{when}
use Rattle.plain_laws.proofs.Laws.{slice_get-append_left, slice_get-append_right, Contains-slice_get, slice_get-Contains, Contains-map, map-tells, list_any_tells, list_any-place, All-from}
use Rattle.feed_laws.proofs.StandLaws.{places_of_paid}
use Rattle.feed_rows.specs.Amounts.{spent_by}
use Rattle.fare_laws.proofs.AmountLaws.{no_dearer-added}
use Rattle.fare_laws.proofs.LongerLaws.{IsMoveAfter, extends_by, made_by}
use Rattle.fare_laws.specs.SmallMoves.{IsSmall}
use Rattle.fare_laws.proofs.LeadLaws.{leads_too}
use Rattle.fare_laws.proofs.SmallLaws.{move_small}
use Rattle.fare_laws.proofs.StartLaws.{none_paid as no_leg_paid}
use Rattle.label_bag.specs.Bags.{covers, Gathers}
use Rattle.fare_automaton.specs.Fewest.{AreEnoughMoves}
use Rattle.fare_price.specs.declared.ways.Way.{Way}
use Rattle.fare_price.specs.Ways.{cost, is_as_good, IsBelow, way_by, IsBounded, IsMadeAfter, AddsWays, AreFirstWays, IsAfterOne, AreNextWays, no_choice, choice_of, IsTraced, IsStateOf, IsReal, HasNoDearer, AreWaysOf}
use Rattle.fare_price.specs.WayLaws.{is_as_good-tells, is_as_good-from, below_trans}
use Rattle.fare_price.proofs.GatherLaws.{take_next}

-- ---- what covers

-- a member that is as good
record HasBelow (ways : List Way) (way : Way) : Type 0 where
  pub member : Way
  pub is_in : Contains ways member
  pub below : IsBelow member way

has_below : (ways : List Way) (way : Way) → covers is_as_good ways way ≡ true → HasBelow ways way
has_below ways way covered =
    let found = list_any_tells (λ m. is_as_good m way) ways covered in
    record { member = found.0; is_in = found.1; below = is_as_good-tells found.0 way found.2 }

covered_by : (ways : List Way) (member way : Way) → Contains ways member → IsBelow member way → covers is_as_good ways way ≡ true
covered_by ways member way is_in below =
    let at = slice_get-Contains ways member is_in in
    list_any-place (λ m. is_as_good m way) ways at.0 member at.1 (is_as_good-from member way below)

-- what covers a way covers what that is as good as
covers_above : (ways : List Way) (a b : Way) → covers is_as_good ways a ≡ true → IsBelow a b → covers is_as_good ways b ≡ true
covers_above ways a b covered below =
    let has = has_below ways a covered in
    covered_by ways has.member b has.is_in (below_trans has.member a b has.below below)

-- ---- moves

pub moves_small : (feed : FeedRows) (buyer : Buyer) (state : Option FareState) (held : ℤ) (leg : LegFacts) (moves : List Move) →
    IsSoundFeed feed → nat_abs held ≤ 10 ^ 12 → AreEnoughMoves feed buyer state held leg moves → All IsSmall moves
moves_small feed buyer state held leg moves sound low enough =
    All-from IsSmall moves (λ move at.
    move_small feed buyer state held leg move sound low
    (All-contains (λ m. move_after feed buyer state held leg m ≡ Some m) moves move enough.right at))

-- ---- ways that are added

-- enough moves that were offered add the ways by all moves
pub adds_by_moves : (feed : FeedRows) (buyer : Buyer) (leg : LegFacts) (state : Option FareState) (held paid : ℤ)
    (number : ℕ) (moves : List Move) (old new : List Way) → AreEnoughMoves feed buyer state held leg moves →
    Gathers is_as_good old (map (way_by paid number) moves) new → AddsWays feed buyer leg state held paid number old new
adds_by_moves feed buyer leg state held paid number moves old new enough gathers = record {
  still = gathers.still;
  each = λ move is.
      let lesser = enough.enough move is in
      covers_above new (way_by paid number lesser.0) (way_by paid number move)
      (All-contains (λ x. covers is_as_good new x ≡ true) (map (way_by paid number) moves) (way_by paid number lesser.0) gathers.each
      (Contains-map (way_by paid number) moves lesser.0 lesser.1))
      (record {
        state = lesser.2.state;
        spent = no_dearer-added paid (spent_by lesser.0) (spent_by move) lesser.2.cost;
      });
  from = λ way at. by way (All-contains (λ x. Contains old x ⊎ Contains (map (way_by paid number) moves) x) new way gathers.from at);
}
  where
    made : (way : Way) → Contains (map (way_by paid number) moves) way → IsMadeAfter feed buyer leg state held paid number way
    made way at =
        let found = map-tells (way_by paid number) moves way at in
        subst (IsMadeAfter feed buyer leg state held paid number) found.2
        (record {
          is = All-contains (λ m. move_after feed buyer state held leg m ≡ Some m) moves found.0 enough.right found.1;
          same = refl;
        })

    by : (way : Way) → Contains old way ⊎ Contains (map (way_by paid number) moves) way →
        Contains old way ⊎ IsMadeAfter feed buyer leg state held paid number way
    by way (inl was) = inl was
    by way (inr one) = inr (made way one)

no_member : {A : Type 0} (way : Way) → Contains [] way → A
no_member way none = let lt = none.1 in absurd (omega arith)

-- after no way
pub next_none : (feed : FeedRows) (buyer : Buyer) (leg : LegFacts) (base : ℕ) (ways new : List Way) → new ≡ [] →
    AreNextWays feed buyer leg base ways 0 new
next_none feed buyer leg base ways new none =
    subst (AreNextWays feed buyer leg base ways 0) (sym none)
    (record {
      each = λ place last move lt at is. absurd (omega (arith, lt));
      from = λ way at. no_member way at;
    })

-- after one way more
pub next_more : (feed : FeedRows) (buyer : Buyer) (leg : LegFacts) (base : ℕ) (ways : List Way) (n : ℕ) (last : Way)
    (old new : List Way) → slice_get ways n ≡ Some last → AreNextWays feed buyer leg base ways n old →
    AddsWays feed buyer leg (Some last.step.state) last.step.held.0 last.paid.0 (base + n) old new →
    AreNextWays feed buyer leg base ways (n + 1) new
next_more feed buyer leg base ways n last old new at before adds = record {
  each = λ place own move lt is moves. each place own move lt is moves (cases place lt);
  from = λ way is_in. by way (adds.from way is_in);
}
  where
    cases : (place : ℕ) → place < n + 1 → (place < n) ⊎ (place ≡ n)
    cases place lt = omega_split place n lt
      where
        omega_split : (p m : ℕ) → p < m + 1 → (p < m) ⊎ (p ≡ m)
        omega_split p zero lt = inr (omega (arith, lt))
        omega_split zero (suc m) lt = inl (omega arith)
        omega_split (suc p) (suc m) lt = ⊎_elim (λ (l : p < m). inl (omega (arith, l))) (λ (e : p ≡ m). inr (ap suc e)) (omega_split p m (omega (arith, lt)))

    each : (place : ℕ) (own : Way) (move : Move) → place < n + 1 → slice_get ways place ≡ Some own
        → move_after feed buyer (Some own.step.state) own.step.held.0 leg move ≡ Some move
        → (place < n) ⊎ (place ≡ n)
        → covers is_as_good new (way_by own.paid.0 (base + place) move) ≡ true
    each place own move lt is moves (inl less) = adds.still _ (before.each place own move less is moves)
    each place own move lt is moves (inr same) =
        let one : own ≡ last = same_Some own last (sym is ∙ ap (slice_get ways) same ∙ at) in
        subst (λ (p : ℕ). covers is_as_good new (way_by own.paid.0 (base + p) move) ≡ true) (sym same)
        (subst (λ (w : Way). covers is_as_good new (way_by w.paid.0 (base + n) move) ≡ true) (sym one)
        (adds.each move (subst (λ (w : Way). move_after feed buyer (Some w.step.state) w.step.held.0 leg move ≡ Some move) one moves)))

    by : (way : Way) → Contains old way ⊎ IsMadeAfter feed buyer leg (Some last.step.state) last.step.held.0 last.paid.0 (base + n) way →
        IsAfterOne feed buyer leg base ways way
    by way (inl was) = before.from way was
    by way (inr made) = record { place = n; last = last; at = at; made = made }

-- ---- steps that are put behind others

still_there : (steps more : List Way) (i : ℕ) (way : Way) → slice_get steps i ≡ Some way → slice_get (steps ++ more) i ≡ Some way
still_there steps more i way is = slice_get-append_left steps more i (slice_get_within steps i way is) ∙ is

IsTraced-append : (steps more : List Way) (n : ℕ) (way : Way) → IsTraced steps n way → IsTraced (steps ++ more) n way
IsTraced-append steps more zero way traced = tt
IsTraced-append steps more (suc n) way traced = (
  traced.0,
  still_there steps more way.before traced.0 traced.1,
  IsTraced-append steps more n traced.0 traced.2,
)

choice_of-suc : (steps : List Way) (n : ℕ) (way before : Way) → slice_get steps way.before ≡ Some before →
    choice_of steps (suc n) way ≡ extended (choice_of steps n before) way.step
choice_of-suc steps n way before is = ap (λ o. extended (option_map_or (choice_of steps n) o no_choice) way.step) is

choice_of-append : (steps more : List Way) (n : ℕ) (way : Way) → IsTraced steps n way →
    choice_of (steps ++ more) n way ≡ choice_of steps n way
choice_of-append steps more zero way traced = refl
choice_of-append steps more (suc n) way traced =
    choice_of-suc (steps ++ more) n way traced.0 (still_there steps more way.before traced.0 traced.1)
    ∙ ap (λ c. extended c way.step) (choice_of-append steps more n traced.0 traced.2)
    ∙ sym (choice_of-suc steps n way traced.0 traced.1)

-- ---- one leg more than a choice pays

module _ (feed : FeedRows) (buyer : Buyer) (legs : List LegFacts) (leg : LegFacts) where
  -- what a way says of its choice, by the move that extends the choice before
  state_after : (choice : Choice) (paid : ℤ) (number : ℕ) (move : Move) → paid_amount feed choice ≡ paid →
      Extends feed buyer legs choice leg move → IsStateOf feed (legs ++ leg ∷ []) (extended choice move) (way_by paid number move)
  state_after choice paid number move is extends = record {
    state = extends.state;
    paid = extends.paid ∙ ap (λ (z : ℤ). z +ℤ move.paid.0) is;
    held = extends.held;
  }

  -- beside a longer choice stands what covers a way that leads to its state, and has paid no more
  no_dearer_after : (choice : Choice) (paid : ℤ) (number : ℕ) (move move' : Move) (new : List Way) → Extends feed buyer legs choice leg move' →
      covers is_as_good new (way_by paid number move) ≡ true → move.state ≡ move'.state → move.held.0 ≡ move'.held.0 →
      (paid +ℤ move.paid.0) ≤ℤ (paid_amount feed choice +ℤ move'.paid.0) →
      HasNoDearer feed (legs ++ leg ∷ []) new (extended choice move')
  no_dearer_after choice paid number move move' new extends covered state held less =
      let has = has_below new (way_by paid number move) covered in
      record {
        way = has.member;
        is_in = has.is_in;
        state = extends.state ∙ ap Some (sym (has.below.state ∙ state));
        spent = record {
          paid = no_more _ _ _ _ has.below.spent.paid less extends.paid;
          price = no_more_held _ _ _ _ _ _ _ has.below.spent.price less extends.paid extends.held held;
        };
      }
    where
      no_more : (a b c d : ℤ) → a ≤ℤ b → b ≤ℤ c → d ≡ c → a ≤ℤ d
      no_more a b c d p q e = omega (arith, ints, p, q, e)

      no_more_held : (a b h c d k l : ℤ) → a ≤ℤ (b +ℤ h) → b ≤ℤ c → d ≡ c → k ≡ l → h ≡ l → a ≤ℤ (d +ℤ k)
      no_more_held a b h c d k l p q e f g = omega (arith, ints, p, q, e, f, g)

-- ---- the first leg

module _ (feed : FeedRows) (buyer : Buyer) (leg : LegFacts) (steps new : List Way) (sound : IsSoundFeed feed)
    (first : AreFirstWays feed buyer leg new) where
  none_paid : is_fare_choice feed [] no_choice buyer ≡ true
  unfolding is_fare_choice
  none_paid = refl

  none_is_paid : paid_amount feed no_choice ≡ pos 0
  unfolding paid_amount held_amount fare_sum
  none_is_paid = refl

  first_move_of : (move : Move) → move_after feed buyer None (pos 0) leg move ≡ Some move → IsMoveAfter feed buyer [] no_choice leg move
  unfolding fare_state held_amount
  first_move_of move is = is

  first_real : (way : Way) → IsMadeAfter feed buyer leg None (pos 0) (pos 0) 0 way → IsReal feed buyer (leg ∷ []) steps 0 way
  first_real way made =
      let extends = extends_by feed buyer [] no_choice leg way.step none_paid (first_move_of way.step made.is) in
      let small = move_small feed buyer None (pos 0) leg way.step sound (omega arith) made.is in
      record {
        traced = tt;
        pays = extends.pays;
        of = subst (IsStateOf feed (leg ∷ []) (extended no_choice way.step)) made.same
            (state_after feed buyer [] leg no_choice (pos 0) 0 way.step none_is_paid extends);
        bounded = subst (IsBounded 1) made.same (record { paid = alone way.step.paid.0 small.paid; held = small.held });
      }
    where
      alone : (p : ℤ) → nat_abs p ≤ 3 * 10 ^ 12 → nat_abs (pos 0 +ℤ p) ≤ 1 * (3 * 10 ^ 12)
      alone p le = omega (arith, ints, le)

  first_complete : (longer : Choice) → is_fare_choice feed (leg ∷ []) longer buyer ≡ true → HasNoDearer feed (leg ∷ []) new longer
  unfolding fare_state held_amount
  first_complete longer pays =
      let made = made_by feed buyer [] leg longer pays in
      let none = none_of made.choice made.pays in
      let start : IsMoveAfter feed buyer [] no_choice leg made.move =
      subst (λ (c : Choice). IsMoveAfter feed buyer [] c leg made.move) none made.is in
      let extends = extends_by feed buyer [] no_choice leg made.move none_paid start in
      subst (HasNoDearer feed (leg ∷ []) new) (ap (λ (c : Choice). extended c made.move) (sym none) ∙ sym made.same)
      (no_dearer_after feed buyer [] leg no_choice (pos 0) 0 made.move made.move new extends (first.each made.move start) refl refl
      (same_paid _ _ none_is_paid))
    where
      same_paid : (p q : ℤ) → p ≡ pos 0 → (pos 0 +ℤ q) ≤ℤ (p +ℤ q)
      same_paid p q e = omega (arith, ints, e)

      none_of : (choice : Choice) → is_fare_choice feed [] choice buyer ≡ true → choice ≡ no_choice
      none_of choice is = no_leg_paid feed buyer choice is

  pub first_layer : AreWaysOf feed buyer (leg ∷ []) steps 0 new
  first_layer = record {
    real = λ way at. ⊎_elim (λ (none : Contains [] way). no_member way none) (first_real way) (first.from way at);
    complete = first_complete;
  }

-- ---- one leg more

module _ (feed : FeedRows) (buyer : Buyer) (legs : List LegFacts) (leg : LegFacts) (steps ways new : List Way) (n : ℕ)
    (sound : IsSoundFeed feed) (before : AreWaysOf feed buyer legs steps n ways)
    (next : AreNextWays feed buyer leg (length steps) ways (length ways) new) where
  next_real : (way : Way) → IsAfterOne feed buyer leg (length steps) ways way → IsReal feed buyer (legs ++ leg ∷ []) (steps ++ ways) (suc n) way
  next_real way after =
      let last = after.last in
      let real = before.real last (Contains-slice_get ways after.place last after.at) in
      let choice = choice_of steps n last in
      let is : IsMoveAfter feed buyer legs choice leg way.step =
      subst (λ (s : Option FareState). move_after feed buyer s (held_amount feed choice) leg way.step ≡ Some way.step) (sym real.of.state)
      (subst (λ (h : ℤ). move_after feed buyer (Some last.step.state) h leg way.step ≡ Some way.step) (sym real.of.held) after.made.is) in
      let extends = extends_by feed buyer legs choice leg way.step real.pays is in
      let small = move_small feed buyer (Some last.step.state) last.step.held.0 leg way.step sound real.bounded.held after.made.is in
      let number : way.before ≡ length steps + after.place = sym (ap (λ (w : Way). w.before) after.made.same) in
      let there : slice_get (steps ++ ways) way.before ≡ Some last =
      ap (slice_get (steps ++ ways)) number ∙ slice_get-append_right steps ways after.place ∙ after.at in
      let same : extended choice way.step ≡ choice_of (steps ++ ways) (suc n) way =
      sym (choice_of-suc (steps ++ ways) n way last there ∙ ap (λ c. extended c way.step) (choice_of-append steps ways n last real.traced)) in
      record {
        traced = (last, there, IsTraced-append steps ways n last real.traced);
        pays = subst (λ (c : Choice). is_fare_choice feed (legs ++ leg ∷ []) c buyer ≡ true) same extends.pays;
        of = subst (λ (c : Choice). IsStateOf feed (legs ++ leg ∷ []) c way) same
            (subst (IsStateOf feed (legs ++ leg ∷ []) (extended choice way.step)) after.made.same
            (state_after feed buyer legs leg choice last.paid.0 (length steps + after.place) way.step real.of.paid extends));
        bounded = subst (IsBounded (suc n + 1)) after.made.same
            (record { paid = more last.paid.0 way.step.paid.0 real.bounded.paid small.paid; held = small.held });
      }
    where
      more : (p q : ℤ) → nat_abs p ≤ (n + 1) * (3 * 10 ^ 12) → nat_abs q ≤ 3 * 10 ^ 12 → nat_abs (p +ℤ q) ≤ (suc n + 1) * (3 * 10 ^ 12)
      more p q le le' = omega (arith, ints, le, le')

  next_complete : (longer : Choice) → is_fare_choice feed (legs ++ leg ∷ []) longer buyer ≡ true →
      HasNoDearer feed (legs ++ leg ∷ []) new longer
  next_complete longer pays =
      let made = made_by feed buyer legs leg longer pays in
      let has = before.complete made.choice made.pays in
      let way = has.way in
      let at = slice_get-Contains ways way has.is_in in
      let extends = extends_by feed buyer legs made.choice leg made.move made.pays made.is in
      let from_state : move_after feed buyer (Some way.step.state) (held_amount feed made.choice) leg made.move ≡ Some made.move =
      subst (λ (s : Option FareState). move_after feed buyer s (held_amount feed made.choice) leg made.move ≡ Some made.move) has.state made.is in
      let too =
      leads_too feed buyer (Some way.step.state) way.paid.0 way.step.held.0 (paid_amount feed made.choice) (held_amount feed made.choice) leg made.move
      has.spent.paid has.spent.price from_state in
      subst (HasNoDearer feed (legs ++ leg ∷ []) new) (sym made.same)
      (no_dearer_after feed buyer legs leg made.choice way.paid.0 (length steps + at.0) too.move made.move new extends
      (next.each at.0 way too.move (slice_get_within ways at.0 way at.1) at.1 too.is) too.state_is (ap (λ (h : Money). h.0) too.held_is) too.paid_less)

  pub next_layer : AreWaysOf feed buyer (legs ++ leg ∷ []) (steps ++ ways) (suc n) new
  next_layer = record {
    real = λ way at. next_real way (next.from way at);
    complete = next_complete;
  }

-- ---- the least price

module _ (feed : FeedRows) (buyer : Buyer) (legs : List LegFacts) (steps ways : List Way) (n : ℕ)
    (are : AreWaysOf feed buyer legs steps n ways) where
  -- what is paid and what is held are the sum
  both_parts : (choice : Choice) → (paid_amount feed choice +ℤ held_amount feed choice) ≡ fare_sum feed choice
  unfolding paid_amount
  both_parts choice = omega (arith, ints)

  -- the cheapest of the ways has the least price
  pub least_way : (way : Way) → Contains ways way → All (λ (w : Way). cost way ≤ℤ cost w) ways →
      IsLeastPriceOfLegs feed legs buyer (choice_of steps n way) (cost way)
  least_way way at cheapest =
      let r = are.real way at in
      record {
        paid = ap (λ b. when b (fare_sum feed (choice_of steps n way))) r.pays
            ∙ ap Some (sym (both_parts (choice_of steps n way)) ∙ sum_of _ _ _ _ r.of.paid r.of.held);
        least = λ other sum is.
            let parts = cond_some (is_fare_choice feed legs other buyer) (fare_sum feed other) sum is in
            let has = are.complete other parts.0 in
            chain _ _ _ _ _ (All-contains (λ (w : Way). cost way ≤ℤ cost w) ways has.way cheapest has.is_in)
            has.spent.price (both_parts other) parts.1;
      }
    where
      sum_of : (p q h k : ℤ) → p ≡ q → h ≡ k → p +ℤ h ≡ q +ℤ k
      sum_of p q h k e f = rw (e, f) refl

      chain : (a b c d e : ℤ) → a ≤ℤ b → b ≤ℤ c → c ≡ d → d ≡ e → a ≤ℤ e
      chain a b c d e p q r s = omega (arith, ints, p, q, r, s)

  -- where there is no way no choice pays the legs
  pub no_way : ways ≡ [] → AreUncoveredLegs feed legs buyer
  no_way none choice = by (is_fare_choice feed legs choice buyer) refl
    where
      by : (b : Bool) → is_fare_choice feed legs choice buyer ≡ b → when b (fare_sum feed choice) ≡ None
      by false is = refl
      by true is =
          let has = are.complete choice is in
          no_member has.way (subst (λ (ws : List Way). Contains ws has.way) none has.is_in)

-- no legs cost nothing
pub no_legs : (feed : FeedRows) (buyer : Buyer) → IsLeastPriceOfLegs feed [] buyer no_choice (pos 0)
unfolding is_fare_choice fare_sum
no_legs feed buyer = record {
  paid = refl;
  least = λ other sum is.
      let parts = cond_some (is_fare_choice feed [] other buyer) (fare_sum feed other) sum is in
      let places = places_of_paid feed buyer [] other parts.0 in
      costs other sum places.0 places.1 parts.1;
}
  where
    costs : (other : Choice) (sum : ℤ) → length other.legs ≡ 0 → length other.changes ≡ 0 → fare_sum feed other ≡ sum →
        pos 0 ≤ℤ sum
    costs other sum none none' is =
        let zero_sum : pos 0 ≡ sum = rw (none, none') at is in
        omega (arith, ints, zero_sum)

-- ---- the first legs

-- the first layer, as the first of all legs
pub first_layer-take : (feed : FeedRows) (buyer : Buyer) (legs : List LegFacts) (leg : LegFacts) (steps : List Way)
    (new : List Way) → IsSoundFeed feed → slice_get legs 0 ≡ Some leg → AreFirstWays feed buyer leg new →
    AreWaysOf feed buyer (take 1 legs) steps 0 new
first_layer-take feed buyer [] leg steps new sound is first = absurd (cc)
first_layer-take feed buyer (x ∷ xs) leg steps new sound is first =
    let same : leg ≡ x = same_Some _ _ (sym is) in
    let one : leg ∷ [] ≡ take 1 (x ∷ xs) = ap (λ (y : LegFacts). y ∷ []) same ∙ one_of x xs in
    subst (λ (ls : List LegFacts). AreWaysOf feed buyer ls steps 0 new) one (first_layer feed buyer leg steps new sound first)
  where
    one_of : (y : LegFacts) (ys : List LegFacts) → y ∷ [] ≡ take 1 (y ∷ ys)
    one_of y ys = refl

-- and one leg more of them
pub next_layer-take : (feed : FeedRows) (buyer : Buyer) (legs : List LegFacts) (leg : LegFacts)
    (steps ways : List Way) (n : ℕ) (new more : List Way) → IsSoundFeed feed → slice_get legs (n + 1) ≡ Some leg →
    AreWaysOf feed buyer (take (n + 1) legs) steps n ways →
    AreNextWays feed buyer leg (length steps) ways (length ways) new → more ≡ steps ++ ways →
    AreWaysOf feed buyer (take ((n + 1) + 1) legs) more (n + 1) new
next_layer-take feed buyer legs leg steps ways n new more sound is before next kept =
    let step = next_layer feed buyer (take (n + 1) legs) leg steps ways new n sound before next in
    let longer : take (n + 1) legs ++ leg ∷ [] ≡ take ((n + 1) + 1) legs = sym (take_next legs (n + 1) leg is) in
    let count : suc n ≡ n + 1 = omega arith in
    subst (λ (ls : List LegFacts). AreWaysOf feed buyer ls more (n + 1) new) longer
    (subst (λ (ss : List Way). AreWaysOf feed buyer (take (n + 1) legs ++ leg ∷ []) ss (n + 1) new) (sym kept)
    (subst (λ (m : ℕ). AreWaysOf feed buyer (take (n + 1) legs ++ leg ∷ []) (steps ++ ways) m new) count step))

-- what is bounded over n + 1 legs is bounded over more
pub bounded_more : (m n : ℕ) (way : Way) → m ≤ n → IsBounded m way → IsBounded n way
bounded_more m n way le b = record { paid = more (nat_abs way.paid.0) b.paid; held = b.held }
  where
    more : (p : ℕ) → p ≤ m * (3 * 10 ^ 12) → p ≤ n * (3 * 10 ^ 12)
    more p at = omega (arith, at, le)

pub ways_bounded : (feed : FeedRows) (buyer : Buyer) (legs : List LegFacts) (steps ways : List Way) (n m : ℕ) →
    AreWaysOf feed buyer legs steps n ways → n + 1 ≤ m → All (IsBounded m) ways
ways_bounded feed buyer legs steps ways n m are le =
    All-from (IsBounded m) ways (λ way at. bounded_more (n + 1) m way le (are.real way at).bounded)

-- the steps to a way, where there is a change
pub choice_of-step : (steps : List Way) (n : ℕ) (way : Way) (o : Option Way) → 0 < n → slice_get steps way.before ≡ o →
    extended (option_map_or (choice_of steps (n - 1)) o no_choice) way.step ≡ choice_of steps n way
choice_of-step steps zero way o some is = absurd (omega arith)
choice_of-step steps (suc n) way o some is =
    let before : suc n - 1 ≡ n = omega arith in
    ap (λ (m : ℕ). extended (option_map_or (choice_of steps m) o no_choice) way.step) before
    ∙ sym (ap (λ p. extended (option_map_or (choice_of steps n) p no_choice) way.step) is)
