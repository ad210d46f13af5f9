-- A partial journey goes on by a ride to one with one more.
use Rattle.std.proofs.Common.{◌≡◌, refl, sym, ◌∙◌, ap, subst, ℕ, suc, ◌+◌, ◌<◌, ◌≤◌, ◌⊎◌, inl, inr, true, List, [], ◌∷◌, ◌++◌, length, arith, add-one, ℤ, ◌+ℤ◌}
use Rattle.std.specs.Prelude.{Option, Some, option_map, option_and_then, IsTrue, IsSome}
use Rattle.std.proofs.lemmas.Bool.{cases_lt, ne_eqb}
use Rattle.std.proofs.lemmas.List.{length_push}
use Rattle.std.proofs.lemmas.List.Elements.{All-push}
use Rattle.transit_base.specs.declared.numbers.StopId.{StopId}
use Rattle.feed_rows.specs.declared.journeys.LegFacts.{LegFacts}
use Rattle.feed_rows.specs.declared.journeys.Query.{Query}
use Rattle.feed_rows.specs.declared.journeys.Ride.{Ride}
use Rattle.feed_rows.specs.declared.journeys.RideFacts.{RideFacts}
use Rattle.feed_rows.specs.declared.states.FareState.{FareState}
use Rattle.feed_rows.specs.declared.states.Move.{Move}
use Rattle.feed_rows.specs.FareExtensions.{extended, Extends}
use Rattle.feed_rows.specs.FareStates.{held_amount, fare_state}
use Rattle.feed_rows.specs.FareSteps.{is_whole, move_after}
use Rattle.feed_rows.specs.FeedRows.{FeedRows}
use Rattle.feed_rows.specs.JourneyEntries.{rides_price}
use Rattle.feed_rows.specs.Journeys.{facts_at, is_caught, catches_first, catches_next}
use Rattle.feed_rows.specs.JourneyStands.{Stand, first_stand, stand_at_end, way_to}
use Rattle.feed_rows.specs.Legs.{leg_facts, legs_of}
use Rattle.feed_rows.specs.PartialJourneys.{PartialJourney, LabelFacts, IsPartialJourney, arrives_in_window, stop_after, time_after, journey_to}
use Rattle.feed_rows.specs.Rides.{is_ride, ride_facts}
use Rattle.feed_rows.specs.RoundTables.{with_ride}
use Rattle.plain_laws.proofs.Laws.{slice_get-append_left, slice_get-push_last, le-int_le}
use Rattle.feed_laws.proofs.ChoiceLaws.{legs_of-push}
use Rattle.feed_laws.proofs.JourneyLaws.{is_ride-of_facts}
use Rattle.round_laws.specs.LabelSteps.{HasFacts, stand_of_facts, facts_after, latest, IsCaughtRide, IsLabelStep}
use Rattle.fare_laws.proofs.LongerLaws.{IsMoveAfter, extends_by}
use Rattle.round_laws.proofs.PartLaws.{HasParts, parts_of_facts, facts_of_parts, at_start, at_last, part_paid}

-- ---- rides with one more

module _ (feed : FeedRows) (rides : List Ride) (ride : Ride) where
  -- the rides before stay
  pub facts_before : (i : ℕ) → i < length rides → facts_at feed (rides ++ ride ∷ []) i ≡ facts_at feed rides i
  facts_before i lt = ap (option_and_then (ride_facts feed)) (slice_get-append_left rides (ride ∷ []) i lt)

  -- and the new one is the last
  pub facts_last : facts_at feed (rides ++ ride ∷ []) (length rides) ≡ ride_facts feed ride
  facts_last = ap (option_and_then (ride_facts feed)) (slice_get-push_last rides ride (length rides) refl)

  -- so of two rides before the new one, the one is caught from the other as without it
  pub catches_next_before : (i : ℕ) → i + 1 < length rides →
      catches_next feed (rides ++ ride ∷ []) i ≡ catches_next feed rides i
  catches_next_before i lt =
      let one = facts_before i (omega (arith, lt)) in
      let two = facts_before (i + 1) lt in
      rw (one, two) refl

  -- and so is the first ride
  pub catches_first_before : (query : Query) (first last : StopId) → 0 < length rides →
      catches_first feed query (record { first = first; last = last; rides = rides ++ ride ∷ [] })
      ≡ catches_first feed query (record { first = first; last = last; rides = rides })
  catches_first_before query first last some =
      let at = facts_before 0 some in
      let long = length_push rides ride in
      let longer = ne_eqb (length (rides ++ ride ∷ [])) 0 (λ e. omega (arith, e, long)) in
      let shorter = ne_eqb (length rides) 0 (λ e. omega (arith, e, some)) in
      rw (longer, shorter, at) refl

-- ---- going on

-- the partial journey with one more ride, which nothing pays yet
abbrev longer_by : PartialJourney → Ride → PartialJourney
longer_by part ride = record part { rides = part.rides ++ ride ∷ [] }

module _ (feed : FeedRows) (query : Query) (before : PartialJourney) (a : LabelFacts) (ride : Ride) (facts : RideFacts)
    (has : HasFacts feed query before a) (caught : IsCaughtRide feed query a ride facts) where
  -- the new ride goes so
  new_facts : facts_at feed (before.rides ++ ride ∷ []) (length before.rides) ≡ Some facts
  new_facts = facts_last feed before.rides ride ∙ caught.is

  long : length (before.rides ++ ride ∷ []) ≡ suc (length before.rides)
  long = length_push before.rides ride ∙ add-one (length before.rides)

  parts : HasParts feed query before a
  parts = parts_of_facts feed query before a has.facts

  -- it is caught from where one stands before it
  caught_from : (stand : Stand) → stand ≡ stand_of_facts a →
      is_caught stand.at (way_to feed query stand facts.from) facts ≡ true
  caught_from stand same =
      subst (λ (p : Stand). is_caught p.at (way_to feed query p facts.from) facts ≡ true) (sym same) caught.caught

  begins_too : catches_first feed query (journey_to before.first (longer_by before ride)) ≡ true
  begins_too = by (cases_lt 0 (length before.rides))
    where
      by : (0 < length before.rides) ⊎ (length before.rides ≤ 0) →
          catches_first feed query (journey_to before.first (longer_by before ride)) ≡ true
      by (inl some) =
          catches_first_before feed before.rides ride query before.first before.first some ∙ has.partial.begins
      by (inr none) =
          let no_rides : length before.rides ≡ 0 = omega (arith, none) in
          let from_first = caught_from (first_stand query before.first) (at_start feed query before a parts no_rides) in
          let longer = ne_eqb (length (before.rides ++ ride ∷ [])) 0 (λ e. omega (arith, e, long)) in
          let at = ap (facts_at feed (before.rides ++ ride ∷ [])) (sym no_rides) ∙ new_facts in
          rw (longer, at) from_first

  goes_on_too : (i : ℕ) → i + 1 < length (before.rides ++ ride ∷ []) →
      catches_next feed (before.rides ++ ride ∷ []) i ≡ true
  goes_on_too i lt = by (cases_lt (i + 1) (length before.rides))
    where
      by : (i + 1 < length before.rides) ⊎ (length before.rides ≤ i + 1) →
          catches_next feed (before.rides ++ ride ∷ []) i ≡ true
      by (inl inside) = catches_next_before feed before.rides ride i inside ∙ has.partial.goes_on i inside
      by (inr last) =
          let here : length before.rides ≡ suc i = omega (arith, last, lt, long) in
          let s = at_last feed query before a i parts here in
          let from_last = caught_from (stand_at_end s.ride) s.stands in
          let one = facts_before feed before.rides ride i (omega (arith, here)) ∙ s.is in
          let place : i + 1 ≡ length before.rides = omega (arith, here) in
          let two = ap (facts_at feed (before.rides ++ ride ∷ [])) place ∙ new_facts in
          rw (one, two) from_last

  -- the legs with the new one
  legs_too : (legs : List LegFacts) → legs_of feed before.rides ≡ Some legs →
      legs_of feed (before.rides ++ ride ∷ []) ≡ Some (legs ++ leg_facts feed facts ∷ [])
  legs_too legs is =
      let goes = caught.is in
      legs_of-push feed before.rides ride ∙ rw (is, goes) refl

  -- the partial journey with the new ride, where a move pays it
  partial_too : (move : Move) (legs : List LegFacts) → legs_of feed before.rides ≡ Some legs →
      Extends feed query.buyer legs before.choice (leg_facts feed facts) move →
      IsPartialJourney feed query (with_ride before ride move)
  partial_too move legs is e = record {
    starts = has.partial.starts;
    rides =
        All-push (λ (r : Ride). IsTrue (is_ride feed r)) before.rides ride has.partial.rides
        (is_ride-of_facts feed ride facts caught.is);
    few = omega (arith, long, parts.rides, caught.few);
    begins = begins_too;
    goes_on = goes_on_too;
    in_time =
        All-push (λ (r : Ride). IsTrue (arrives_in_window feed query r)) before.rides ride has.partial.in_time
        in_window;
    pays = paid;
  }
    where
      in_window : arrives_in_window feed query ride ≡ true
      in_window =
          let goes = caught.is in
          rw goes (le-int_le facts.arrival.0 (latest query) caught.in_time)

      paid : IsSome (rides_price feed (before.rides ++ ride ∷ []) (extended before.choice move) query.buyer)
      paid =
          let known = legs_too legs is in
          let pays = e.pays in
          rw (known, pays) refl

  -- and its facts
  parts_too : (move : Move) (legs : List LegFacts) → legs_of feed before.rides ≡ Some legs →
      Extends feed query.buyer legs before.choice (leg_facts feed facts) move →
      HasParts feed query (with_ride before ride move) (facts_after a facts move)
  parts_too move legs is e =
      let part = with_ride before ride move in
      record {
        legs = legs ++ leg_facts feed facts ∷ [];
        is = legs_too legs is;
        stop = ap (stop_after feed part) long ∙ ap (option_map (λ (r : RideFacts). r.to)) new_facts;
        time = ap (time_after feed query part) long ∙ ap (option_map (λ (r : RideFacts). r.arrival.0)) new_facts;
        rides = length_push before.rides ride ∙ ap (λ (n : ℕ). n + 1) parts.rides;
        paid = e.paid ∙ ap (λ (z : ℤ). z +ℤ move.paid.0) parts.paid;
        held = e.held;
        state = e.state;
      }

-- a move after the facts is one after the choice that they tell of
move_of_parts : (feed : FeedRows) (query : Query) (part : PartialJourney) (a : LabelFacts) (leg : LegFacts)
    (move : Move) (p : HasParts feed query part a) → move_after feed query.buyer a.state a.held leg move ≡ Some move →
    IsMoveAfter feed query.buyer p.legs part.choice leg move
move_of_parts feed query part a leg move p is =
    subst (λ (h : ℤ). move_after feed query.buyer (fare_state feed p.legs part.choice) h leg move ≡ Some move)
    (sym p.held)
    (subst (λ (s : Option FareState). move_after feed query.buyer s a.held leg move ≡ Some move) (sym p.state) is)

-- and a move after the choice is one after its facts
pub move_of_choice : (feed : FeedRows) (query : Query) (part : PartialJourney) (a : LabelFacts) (leg : LegFacts)
    (move : Move) (p : HasParts feed query part a) → IsMoveAfter feed query.buyer p.legs part.choice leg move →
    move_after feed query.buyer a.state a.held leg move ≡ Some move
move_of_choice feed query part a leg move p is =
    subst (λ (h : ℤ). move_after feed query.buyer a.state h leg move ≡ Some move) p.held
    (subst (λ (s : Option FareState). move_after feed query.buyer s (held_amount feed part.choice) leg move ≡ Some move)
    p.state is)

-- where facts go on by a ride and a move, the partial journey does, and the move is whole
pub record GoesOnTo (feed : FeedRows) (query : Query) (before : PartialJourney) (ride : Ride) (move : Move)
    (b : LabelFacts) : Type 0 where
  pub has : HasFacts feed query (with_ride before ride move) b
  pub whole : is_whole move ≡ true

pub extend : (feed : FeedRows) (query : Query) (before : PartialJourney) (a : LabelFacts) (ride : Ride) (move : Move)
    (b : LabelFacts) → HasFacts feed query before a → IsLabelStep feed query a ride move b →
    GoesOnTo feed query before ride move b
extend feed query before a ride move b has s =
    let p = parts_of_facts feed query before a has.facts in
    let leg = leg_facts feed s.facts in
    let e =
    extends_by feed query.buyer p.legs before.choice leg move (part_paid feed query before p.legs has.partial p.is)
    (move_of_parts feed query before a leg move p s.pays) in
    let known =
    facts_of_parts feed query (with_ride before ride move) (facts_after a s.facts move)
    (parts_too feed query before a ride s.facts has s.rides move p.legs p.is e) in
    record {
      has = record {
        partial = partial_too feed query before a ride s.facts has s.rides move p.legs p.is e;
        facts = known ∙ ap Some (sym s.next);
      };
      whole = e.whole;
    }
