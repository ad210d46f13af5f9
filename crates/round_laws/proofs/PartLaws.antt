-- What facts tell of the partial journey that has them, and that each has some.
use Rattle.std.proofs.Common.{◌≡◌, refl, sym, ◌∙◌, ap, subst, ℕ, zero, suc, ◌+◌, ◌<◌, Bool, true, false, List, [], ◌∷◌, length, get_or, arith, ℤ}
use Rattle.std.specs.Prelude.{◌==◌, Option, Some, None, is_none, is_some, IsSome, slice_get, option_map, option_and_then}
use Rattle.std.proofs.lemmas.Bool.{ne_eqb}
use Rattle.std.proofs.lemmas.Option.{same_Some, none-some, slice_get-get_or}
use Rattle.transit_base.specs.declared.numbers.StopId.{StopId}
use Rattle.feed_rows.specs.declared.journeys.Buyer.{Buyer}
use Rattle.feed_rows.specs.declared.fares.Choice.{Choice}
use Rattle.feed_rows.specs.declared.journeys.LegFacts.{LegFacts}
use Rattle.feed_rows.specs.declared.journeys.Query.{Query}
use Rattle.feed_rows.specs.declared.journeys.Ride.{Ride}
use Rattle.feed_rows.specs.declared.journeys.RideFacts.{RideFacts}
use Rattle.feed_rows.specs.declared.states.FareState.{FareState}
use Rattle.feed_rows.specs.declared.states.Move.{Move}
use Rattle.feed_rows.specs.FareChoices.{is_fare_choice}
use Rattle.feed_rows.specs.FareStates.{paid_amount, held_amount, fare_state}
use Rattle.feed_rows.specs.FareSums.{fare_sum, fare_price}
use Rattle.feed_rows.specs.FeedRows.{FeedRows}
use Rattle.feed_rows.specs.JourneyEntries.{rides_price}
use Rattle.feed_rows.specs.Journeys.{facts_at}
use Rattle.feed_rows.specs.JourneyStands.{Stand, first_stand, stand_at_end}
use Rattle.feed_rows.specs.Legs.{leg_facts, legs_of}
use Rattle.feed_rows.specs.PartialJourneys.{PartialJourney, LabelFacts, IsPartialJourney, stop_after, time_after, label_facts}
use Rattle.plain_laws.specs.Plain.{when}
use Rattle.plain_laws.proofs.Laws.{collect_below_tells}
use Rattle.feed_laws.proofs.StandLaws.{stand_of_paid, places_of_paid}
use Rattle.fare_laws.proofs.ExtensionLaws.{fare_state-told}
use Rattle.round_laws.specs.LabelSteps.{HasFacts, start_facts, stand_of_facts, IsStated, IsLabelStep}

-- the item of a place
pub item_at : {X : Type 0} (xs : List X) (i : ℕ) → i < length xs → (x : X) × (slice_get xs i ≡ Some x)
item_at [] i lt = absurd (omega (arith, lt))
item_at (x ∷ xs) i lt = (get_or (x ∷ xs) i x, slice_get-get_or (x ∷ xs) i x lt)

-- facts with the same parts are the same
same_facts : (stop : StopId) (time : ℤ) (m n : ℕ) (x y h k : ℤ) (s t : Option FareState) → m ≡ n → x ≡ y → h ≡ k →
    s ≡ t →
    ◌≡◌ {A = LabelFacts} (record { stop = stop; arrival = time; rides = m; paid = x; held = h; state = s })
    (record { stop = stop; arrival = time; rides = n; paid = y; held = k; state = t })
same_facts stop time m n x y h k s t e f g i = rw (e, f, g, i) refl

-- and so are stands
pub same_stand : (s s' : StopId) (t t' : ℤ) (f f' : Bool) → s ≡ s' → t ≡ t' → f ≡ f' →
    ◌≡◌ {A = Stand} (record { stop = s; at = t; fresh = f }) (record { stop = s'; at = t'; fresh = f' })
same_stand s s' t t' f f' e g h = rw (e, g, h) refl

-- ---- part by part

-- the facts are those of the partial journey, part by part
pub record HasParts (feed : FeedRows) (query : Query) (part : PartialJourney) (a : LabelFacts) : Type 0 where
  pub legs : List LegFacts
  pub is : legs_of feed part.rides ≡ Some legs
  pub stop : stop_after feed part (length part.rides) ≡ Some a.stop
  pub time : time_after feed query part (length part.rides) ≡ Some a.arrival
  pub rides : length part.rides ≡ a.rides
  pub paid : paid_amount feed part.choice ≡ a.paid
  pub held : held_amount feed part.choice ≡ a.held
  pub state : fare_state feed legs part.choice ≡ a.state

-- the facts of the partial journey with this stop and time, and these legs
abbrev facts_with : FeedRows → PartialJourney → StopId → ℤ → List LegFacts → LabelFacts
facts_with feed part stop time legs =
    record {
      stop = stop;
      arrival = time;
      rides = length part.rides;
      paid = paid_amount feed part.choice;
      held = held_amount feed part.choice;
      state = fare_state feed legs part.choice;
    }

module _ (feed : FeedRows) (query : Query) (part : PartialJourney) (a : LabelFacts) where
  pub parts_of_facts : label_facts feed query part ≡ Some a → HasParts feed query part a
  unfolding label_facts
  parts_of_facts e =
      by (stop_after feed part (length part.rides)) (time_after feed query part (length part.rides))
      (legs_of feed part.rides) refl refl refl e
    where
      by : (stop : Option StopId) (time : Option ℤ) (legs : Option (List LegFacts)) →
          stop_after feed part (length part.rides) ≡ stop → time_after feed query part (length part.rides) ≡ time →
          legs_of feed part.rides ≡ legs →
          option_and_then (λ s. option_and_then (λ t. option_map (facts_with feed part s t) legs) time) stop ≡ Some a →
          HasParts feed query part a
      by None time legs is_stop is_time is_legs e = absurd (none-some a e)
      by (Some s) None legs is_stop is_time is_legs e = absurd (none-some a e)
      by (Some s) (Some t) None is_stop is_time is_legs e = absurd (none-some a e)
      by (Some s) (Some t) (Some legs) is_stop is_time is_legs e =
          let same : facts_with feed part s t legs ≡ a = same_Some _ _ e in
          record {
            legs = legs;
            is = is_legs;
            stop = is_stop ∙ ap (λ (f : LabelFacts). Some f.stop) same;
            time = is_time ∙ ap (λ (f : LabelFacts). Some f.arrival) same;
            rides = ap (λ (f : LabelFacts). f.rides) same;
            paid = ap (λ (f : LabelFacts). f.paid) same;
            held = ap (λ (f : LabelFacts). f.held) same;
            state = ap (λ (f : LabelFacts). f.state) same;
          }

  pub facts_of_parts : HasParts feed query part a → label_facts feed query part ≡ Some a
  unfolding label_facts
  facts_of_parts p =
      let stop = p.stop in
      let time = p.time in
      let legs = p.is in
      rw (stop, time, legs)
      (ap Some (same_facts a.stop a.arrival _ a.rides _ a.paid _ a.held _ a.state p.rides p.paid p.held p.state))

-- ---- where one stands

-- without rides one stands at the first stop
pub at_start : (feed : FeedRows) (query : Query) (part : PartialJourney) (a : LabelFacts) → HasParts feed query part a →
    length part.rides ≡ 0 → first_stand query part.first ≡ stand_of_facts a
at_start feed query part a p none =
    same_stand part.first a.stop query.departure.0 a.arrival true (a.rides == 0)
    (same_Some _ _ (sym (ap (stop_after feed part) none) ∙ p.stop))
    (same_Some _ _ (sym (ap (time_after feed query part) none) ∙ p.time))
    (ap (λ (n : ℕ). n == 0) (sym none ∙ p.rides))

-- the ride after i others is the last, and one stands at its end
pub record IsLastRide (feed : FeedRows) (part : PartialJourney) (a : LabelFacts) (i : ℕ) : Type 0 where
  pub ride : RideFacts
  pub is : facts_at feed part.rides i ≡ Some ride
  pub stands : stand_at_end ride ≡ stand_of_facts a

pub at_last : (feed : FeedRows) (query : Query) (part : PartialJourney) (a : LabelFacts) (i : ℕ) →
    HasParts feed query part a → length part.rides ≡ suc i → IsLastRide feed part a i
at_last feed query part a i p some =
    by (facts_at feed part.rides i) refl (sym (ap (stop_after feed part) some) ∙ p.stop)
    (sym (ap (time_after feed query part) some) ∙ p.time)
  where
    by : (o : Option RideFacts) → facts_at feed part.rides i ≡ o → option_map (λ ride. ride.to) o ≡ Some a.stop →
        option_map (λ ride. ride.arrival.0) o ≡ Some a.arrival → IsLastRide feed part a i
    by None is stop time = absurd (none-some a.stop stop)
    by (Some ride) is stop time = record {
      ride = ride;
      is = is;
      stands =
          same_stand ride.to a.stop ride.arrival.0 a.arrival false (a.rides == 0) (same_Some _ _ stop)
          (same_Some _ _ time) (sym (ne_eqb a.rides 0 (λ e. omega (arith, e, some, p.rides))));
    }

-- ---- what pays

-- the choice of a partial journey pays its legs
pub part_paid : (feed : FeedRows) (query : Query) (part : PartialJourney) (legs : List LegFacts) →
    IsPartialJourney feed query part → legs_of feed part.rides ≡ Some legs →
    is_fare_choice feed legs part.choice query.buyer ≡ true
part_paid feed query part legs p is =
    by (is_fare_choice feed legs part.choice query.buyer) (fare_sum feed part.choice) (rw is at p.pays)
  where
    by : (b : Bool) (sum : ℤ) → is_some (when b sum) ≡ true → b ≡ true
    by true sum some = refl
    by false sum some = absurd (let no : false ≡ true = some in cc)

-- rides that are paid have legs
legs_of_paid : (feed : FeedRows) (rides : List Ride) (choice : Choice) (buyer : Buyer) →
    IsSome (rides_price feed rides choice buyer) → (legs : List LegFacts) × (legs_of feed rides ≡ Some legs)
legs_of_paid feed rides choice buyer some = by (legs_of feed rides) refl some
  where
    by : (o : Option (List LegFacts)) → legs_of feed rides ≡ o →
        is_some (option_and_then (λ legs. fare_price feed legs choice buyer) o) ≡ true →
        (legs : List LegFacts) × (legs_of feed rides ≡ Some legs)
    by None is some = absurd (let no : false ≡ true = some in cc)
    by (Some legs) is some = (legs, is)

-- legs are as many as rides
pub length_of_legs : (feed : FeedRows) (rides : List Ride) (legs : List LegFacts) → legs_of feed rides ≡ Some legs →
    length legs ≡ length rides
unfolding legs_of
length_of_legs feed rides legs is = (collect_below_tells (length rides) _ legs is).length_is

-- a ride that has a leg is known
facts_of_leg : (feed : FeedRows) (rides : List Ride) (legs : List LegFacts) (i : ℕ) → legs_of feed rides ≡ Some legs →
    i < length rides → (ride : RideFacts) × (facts_at feed rides i ≡ Some ride)
unfolding legs_of
facts_of_leg feed rides legs i is lt =
    let c = collect_below_tells (length rides) _ legs is in
    let item = item_at legs i (omega (arith, lt, c.length_is)) in
    by (facts_at feed rides i) refl item.0 (sym item.1 ∙ c.items i lt)
  where
    by : (o : Option RideFacts) → facts_at feed rides i ≡ o → (leg : LegFacts) →
        Some leg ≡ option_map (leg_facts feed) o → (ride : RideFacts) × (facts_at feed rides i ≡ Some ride)
    by None is leg e = absurd (none-some leg (sym e))
    by (Some ride) is leg e = (ride, is)

-- where and since when one stands after all rides is known
record StandsSomewhere (feed : FeedRows) (query : Query) (part : PartialJourney) : Type 0 where
  pub stop : StopId
  pub time : ℤ
  pub is_stop : stop_after feed part (length part.rides) ≡ Some stop
  pub is_time : time_after feed query part (length part.rides) ≡ Some time

stands_somewhere : (feed : FeedRows) (query : Query) (part : PartialJourney) (legs : List LegFacts) (n : ℕ) →
    legs_of feed part.rides ≡ Some legs → length part.rides ≡ n → StandsSomewhere feed query part
stands_somewhere feed query part legs zero is long = record {
  stop = part.first;
  time = query.departure.0;
  is_stop = ap (stop_after feed part) long;
  is_time = ap (time_after feed query part) long;
}
stands_somewhere feed query part legs (suc i) is long =
    let ride = facts_of_leg feed part.rides legs i is (omega (arith, long)) in
    record {
      stop = ride.0.to;
      time = ride.0.arrival.0;
      is_stop = ap (stop_after feed part) long ∙ ap (option_map (λ (r : RideFacts). r.to)) ride.1;
      is_time = ap (time_after feed query part) long ∙ ap (option_map (λ (r : RideFacts). r.arrival.0)) ride.1;
    }

-- each partial journey has facts
pub facts_of_partial : (feed : FeedRows) (query : Query) (part : PartialJourney) → IsPartialJourney feed query part →
    (a : LabelFacts) × HasFacts feed query part a
facts_of_partial feed query part p =
    let legs = legs_of_paid feed part.rides part.choice query.buyer p.pays in
    let end = stands_somewhere feed query part legs.0 (length part.rides) legs.1 refl in
    let a : LabelFacts = facts_with feed part end.stop end.time legs.0 in (
      a,
      record {
        partial = p;
        facts = facts_of_parts feed query part a (record {
          legs = legs.0;
          is = legs.1;
          stop = end.is_stop;
          time = end.is_time;
          rides = refl;
          paid = refl;
          held = refl;
          state = refl;
        });
      },
    )

-- ---- fares are in a state where there is a ride

state_of_paid : (feed : FeedRows) (buyer : Buyer) (legs : List LegFacts) (choice : Choice) →
    is_fare_choice feed legs choice buyer ≡ true → (length legs == 0) ≡ is_none (fare_state feed legs choice)
unfolding fare_state
state_of_paid feed buyer [] choice pays = refl
state_of_paid feed buyer (l ∷ ls) choice pays =
    let long : length (l ∷ ls) ≡ suc (length ls) = refl in
    let stands = stand_of_paid feed buyer (l ∷ ls) choice (length ls) long pays in
    let places = (places_of_paid feed buyer (l ∷ ls) choice pays).0 in
    ne_eqb (length (l ∷ ls)) 0 (λ e. omega (arith, e, long))
    ∙ ap is_none (sym (fare_state-told feed (l ∷ ls) choice (length ls) stands.stand long places stands.of))

-- so it is with the facts of a partial journey
pub stated_of_part : (feed : FeedRows) (query : Query) (part : PartialJourney) (a : LabelFacts) →
    HasFacts feed query part a → IsStated a
stated_of_part feed query part a h =
    let p = parts_of_facts feed query part a h.facts in
    ap (λ (n : ℕ). n == 0) (sym p.rides ∙ sym (length_of_legs feed part.rides p.legs p.is))
    ∙ state_of_paid feed query.buyer p.legs part.choice (part_paid feed query part p.legs h.partial p.is)
    ∙ ap is_none p.state

-- with those at a start
pub stated_of_start : (query : Query) (stop : StopId) → IsStated (start_facts query stop)
stated_of_start query stop = refl

-- and with those after a ride
pub stated_of_step : (feed : FeedRows) (query : Query) (a : LabelFacts) (ride : Ride) (move : Move) (b : LabelFacts) →
    IsLabelStep feed query a ride move b → IsStated b
stated_of_step feed query a ride move b s = subst IsStated (sym s.next) (ne_eqb (a.rides + 1) 0 (λ e. omega (arith, e)))
