-- Each partial journey with a ride is one without it that went on by it.
use Rattle.std.proofs.Common.{◌≡◌, refl, sym, ◌∙◌, ap, subst, ℕ, zero, suc, ◌+◌, ◌<◌, ◌≤◌, ◌⊎◌, inl, inr, true, List, [], ◌∷◌, ◌++◌, length, take, get_or, take_all, take-suc, length-take, arith}
use Rattle.std.specs.Prelude.{All, Option, Some, None, option_map, option_and_then, IsTrue}
use Rattle.std.proofs.lemmas.Bool.{cases_lt, ne_eqb}
use Rattle.std.proofs.lemmas.List.{length_push}
use Rattle.std.proofs.lemmas.List.Elements.{All-pop}
use Rattle.std.proofs.lemmas.Option.{same_Some, none-some}
use Rattle.transit_base.specs.declared.numbers.StopId.{StopId}
use Rattle.feed_rows.specs.declared.fares.Choice.{Choice}
use Rattle.feed_rows.specs.declared.journeys.LegFacts.{LegFacts}
use Rattle.feed_rows.specs.declared.journeys.Query.{Query}
use Rattle.feed_rows.specs.declared.journeys.Ride.{Ride}
use Rattle.feed_rows.specs.declared.journeys.RideFacts.{RideFacts}
use Rattle.feed_rows.specs.declared.states.Move.{Move}
use Rattle.feed_rows.specs.FareChoices.{is_fare_choice}
use Rattle.feed_rows.specs.FeedRows.{FeedRows}
use Rattle.feed_rows.specs.Journeys.{facts_at, is_caught, catches_first}
use Rattle.feed_rows.specs.JourneyStands.{Stand, first_stand, stand_at_end, way_to}
use Rattle.feed_rows.specs.Legs.{leg_facts, legs_of}
use Rattle.feed_rows.specs.PartialJourneys.{PartialJourney, LabelFacts, IsPartialJourney, arrives_in_window, label_facts, journey_to}
use Rattle.feed_rows.specs.Rides.{is_ride, ride_facts}
use Rattle.feed_rows.specs.RoundTables.{with_ride}
use Rattle.plain_laws.proofs.Laws.{int_le-true}
use Rattle.feed_laws.proofs.ChoiceLaws.{legs_of-push}
use Rattle.round_laws.specs.LabelSteps.{HasFacts, stand_of_facts, facts_after, latest, IsCaughtRide, IsLabelStep}
use Rattle.fare_laws.proofs.LongerLaws.{IsMoveAfter, IsMadeBy, made_by}
use Rattle.round_laws.proofs.PartLaws.{HasParts, parts_of_facts, at_start, at_last, part_paid, facts_of_partial}
use Rattle.round_laws.proofs.GoingOnLaws.{facts_before, facts_last, catches_next_before, catches_first_before, move_of_choice, extend}

-- the list is `front` with `last` after it
record HasLast (rides : List Ride) (n : ℕ) : Type 0 where
  pub front : List Ride
  pub last : Ride
  pub is : rides ≡ front ++ last ∷ []
  pub long : length front ≡ n

has_last : (rides : List Ride) (n : ℕ) → length rides ≡ suc n → HasLast rides n
has_last [] n all = absurd (omega (arith, all))
has_last (r ∷ rs) n all = record {
  front = take n (r ∷ rs);
  last = get_or (r ∷ rs) n r;
  is = sym (take_all (suc n) (r ∷ rs) (omega (arith, all))) ∙ take-suc (r ∷ rs) n r (omega (arith, all));
  long = let short = length-take n (r ∷ rs) in omega (arith, short, all);
}

-- the legs of rides are those before the last, and the last
record HasLastLeg (feed : FeedRows) (rides : List Ride) (ride : Ride) (longer : List LegFacts) : Type 0 where
  pub legs : List LegFacts
  pub is : legs_of feed rides ≡ Some legs
  pub facts : RideFacts
  pub goes : ride_facts feed ride ≡ Some facts
  pub same : longer ≡ legs ++ leg_facts feed facts ∷ []

has_last_leg : (feed : FeedRows) (rides : List Ride) (ride : Ride) (longer : List LegFacts) →
    legs_of feed (rides ++ ride ∷ []) ≡ Some longer → HasLastLeg feed rides ride longer
has_last_leg feed rides ride longer is =
    by (legs_of feed rides) (ride_facts feed ride) refl refl (sym (legs_of-push feed rides ride) ∙ is)
  where
    by : (legs : Option (List LegFacts)) (facts : Option RideFacts) → legs_of feed rides ≡ legs →
        ride_facts feed ride ≡ facts →
        option_and_then (λ ls. option_map (λ leg. ls ++ leg ∷ []) (option_map (leg_facts feed) facts)) legs
        ≡ Some longer → HasLastLeg feed rides ride longer
    by None facts is goes e = absurd (none-some longer e)
    by (Some ls) None is goes e = absurd (none-some longer e)
    by (Some ls) (Some f) is goes e = record {
      legs = ls;
      is = is;
      facts = f;
      goes = goes;
      same = sym (same_Some _ _ e);
    }

-- the partial journey went on by its last ride
pub record WentOn (feed : FeedRows) (query : Query) (part : PartialJourney) (b : LabelFacts) (n : ℕ) : Type 0 where
  pub before : PartialJourney
  pub a : LabelFacts
  pub ride : Ride
  pub move : Move
  pub has : HasFacts feed query before a
  pub rides : a.rides ≡ n
  pub step : IsLabelStep feed query a ride move b
  pub same : part ≡ with_ride before ride move

module _ (feed : FeedRows) (query : Query) (first : StopId) (rides : List Ride) (ride : Ride) (choice : Choice) where
  -- with the last ride, by this choice and by any; and without it
  abbrev whole : PartialJourney
  whole = record { first = first; rides = rides ++ ride ∷ []; choice = choice }

  abbrev made : Choice → PartialJourney
  made other = record { first = first; rides = rides ++ ride ∷ []; choice = other }

  abbrev front : Choice → PartialJourney
  front fewer = record { first = first; rides = rides; choice = fewer }

  -- the ride is caught from there
  abbrev CatchesFrom : Stand → RideFacts → Type 0
  CatchesFrom stand facts = is_caught stand.at (way_to feed query stand facts.from) facts ≡ true

  without_last : (P : Ride → Type 0) → All P (rides ++ ride ∷ []) → All P rides × P ride
  without_last P all = All-pop P (rides ++ ride ∷ []) rides (Some ride) refl all

  -- without its last ride a partial journey is one, by a choice that pays the others
  partial_before : (fewer : Choice) (legs : List LegFacts) → IsPartialJourney feed query whole →
      legs_of feed rides ≡ Some legs → is_fare_choice feed legs fewer query.buyer ≡ true →
      IsPartialJourney feed query (front fewer)
  partial_before fewer legs p is pays = record {
    starts = p.starts;
    rides = (without_last (λ (r : Ride). IsTrue (is_ride feed r)) p.rides).0;
    few = let long = length_push rides ride in omega (arith, long, p.few);
    begins = begins (cases_lt 0 (length rides));
    goes_on = λ i lt.
        let long = length_push rides ride in
        sym (catches_next_before feed rides ride i lt) ∙ p.goes_on i (omega (arith, long, lt));
    in_time = (without_last (λ (r : Ride). IsTrue (arrives_in_window feed query r)) p.in_time).0;
    pays = rw (is, pays) refl;
  }
    where
      begins : (0 < length rides) ⊎ (length rides ≤ 0) →
          catches_first feed query (journey_to first (front fewer)) ≡ true
      begins (inl some) = sym (catches_first_before feed rides ride query first first some) ∙ p.begins
      begins (inr none) = let no_rides : length rides ≡ 0 = omega (arith, none) in rw no_rides refl

  -- its last ride is caught from where one stands before it
  caught_last : (fewer : Choice) (a : LabelFacts) (facts : RideFacts) → IsPartialJourney feed query whole →
      HasParts feed query (front fewer) a → ride_facts feed ride ≡ Some facts → CatchesFrom (stand_of_facts a) facts
  caught_last fewer a facts p known goes = by (length rides) refl
    where
      new : facts_at feed (rides ++ ride ∷ []) (length rides) ≡ Some facts
      new = facts_last feed rides ride ∙ goes

      from_there : (stand : Stand) → stand ≡ stand_of_facts a → CatchesFrom stand facts →
          CatchesFrom (stand_of_facts a) facts
      from_there stand same = subst (λ (d : Stand). CatchesFrom d facts) same

      by : (n : ℕ) → length rides ≡ n → CatchesFrom (stand_of_facts a) facts
      by zero none =
          let long = length_push rides ride in
          let longer = ne_eqb (length (rides ++ ride ∷ [])) 0 (λ e. omega (arith, e, long)) in
          let at = ap (facts_at feed (rides ++ ride ∷ [])) (sym none) ∙ new in
          from_there (first_stand query first) (at_start feed query (front fewer) a known none)
          (rw (longer, at) at p.begins)
      by (suc i) some =
          let long = length_push rides ride in
          let s = at_last feed query (front fewer) a i known some in
          let one = facts_before feed rides ride i (omega (arith, some)) ∙ s.is in
          let place : i + 1 ≡ length rides = omega (arith, some) in
          let two = ap (facts_at feed (rides ++ ride ∷ [])) place ∙ new in
          let there = p.goes_on i (omega (arith, long, some)) in
          from_there (stand_at_end s.ride) s.stands (rw (one, two) at there)

  -- and within the window and the limit of rides
  rode_last : (fewer : Choice) (a : LabelFacts) (facts : RideFacts) → IsPartialJourney feed query whole →
      HasParts feed query (front fewer) a → ride_facts feed ride ≡ Some facts → IsCaughtRide feed query a ride facts
  rode_last fewer a facts p known goes =
      let long = length_push rides ride in
      let last = (without_last (λ (r : Ride). IsTrue (arrives_in_window feed query r)) p.in_time).1 in
      record {
        is = goes;
        few = omega (arith, long, known.rides, p.few);
        caught = caught_last fewer a facts p known goes;
        in_time = int_le-true facts.arrival.0 (latest query) (rw goes at last);
      }

  -- by a choice for the others and a move the partial journey without its last ride goes on to it
  goes_on_by : (longer : List LegFacts) (l : HasLastLeg feed rides ride longer)
      (m : IsMadeBy feed query.buyer l.legs (leg_facts feed l.facts) choice) (a b : LabelFacts) →
      HasFacts feed query (front m.choice) a → HasFacts feed query whole b →
      IsLabelStep feed query a ride m.move b
  goes_on_by longer l m a b before h =
      let known = parts_of_facts feed query (front m.choice) a before.facts in
      let is =
      subst (λ (ls : List LegFacts). IsMoveAfter feed query.buyer ls m.choice (leg_facts feed l.facts) m.move)
      (same_Some l.legs known.legs (sym l.is ∙ known.is)) m.is in
      let pays = move_of_choice feed query (front m.choice) a (leg_facts feed l.facts) m.move known is in
      let caught = rode_last m.choice a l.facts h.partial known l.goes in
      let on =
      extend feed query (front m.choice) a ride m.move (facts_after a l.facts m.move) before
      (record { facts = l.facts; rides = caught; pays = pays; next = refl }) in
      record {
        facts = l.facts;
        rides = caught;
        pays = pays;
        next = same_Some b (facts_after a l.facts m.move)
            (sym h.facts ∙ ap (λ (c : Choice). label_facts feed query (made c)) m.same ∙ on.has.facts);
      }

  -- so it went on
  went_on_by : (longer : List LegFacts) (l : HasLastLeg feed rides ride longer)
      (m : IsMadeBy feed query.buyer l.legs (leg_facts feed l.facts) choice) (a b : LabelFacts) →
      HasFacts feed query (front m.choice) a → HasFacts feed query whole b → WentOn feed query whole b (length rides)
  went_on_by longer l m a b before h =
      let known = parts_of_facts feed query (front m.choice) a before.facts in
      record {
        before = front m.choice;
        a = a;
        ride = ride;
        move = m.move;
        has = before;
        rides = sym known.rides;
        step = goes_on_by longer l m a b before h;
        same = ap made m.same;
      }

  went_on_by_last : (b : LabelFacts) → HasFacts feed query whole b → WentOn feed query whole b (length rides)
  went_on_by_last b h =
      let p = parts_of_facts feed query whole b h.facts in
      let l = has_last_leg feed rides ride p.legs p.is in
      let paid =
      subst (λ (ls : List LegFacts). is_fare_choice feed ls choice query.buyer ≡ true) l.same
      (part_paid feed query whole p.legs h.partial p.is) in
      let m = made_by feed query.buyer l.legs (leg_facts feed l.facts) choice paid in
      let known = facts_of_partial feed query (front m.choice) (partial_before m.choice l.legs h.partial l.is m.pays) in
      went_on_by p.legs l m known.0 b known.1 h

-- each partial journey with a ride is such
pub went_on : (feed : FeedRows) (query : Query) (part : PartialJourney) (b : LabelFacts) (n : ℕ) →
    HasFacts feed query part b → b.rides ≡ suc n → WentOn feed query part b n
went_on feed query part b n h some =
    let p = parts_of_facts feed query part b h.facts in
    let l = has_last part.rides n (p.rides ∙ some) in
    let split : PartialJourney = record { first = part.first; rides = l.front ++ l.last ∷ []; choice = part.choice } in
    let same : part ≡ split =
    ap (λ (rs : List Ride). record { first = part.first; rides = rs; choice = part.choice }) l.is in
    let on =
    went_on_by_last feed query part.first l.front l.last part.choice b
    (subst (λ (q : PartialJourney). HasFacts feed query q b) same h) in
    subst (λ (q : PartialJourney). WentOn feed query q b n) (sym same) (subst (WentOn feed query split b) l.long on)
