-- What completes a partial journey is what rides lead to from its facts, and what one more ride makes of it is a step
-- from them.
use Rattle.std.proofs.Common.{◌≡◌, refl, sym, ◌∙◌, ap, subst, ℕ, zero, suc, ◌+◌, ◌-◌, ◌≤◌, List, [], ◌∷◌, ◌++◌, length, drop, get_or, length-append, append-nil, arith, add-one}
use Rattle.std.specs.Prelude.{Option, Some, None}
use Rattle.std.proofs.lemmas.List.{length_push, nil_from_length, same_from_push}
use Rattle.std.proofs.lemmas.Option.{same_Some}
use Rattle.transit_base.specs.declared.numbers.StopId.{StopId}
use Rattle.feed_rows.specs.declared.fares.ChangeChoice.{ChangeChoice}
use Rattle.feed_rows.specs.declared.fares.LegChoice.{LegChoice}
use Rattle.feed_rows.specs.declared.fares.Triple.{Triple}
use Rattle.feed_rows.specs.declared.journeys.Query.{Query}
use Rattle.feed_rows.specs.declared.journeys.Ride.{Ride}
use Rattle.feed_rows.specs.declared.states.Move.{Move}
use Rattle.feed_rows.specs.Completions.{IsCompletion}
use Rattle.feed_rows.specs.FareExtensions.{changes_with, StartsWith, BeginsWith}
use Rattle.feed_rows.specs.FareSteps.{leg_taken, place_taken}
use Rattle.feed_rows.specs.FeedRows.{FeedRows}
use Rattle.feed_rows.specs.PartialJourneys.{PartialJourney, LabelFacts, label_facts}
use Rattle.feed_rows.specs.RoundTables.{with_ride}
use Rattle.feed_rows.specs.SoundFeed.{IsSoundFeed}
use Rattle.feed_laws.proofs.StandLaws.{places_of_paid}
use Rattle.search_laws.specs.Ways.{LeadsBy}
use Rattle.round_laws.specs.LabelSteps.{HasFacts, IsLabelStep, IsLabelEnd, ways}
use Rattle.round_laws.proofs.EndLaws.{part_of_entry, end_of_entry}
use Rattle.round_laws.proofs.LastRideLaws.{went_on}
use Rattle.round_laws.proofs.PartLaws.{parts_of_facts, part_paid, length_of_legs}

-- ---- lists that begin with others

-- a list that is no longer than what it begins with is that
whole_front : {X : Type 0} (front xs : List X) → StartsWith front xs → length xs ≡ length front → xs ≡ front
whole_front {X} front xs s long =
    let sum = length-append front s.0 in
    let all = ap length s.1 in
    let none = nil_from_length s.0 (omega (arith, sum, all, long)) in
    s.1 ∙ ap (λ (rest : List X). front ++ rest) none ∙ append-nil front

-- one that begins with a list no longer than all but its last item does so without that item
front_of_push : {X : Type 0} (front xs : List X) (x : X) → StartsWith front (xs ++ x ∷ []) → length front ≤ length xs →
    StartsWith front xs
front_of_push [] xs x s le = (xs, refl)
front_of_push (a ∷ front) [] x s le = absurd (omega (arith, le))
front_of_push {X} (a ∷ front) (b ∷ xs) x s le =
    let more = front_of_push front xs x (s.0, ap (drop 1) s.1) (omega (arith, le)) in
    let first : b ≡ a = ap (λ (l : List X). get_or l 0 b) s.1 in
    (more.0, ap (λ (l : List X). b ∷ l) more.1 ∙ ap (λ (c : X). c ∷ (front ++ more.0)) first)

-- ---- a partial journey that begins with another

record Begins (part longer : PartialJourney) : Type 0 where
  pub first : longer.first ≡ part.first
  pub rides : StartsWith part.rides longer.rides
  pub choice : BeginsWith part.choice longer.choice

-- partial journeys with the same parts are the same
same_journey : (f f' : StopId) (rs rs' : List Ride) (ls ls' : List LegChoice) (cs cs' : List (Option ChangeChoice)) →
    f ≡ f' → rs ≡ rs' → ls ≡ ls' → cs ≡ cs' →
    ◌≡◌ {A = PartialJourney} (record { first = f; rides = rs; choice = record { legs = ls; changes = cs } })
    (record { first = f'; rides = rs'; choice = record { legs = ls'; changes = cs' } })
same_journey f f' rs rs' ls ls' cs cs' p q r s = rw (p, q, r, s) refl

module _ (feed : FeedRows) (query : Query) where
  -- there is a place for each leg and for each change
  record HasPlaces (part : PartialJourney) : Type 0 where
    pub legs : length part.choice.legs ≡ length part.rides
    pub changes : length part.choice.changes ≡ length part.rides - 1

  has_places : (part : PartialJourney) (a : LabelFacts) → HasFacts feed query part a → HasPlaces part
  has_places part a h =
      let p = parts_of_facts feed query part a h.facts in
      let long = length_of_legs feed part.rides p.legs p.is in
      let places = places_of_paid feed query.buyer p.legs part.choice
      (part_paid feed query part p.legs h.partial p.is) in
      record { legs = places.0 ∙ long; changes = places.1 ∙ ap (λ (n : ℕ). n - 1) long }

  module _ (part : PartialJourney) (a : LabelFacts) (has : HasFacts feed query part a) where
    -- one that begins with it and has as many rides is the same
    same_part : (longer : PartialJourney) (b : LabelFacts) → HasFacts feed query longer b → Begins part longer →
        length longer.rides ≡ length part.rides → longer ≡ part
    same_part longer b h begins long =
        let here = has_places part a has in
        let there = has_places longer b h in
        same_journey longer.first part.first longer.rides part.rides longer.choice.legs part.choice.legs
        longer.choice.changes part.choice.changes begins.first
        (whole_front part.rides longer.rides begins.rides long)
        (whole_front part.choice.legs longer.choice.legs begins.choice.legs (there.legs ∙ long ∙ sym here.legs))
        (whole_front part.choice.changes longer.choice.changes begins.choice.changes
        (there.changes ∙ ap (λ (n : ℕ). n - 1) long ∙ sym here.changes))

    -- so its facts are the same
    same_facts_of : (longer : PartialJourney) (b : LabelFacts) → HasFacts feed query longer b → longer ≡ part → b ≡ a
    same_facts_of longer b h same =
        same_Some b a (sym h.facts ∙ ap (label_facts feed query) same ∙ has.facts)

    -- one that has more begins with it without its last ride too
    begins_before : (before longer : PartialJourney) (ride : Ride) (move : Move) (b : LabelFacts) →
        HasFacts feed query before b → longer ≡ with_ride before ride move → Begins part longer →
        length part.rides ≤ length before.rides → Begins part before
    begins_before before longer ride move b h same begins le = record {
      first = sym (ap (λ (p : PartialJourney). p.first) same) ∙ begins.first;
      rides = front_of_push part.rides before.rides ride
          (subst (StartsWith part.rides) (ap (λ (p : PartialJourney). p.rides) same) begins.rides) le;
      choice = record {
        legs = front_of_push part.choice.legs before.choice.legs (leg_taken move)
            (subst (StartsWith part.choice.legs) (ap (λ (p : PartialJourney). p.choice.legs) same) begins.choice.legs)
            (let p = here.legs in let q = there.legs in omega (arith, p, q, le));
        changes = changes (length before.choice.legs) refl;
      };
    }
      where
        here : HasPlaces part
        here = has_places part a has

        there : HasPlaces before
        there = has_places before b h

        changes : (n : ℕ) → length before.choice.legs ≡ n → StartsWith part.choice.changes before.choice.changes
        changes zero none =
            let empty =
            nil_from_length part.choice.changes
            (let p = here.changes in let q = there.legs in omega (arith, p, q, le, none)) in
            (before.choice.changes, ap (λ (cs : List (Option ChangeChoice)). cs ++ before.choice.changes) (sym empty))
        changes (suc n) some =
            front_of_push part.choice.changes before.choice.changes (place_taken move)
            (subst (StartsWith part.choice.changes)
            (ap (λ (p : PartialJourney). p.choice.changes) same
            ∙ ap (λ (k : ℕ). changes_with k before.choice.changes (place_taken move)) some) begins.choice.changes)
            (let p = here.changes in let q = there.changes in omega (arith, p, q, le))

    -- whatever rides lead to from one that begins with it, they lead to from it
    leads_back : (k n : ℕ) (longer : PartialJourney) (b : LabelFacts) (triple : Triple) → HasFacts feed query longer b →
        Begins part longer → length longer.rides ≡ k + length part.rides → LeadsBy (ways feed query) n b triple →
        (m : ℕ) × LeadsBy (ways feed query) m a triple
    leads_back zero n longer b triple h begins long leads = (
      n,
      subst (λ (x : LabelFacts). LeadsBy (ways feed query) n x triple)
          (same_facts_of longer b h (same_part longer b h begins (omega (arith, long)))) leads,
    )
    leads_back (suc k) n longer b triple h begins long leads =
        let rides = (parts_of_facts feed query longer b h.facts).rides in
        let w = went_on feed query longer b (k + length part.rides) h (omega (arith, rides, long)) in
        let fewer = (parts_of_facts feed query w.before w.a w.has.facts).rides ∙ w.rides in
        leads_back k (suc n) w.before w.a triple w.has
        (begins_before w.before longer w.ride w.move w.a w.has w.same begins (omega (arith, fewer))) fewer
        (w.ride, w.move, b, w.step, leads)

    -- so each triple that completes it is one that rides lead to
    pub leads_of_completion : (triple : Triple) → IsSoundFeed feed → IsCompletion feed query part triple →
        (m : ℕ) × LeadsBy (ways feed query) m a triple
    leads_of_completion triple sound c =
        let e = end_of_entry feed query c.0 sound c.1 in
        let sum = length-append part.rides c.2.rides.0 in
        let all = ap length c.2.rides.1 in
        leads_back (length c.2.rides.0) 0 (part_of_entry c.0) e.a triple e.has
        (record { first = c.2.first; rides = c.2.rides; choice = c.2.choice }) (omega (arith, sum, all))
        (c.0.journey.last, subst (IsLabelEnd feed query e.a c.0.journey.last) c.3 e.end)

    -- it begins what one more ride makes of it
    begins_with_ride : (ride : Ride) (taken : Move) → Begins part (with_ride part ride taken)
    begins_with_ride ride taken = record {
      first = refl;
      rides = (ride ∷ [], refl);
      choice = record {
        legs = (leg_taken taken ∷ [], refl);
        changes = more (length part.choice.legs) (place_taken taken);
      };
    }
      where
        more : (n : ℕ) (place : Option ChangeChoice) →
            StartsWith part.choice.changes (changes_with n part.choice.changes place)
        more zero None = ([], sym (append-nil part.choice.changes))
        more zero (Some pick) = (Some pick ∷ [], refl)
        more (suc n) place = (place ∷ [], refl)

    -- so that is a step from its facts
    pub step_of_ride : (ride : Ride) (taken : Move) (b : LabelFacts) → HasFacts feed query
        (with_ride part ride taken) b →
        (move : Move) × IsLabelStep feed query a ride move b
    step_of_ride ride taken b h =
        let rides = (parts_of_facts feed query (with_ride part ride taken) b h.facts).rides in
        let long = length_push part.rides ride ∙ add-one (length part.rides) in
        let w = went_on feed query (with_ride part ride taken) b (length part.rides) h (sym rides ∙ long) in
        let fewer = (parts_of_facts feed query w.before w.a w.has.facts).rides ∙ w.rides in
        let begins =
        begins_before w.before (with_ride part ride taken) w.ride w.move w.a w.has w.same (begins_with_ride ride taken)
        (omega (arith, fewer)) in
        let same = same_part w.before w.a w.has begins fewer in
        let last =
        same_from_push part.rides w.before.rides ride w.ride (ap (λ (p : PartialJourney). p.rides) w.same) in (
          w.move,
          subst (λ (x : LabelFacts). IsLabelStep feed query x ride w.move b) (same_facts_of w.before w.a w.has same)
              (subst (λ (r : Ride). IsLabelStep feed query w.a r w.move b) (sym last.1) w.step),
        )
