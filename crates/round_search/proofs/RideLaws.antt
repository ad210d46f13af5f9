-- The rides that are caught from a label, and the labels that they lead to.
use Rattle.std.proofs.Common.{◌≡◌, refl, sym, ◌∙◌, ap, subst, ℕ, ◌+◌, ◌≤◌, ◌⊎◌, inl, inr, ⊎_elim, true, List, [], length, arith}
use Rattle.std.specs.Prelude.{Contains, IsTrue, None, Some, slice_get}
use Rattle.std.proofs.lemmas.Bool.{cases_lt}
use Rattle.std.proofs.lemmas.Int.{ints}
use Rattle.std.proofs.lemmas.List.Elements.{All-contains}
use Rattle.std.proofs.lemmas.Option.{same_Some, slice_get_within}
use Rattle.transit_base.specs.declared.moments.Moment.{Moment}
use Rattle.transit_base.specs.declared.numbers.StopId.{StopId}
use Rattle.feed_rows.specs.declared.journeys.RideFacts.{RideFacts}
use Rattle.feed_rows.specs.Journeys.{stands_for, is_caught}
use Rattle.feed_rows.specs.JourneyStands.{stand_at_end, way_to}
use Rattle.feed_rows.specs.SoundFeed.{IsSoundFeed}
use Rattle.feed_rows.specs.StopLinks.{stop_set}
use Rattle.plain_laws.proofs.Laws.{le-int_le, slice_get-Contains}
use Rattle.plan_rides.specs.InTime.{IsRight}
use Rattle.plan_rides.specs.declared.caught.CaughtRide.{CaughtRide}
use Rattle.plan_rides.proofs.CaughtLaws.{caught_ride, caught_within}
use Rattle.plan_rides.proofs.DepartureLaws.{ride_end}
use Rattle.plan_rides.proofs.MarkLaws.{member_of_stands_for}
use Rattle.search_laws.specs.Stores.{IsFresh, IsHeldBelow, IsUncut}
use Rattle.round_terms.specs.declared.finals.Final.{Final}
use Rattle.round_terms.specs.declared.label.Label.{Label}
use Rattle.round_search.specs.declared.search.Source.{Source}
use Rattle.round_search.specs.Cuts.{Lacks}
use Rattle.round_terms.specs.Labels.{facts_of}
use Rattle.round_search.specs.Searches.{IsFit, IsSource, IsStartAmong, LeadsByFirst, SpreadsFrom, StepsBy, StepsByFirst, search_of}
use Rattle.round_terms.specs.Steps.{IsCaughtFrom, IsStep, stand_of_facts, start_facts, ways}
use Rattle.round_terms.specs.Tasks.{HasLaws, Task}
use Rattle.round_terms.specs.Terms.{AreEnough, Covers, Facts, facts_after}
use Rattle.round_search.proofs.FoundLaws.{lacks_below}
use Rattle.round_search.proofs.LawfulLaws.{covers-trans}
use Rattle.plan_rides.proofs.StopLaws.{stands_inside}

module _ {F M : Type 0} (task : Task F M) (laws : HasLaws task) where
  -- ---- starts

  -- the label without rides at a first stop
  abbrev pub started : StopId → Label F M
  started first = record {
    stop = first;
    arrival = task.query.departure;
    rides = 0;
    fare = task.terms.begins;
    parent = None;
    ride = None;
    taken = None;
  }

  -- a label of these parts is that one
  pub start_is : (first : StopId) (at : Moment) (fare : F) → at ≡ task.query.departure → fare ≡ task.terms.begins →
      ◌≡◌ {A = Label F M} (record { stop = first; arrival = at; rides = 0; fare = fare; parent = None; ride = None; taken = None })
      (started first)
  start_is first at fare p q = rw (p, q) refl

  pub fresh_start : (first : StopId) → IsTrue (stands_for task.feed task.query.from first) →
      IsFresh (search_of task) [] 0 (started first)
  fresh_start first stands = record {
    fits = record {
      inside = stands_inside task.feed task.query.from first stands;
      within = record { since = omega (arith, ints); until = omega (arith, ints) };
      fare = laws.fares.begins;
    };
    counts = refl;
    linked = inl (record { starts = (stands, refl); begins = record { parent = refl; ride = refl; taken = refl } });
    uncut = λ y at last triple end cut. let lt = at.1 in omega (arith, lt);
  }

  -- one more of the first stops
  pub starts_one : (firsts : List StopId) (k : ℕ) (first : StopId) (b : Facts F) → slice_get firsts k ≡ Some first →
      IsStartAmong task.terms task.query firsts (k + 1) b → IsStartAmong task.terms task.query firsts k b ⊎ (b ≡ start_facts task.terms task.query first)
  starts_one firsts k first b at among =
      let below = among.1 in
      ⊎_elim (λ lower. inl (among.0, lower, among.2, among.3, among.4))
      (λ upper. let same : among.0 ≡ k = omega (arith, below, upper) in
      inr (among.4 ∙ ap (start_facts task.terms task.query) (same_Some _ _ (sym among.3 ∙ ap (slice_get firsts) same ∙ at)))) (cases_lt among.0 k)

  -- each start is at one of them
  pub starts_among : (firsts : List StopId) (n : ℕ) (b : Facts F) → firsts ≡ stop_set task.feed task.query.from → length firsts ≤ n →
      (ways task).Starts b → IsStartAmong task.terms task.query firsts n b
  starts_among firsts n b is all start =
      let member = member_of_stands_for task.feed task.query.from b.stop start.0 in
      let lt = member.1 in
      (member.0, omega (arith, lt, ap length is, all), b.stop, ap (λ ss. slice_get ss member.0) is ∙ member.2, start.1)

  -- ---- rides

  module _ (source : Source F M) (is : IsSource task source) where
    abbrev from : Label F M
    from = source.label.now

    module _ (caught : CaughtRide) (right : IsRight task.feed task.query (stand_of_facts (facts_of source.label.now)) caught) where
      -- a ride that is caught in time is one by which labels go on
      rides_by : IsCaughtFrom task.feed task.query (stand_of_facts (facts_of from)) from.rides caught.ride caught.facts
      rides_by =
          let c = caught_ride task.feed task.query (stand_of_facts (facts_of from)) caught.ride (stand_at_end caught.facts) right.next in
          let same : c.facts ≡ caught.facts = same_Some _ _ (sym c.is ∙ right.facts) in
          record {
            is = right.facts;
            few = is.few;
            caught = subst (λ (f : RideFacts). is_caught from.arrival.0 (way_to task.feed task.query (stand_of_facts (facts_of from)) f.from) f ≡ true) same
                (rw c.way_is (le-int_le _ _ c.catches));
            in_time = c.in_time;
          }

      -- the label after the ride and the move
      abbrev pub went_on : M → Label F M
      went_on move = record {
        stop = caught.facts.to;
        arrival = caught.facts.arrival;
        rides = from.rides + 1;
        fare = task.terms.after (facts_of from) caught.facts move;
        parent = Some source.number;
        ride = Some caught.ride;
        taken = Some move;
      }

      -- a label of these parts is that one
      pub after_is : (move : M) (fare : F) → fare ≡ task.terms.after (facts_of from) caught.facts move →
          ◌≡◌ {A = Label F M}
          (record {
            stop = caught.facts.to;
            arrival = caught.facts.arrival;
            rides = from.rides + 1;
            fare = fare;
            parent = Some source.number;
            ride = Some caught.ride;
            taken = Some move;
          }) (went_on move)
      after_is move fare is = rw is refl

      pub step_after : (move : M) → task.terms.Pays (facts_of from) caught.facts move →
          IsStep task (facts_of from) caught.ride move (facts_of (went_on move))
      step_after move pays = record { fare = is.fit.fare; facts = caught.facts; rides = rides_by; pays = pays; next = refl }

      -- it fits
      pub fits_after : (move : M) → IsSoundFeed task.feed → task.terms.Pays (facts_of from) caught.facts move → IsFit task (went_on move)
      fits_after move sound pays = record {
        inside = ride_end task.feed caught.ride caught.facts sound right.facts;
        within = caught_within task.feed task.query (stand_of_facts (facts_of from)) caught.ride (stand_at_end caught.facts) sound is.fit.within
            right.next;
        fare = laws.fares.stays (facts_of from) caught.facts move is.fit.fare pays;
      }

      pub fresh_after : (move : M) → IsSoundFeed task.feed → task.terms.Pays (facts_of from) caught.facts move →
          IsUncut (search_of task) source.labels.now (went_on move) →
          IsFresh (search_of task) source.labels.now (from.rides + 1) (went_on move)
      fresh_after move sound pays uncut = record {
        fits = fits_after move sound pays;
        counts = refl;
        linked = inr (record {
          number = source.number;
          before = from;
          is = is.is;
          by = caught.ride;
          move = move;
          goes = record { parent = refl; ride = refl; taken = refl };
          step = step_after move pays;
        });
        uncut = uncut;
      }

      -- one more of the moves
      pub leads_more : (moves : List M) (k : ℕ) (move : M) (b : Facts F) → slice_get moves k ≡ Some move →
          LeadsByFirst task.terms (facts_of from) caught moves (k + 1) b →
          LeadsByFirst task.terms (facts_of from) caught moves k b ⊎ (b ≡ facts_after task.terms (facts_of from) caught.facts move)
      leads_more moves k move b at leads =
          let below = leads.1 in
          ⊎_elim (λ lower. inl (leads.0, lower, leads.2, leads.3, leads.4))
          (λ upper. let same : leads.0 ≡ k = omega (arith, below, upper) in
          inr (leads.4 ∙ ap (λ m. facts_after task.terms (facts_of from) caught.facts m)
          (same_Some _ _ (sym leads.3 ∙ ap (slice_get moves) same ∙ at)))) (cases_lt leads.0 k)

      -- a move leads to what is as good as such facts
      record Lesser (moves : List M) (b : Facts F) : Type 0 where
        move : M
        among : Contains moves move
        covers : Covers task.at_most (facts_after task.terms (facts_of from) caught.facts move) b
        of_it : task.terms.IsFare (from.rides + 1) (task.terms.after (facts_of from) caught.facts move)
        of_other : task.terms.IsFare b.rides b.fare

      -- the moves were enough: what the ride leads to by any is held where what it leads to by each of them is
      pub spreads_by : IsSoundFeed task.feed → (finals : List Final) (moves : List M) (n : ℕ) (old new : List (Label F M)) →
          AreEnough task.at_most task.terms (facts_of from) caught.facts moves → length moves ≤ n →
          SpreadsFrom task finals source (LeadsByFirst task.terms (facts_of from) caught moves n) old new →
          SpreadsFrom task finals source (StepsBy task (facts_of from) caught.ride) old new
      spreads_by sound finals moves n old new enough all spreads = record {
        still = spreads.still;
        kept = spreads.kept;
        right = spreads.right;
        all = λ b by. held b by;
      }
        where
          below_step : (b : Facts F) (by : StepsBy task (facts_of from) caught.ride b) → Lesser moves b
          below_step b by =
              let step = by.1 in
              let same : step.facts ≡ caught.facts = same_Some _ _ (sym step.rides.is ∙ right.facts) in
              let pays = subst (λ (f : RideFacts). task.terms.Pays (facts_of from) f by.0) same step.pays in
              let lesser = enough.enough by.0 pays in
              let next = step.next ∙ ap (λ (f : RideFacts). facts_after task.terms (facts_of from) f by.0) same in
              record {
                move = lesser.0;
                among = lesser.1;
                covers = subst (Covers task.at_most (facts_after task.terms (facts_of from) caught.facts lesser.0)) (sym next) (record {
                  stop = refl;
                  arrival = omega (arith, ints);
                  rides = omega arith;
                  fresh = refl;
                  fare = lesser.2;
                });
                of_it = laws.fares.stays (facts_of from) caught.facts lesser.0 is.fit.fare
                    (All-contains (task.terms.Pays (facts_of from) caught.facts) moves lesser.0 enough.right lesser.1);
                of_other = subst (λ (f : Facts F). task.terms.IsFare f.rides f.fare) (sym next)
                    (laws.fares.stays (facts_of from) caught.facts by.0 is.fit.fare pays);
              }

          held : (b : Facts F) → StepsBy task (facts_of from) caught.ride b →
              IsHeldBelow (Covers task.at_most) facts_of new b ⊎ Lacks task finals b
          held b by =
              let some = below_step b by in
              let a = facts_after task.terms (facts_of from) caught.facts some.move in
              let at = slice_get-Contains moves some.move some.among in
              let lt = slice_get_within moves at.0 some.move at.1 in
              ⊎_elim (λ h. inl (h.0, h.1, covers-trans task laws (facts_of h.0) a b h.2 some.covers))
              (λ lack. inr (lacks_below task laws sound finals a b some.of_it some.of_other some.covers lack))
              (spreads.all a (at.0, omega (arith, lt, all), some.move, at.1, refl))

    -- one more of the rides
    pub rides_more : (rides : List CaughtRide) (k : ℕ) (caught : CaughtRide) (b : Facts F) → slice_get rides k ≡ Some caught →
        StepsByFirst task (facts_of from) rides (k + 1) b →
        StepsByFirst task (facts_of from) rides k b ⊎ StepsBy task (facts_of from) caught.ride b
    rides_more rides k caught b at steps =
        let below = steps.1 in
        ⊎_elim (λ lower. inl (steps.0, lower, steps.2, steps.3, steps.4))
        (λ upper. let same : steps.0 ≡ k = omega (arith, below, upper) in
        inr (subst (λ (c : CaughtRide). StepsBy task (facts_of from) c.ride b)
        (same_Some _ _ (sym steps.3 ∙ ap (slice_get rides) same ∙ at)) steps.4)) (cases_lt steps.0 k)

-- one of the first of so many rides is one of the first of more
pub by_first : {F M : Type 0} (task : Task F M) (a : Facts F) (rides : List CaughtRide) (n k : ℕ) (b : Facts F) → n ≤ k →
    StepsByFirst task a rides n b → StepsByFirst task a rides k b
by_first task a rides n k b le steps = let below = steps.1 in (steps.0, omega (arith, below, le), steps.2, steps.3, steps.4)
