-- What the positions are that labels reach, and what is offered of the rides from them.
use Rattle.std.proofs.Common.{◌≡◌, refl, sym, ◌∙◌, ap, subst, ℕ, ◌+◌, ◌<◌, ◌≤◌, ◌⊎◌, inl, inr, ⊎_elim, Bool, true, false, List, [], ◌∷◌, ◌++◌, length, get_or, pos, arith, ℤ, ◌<ℤ◌, ◌≤ℤ◌, ◌-◌, Vec, Global, slice_index_or}
use Rattle.std.specs.Prelude.{Some, Result, Ok, Err, OnOk, slice_get, Contains, IsPermutation, int_le}
use Rattle.std.proofs.lemmas.Bool.{both_ways, cases_lt}
use Rattle.std.proofs.lemmas.Int.{ints}
use Rattle.std.proofs.lemmas.List.Sorted.{Contains-permutation, IsPermutation-sym}
use Rattle.std.specs.Vec.{vec_len}
use Rattle.std.proofs.lemmas.Option.{same_Some, slice_get-get_or, slice_get_read, slice_get_within}
use Rattle.feed_rows.specs.declared.journeys.Ride.{Ride}
use Rattle.feed_rows.specs.JourneyStands.{Stand, stand_at_end}
use Rattle.std.proofs.lemmas.List.{length_push}
use Rattle.plain_laws.proofs.Laws.{Contains-slice_get, int_le-true, slice_get-Contains, slice_get-push_before, slice_get-push_last}
use Rattle.plan_rides.specs.Cutoffs.{AreLastDepartures, CutoffOf, cutoff_of, is_early}
use Rattle.plan_rides.specs.InTime.{IsRight, IsUsualQuery, IsWithinWindow, deadline, next_in_time}
use Rattle.plan_rides.specs.Reached.{AddsReached, HoldsFrom, IsAny, IsReachedFrom, Positioned}
use Rattle.plan_rides.specs.declared.caught.CaughtRide.{CaughtRide}
use Rattle.plan_rides.specs.declared.positions.Reached.{Reached}
use Rattle.plan_rides.proofs.FoundLaws.{has_kept, kept_never, kept_right}
use Rattle.round_terms.specs.declared.label.Label.{Label}
use Rattle.round_search.specs.declared.scan.Round.{Round}
use Rattle.round_search.specs.declared.search.Source.{Source}
use Rattle.round_search.specs.declared.bounds.Until.{Until}
use Rattle.round_search.specs.declared.offers.Limits.{Limits}
use Rattle.round_search.specs.declared.offers.Served.{Served}
use Rattle.round_search.specs.declared.scan.Marks.{Marks}
use Rattle.transit_base.specs.declared.moments.Moment.{Moment}
use Rattle.feed_rows.specs.declared.journeys.RideFacts.{RideFacts}
use Rattle.round_search.specs.Bounds.{IsAnyRide, IsFair}
use Rattle.round_search.specs.Cuts.{Lacks, is_cut}
use Rattle.round_terms.specs.Labels.{facts_of}
use Rattle.round_search.specs.Offers.{AreLimits, IsBehind, IsLeftOut}
use Rattle.round_search.specs.Scans.{AddsLabel, AddsMarks, AreMarks, AreMarksTo, AreReached, AreUntilsIn, HaveUntils, IsMarked, IsOrigin, IsRound, StepsAmong, StepsAt, StepsAtFirst, StepsFromPosition}
use Rattle.round_search.specs.Settled.{ArePassed, IsDone}
use Rattle.round_search.specs.Searches.{IsSource, StepsBy, StepsByFirst, StepsTo}
use Rattle.round_terms.specs.Steps.{IsStep, stand_of_facts}
use Rattle.round_terms.specs.Terms.{Facts}
use Rattle.round_search.proofs.BoundLaws.{untils_cut}
use Rattle.round_search.proofs.FoundLaws.{cut_lacks, lacks_after, step_cut}
use Rattle.round_search.proofs.RideLaws.{rides_more}
use Rattle.round_search.proofs.SpanLaws.{in_time_of}
use Rattle.round_search.proofs.SourceLaws.{within_more}
use Rattle.round_terms.specs.Tasks.{HasLaws, Task}

-- (what stands in a list doesn't hang on this)
abbrev pub no_until : Until
no_until = record { all = record { 0 = pos 0 }; since = record { 0 = pos 0 }; late = record { 0 = pos 0 } }

-- ---- labels of a round

-- a label that goes on is a source with its number
pub source_of : {F M : Type 0} (task : Task F M) (source : Source F M) → IsUsualQuery task.query →
    slice_get source.labels.now source.number ≡ Some source.label.now → IsOrigin task source.label.now →
    IsSource task source
source_of task source usual at is = record { is = at; usual = usual; few = is.few; fit = is.fit; may = is.may }

-- what is read where the positions are the same
pub position_at : (list now : Vec Reached Global) (k n : ℕ) (x : Reached) → now ≡ list → k < n → n ≡ vec_len list →
    x ≡ slice_index_or now.items k x → slice_get list.items k ≡ Some x
position_at list now k n x same below many is =
    slice_get_read list.items (length list.items) k x refl (omega (arith, below, many, list.ok.0))
    (subst (λ (v : Vec Reached Global). x ≡ slice_index_or v.items k x) same is)

-- ---- the steps by one position after another

module _ {F M : Type 0} (task : Task F M) (round : Round F M) where
  pub steps_more : (list : List Reached) (k : ℕ) (x : Reached) (b : Facts F) → slice_get list k ≡ Some x →
      StepsAtFirst task round list (k + 1) b →
      StepsAtFirst task round list k b ⊎ StepsFromPosition task round x b
  steps_more list k x b at steps =
      let below = steps.1 in
      ⊎_elim (λ lower. inl (steps.0, lower, steps.2, steps.3, steps.4))
      (λ upper. let same : steps.0 ≡ k = omega (arith, below, upper) in
      inr (subst (λ (y : Reached). StepsFromPosition task round y b) (same_Some _ _ (sym steps.3 ∙ ap (slice_get list) same ∙ at)) steps.4))
      (cases_lt steps.0 k)

  pub steps_all : (list : List Reached) (n : ℕ) (b : Facts F) → length list ≤ n → StepsAmong task round list b →
      StepsAtFirst task round list n b
  steps_all list n b whole among =
      let at = slice_get-Contains list among.0 among.1 in
      let lt = slice_get_within list at.0 among.0 at.1 in
      (at.0, omega (arith, lt, whole), among.0, at.1, among.2)

module _ {F M : Type 0} (task : Task F M) (laws : HasLaws task) where
  -- a ride of a step is caught in time, also where the positions are of the same feed and query
  step_caught : (me : Positioned) (a b : Facts F) → me.feed ≡ task.feed → me.query ≡ task.query → (to : StepsTo task a b) →
      next_in_time me.feed me.query (stand_of_facts a) to.0 ≡ Some (stand_at_end to.2.facts)
  step_caught me a b of for to =
      subst (λ f. next_in_time f me.query (stand_of_facts a) to.0 ≡ Some (stand_at_end to.2.facts)) (sym of)
      (subst (λ q. next_in_time task.feed q (stand_of_facts a) to.0 ≡ Some (stand_at_end to.2.facts)) (sym for)
      (in_time_of task a to.0 to.2.facts to.2.rides))

  module _ (round : Round F M) (is : IsRound task round) where
    abbrev me : Positioned
    me = round.positions.now

    -- what was reached leads to each step, but for those behind which the search may lack all
    pub marks_of : (source : Source F M) (latest lasts : CutoffOf) (old new : List Reached) →
        IsFair task round.finals.now (facts_of source.label.now) IsAnyRide latest → AreLastDepartures task.feed task.query latest lasts →
        AddsReached round.positions.now lasts (stand_of_facts (facts_of source.label.now)) source.number IsAny old new →
        AddsMarks task round source old new
    marks_of source latest lasts old new fair last adds = record {
      still = adds.still;
      all = λ b to. by b to (is_early latest to.2.facts.to.0 to.2.facts.arrival.0) refl;
      right = adds.right;
    }
      where
        last_here : AreLastDepartures me.feed me.query latest lasts
        last_here = subst (λ f. AreLastDepartures f me.query latest lasts) (sym is.of)
            (subst (λ q. AreLastDepartures task.feed q latest lasts) (sym is.for) last)

        by : (b : Facts F) (to : StepsTo task (facts_of source.label.now) b) (early : Bool) →
            is_early latest to.2.facts.to.0 to.2.facts.arrival.0 ≡ early →
            ((reached : Reached) × Contains new reached × (reached.number ≡ source.number)
            × StepsAt task me (facts_of source.label.now) reached b)
            ⊎ Lacks task round.finals.now b
        by b to true early =
            let has = adds.all latest last_here to.0 (stand_at_end to.2.facts)
            (step_caught me (facts_of source.label.now) b is.of is.for to) early tt in
            inl (has.0, has.1, has.2, (to, has.3))
        by b to false late = inr (fair b to tt late)

    -- departures that are last are so for the positions of the round
    pub lasts_in : (latest lasts : CutoffOf) → AreLastDepartures task.feed task.query latest lasts → AreLastDepartures me.feed me.query latest lasts
    lasts_in latest lasts last =
        subst (λ f. AreLastDepartures f me.query latest lasts) (sym is.of)
        (subst (λ q. AreLastDepartures task.feed q latest lasts) (sym is.for) last)

    -- ---- the positions that all labels reach

    -- those of none
    pub none_reached : (list : List Reached) → list ≡ [] → AreReached task round round.begin list
    none_reached list none = record {
      all = λ b steps. let since = steps.1 in let below = steps.2 in absurd (omega (arith, since, below));
      right = λ reached at. absurd (nothing (subst (λ ls. Contains ls reached) none at));
    }
      where
        nothing : {X : Type 0} {x : X} → Contains [] x → ⊥
        nothing at = let lt = at.1 in omega (arith, lt)

    -- those of one label more
    pub label_reached : (source : Source F M) (k : ℕ) (old new : List Reached) → source.number ≡ k →
        slice_get round.labels.now k ≡ Some source.label.now → round.begin ≤ k →
        AreReached task round k old → AddsMarks task round source old new → AreReached task round (k + 1) new
    label_reached source k old new numbered at since before adds = record {
      all = λ b steps. ⊎_elim
          (λ lower. ⊎_elim (λ among. inl (among.0, adds.still among.0 among.1, among.2)) inr (before.all b lower))
          (λ to. ⊎_elim
          (λ has. inl (has.0, has.1, (source.label.now, ap (slice_get round.labels.now) (has.2 ∙ numbered) ∙ at, has.3)))
          inr (adds.all b to))
          (within_more task round.labels.now round.begin k source.label.now b at steps);
      right = λ reached has. ⊎_elim (before.right reached)
          (λ own. record {
            label = source.label.now;
            is = ap (slice_get round.labels.now) (own.0 ∙ numbered) ∙ at;
            within = subst (λ n. n < length round.labels.now) (sym (own.0 ∙ numbered))
                (slice_get_within round.labels.now k source.label.now at);
            since = subst (λ n. round.begin ≤ n) (sym (own.0 ∙ numbered)) since;
            from = own.1;
          })
          (adds.right reached has);
    }

    -- a label that is cut off leads to what the search may lack
    pub marks_cut : (source : Source F M) (list : List Reached) → is_cut task round.finals.now (facts_of source.label.now) ≡ true →
        AddsMarks task round source list list
    marks_cut source list cut = record {
      still = λ reached at. at;
      all = λ b to.
          inr (lacks_after task laws is.sound round.finals.now (facts_of source.label.now) b to.0 to.1 to.2
          (cut_lacks task laws is.sound round.finals.now (facts_of source.label.now) cut));
      right = λ reached at. inl at;
    }

    -- so its marks are no position, and a moment
    pub adds_cut : (source : Source F M) (old new : Marks) {E : Type 0} (result : Result (Unit {0}) E) →
        is_cut task round.finals.now (facts_of source.label.now) ≡ true → (until : Moment) → until.0 ≤ℤ deadline task.query →
        OnOk result (new.untils.items ≡ old.untils.items ++ (record { all = until; since = until; late = until }) ∷ []) →
        OnOk result (new.reached ≡ old.reached) → OnOk result (old.last.0 ≤ℤ new.last.0) → OnOk result (until.0 ≤ℤ new.last.0) →
        OnOk result ((new.last ≡ old.last) ⊎ (new.last ≡ until)) → OnOk result (AddsLabel task round source old new)
    adds_cut source old new (Err e) cut until within untils reached later last one = untils
    adds_cut source old new (Ok u) cut until within untils reached later last one = record {
      reached = subst (λ (list : Vec Reached Global). AddsMarks task round source old.reached.items list.items) (sym reached)
          (marks_cut source old.reached.items cut);
      until = record { all = until; since = until; late = until };
      are = untils_cut task laws is.sound round.finals.now (facts_of source.label.now) cut until within;
      untils = untils;
      before = last;
      later = later;
      last = one;
    }

    -- in another order
    pub reached_moved : (n : ℕ) (old new : List Reached) → IsPermutation old new → AreReached task round n old →
        AreReached task round n new
    reached_moved n old new moved before = record {
      all = λ b steps. ⊎_elim (λ among. inl (among.0, Contains-permutation old new among.0 moved among.1, among.2)) inr (before.all b steps);
      right = λ reached at. before.right reached (Contains-permutation new old reached (IsPermutation-sym old new moved) at);
    }

    -- ---- the moments of the labels

    -- those of one label more
    pub untils_more : (untils : List Until) (old last : ℤ) (k : ℕ) (next : Until) (y : Label F M) → round.begin + length untils ≡ k →
        old ≤ℤ last → slice_get round.labels.now k ≡ Some y → AreUntilsIn task round last y next →
        HaveUntils task round old untils → HaveUntils task round last (untils ++ next ∷ [])
    untils_more untils old last k next y many later at own before place x until there has =
        let lt = slice_get_within (untils ++ next ∷ []) place until has in
        let long = length_push untils next in
        ⊎_elim
        (λ (lower : place < length untils).
        let was = before place x until there (sym (slice_get-push_before untils next place lower) ∙ has) in
        let sooner = was.before in
        record { are = was.are; before = omega (arith, ints, sooner, later) })
        (λ (upper : length untils ≤ place).
        let same : place ≡ length untils = omega (arith, lt, long, upper) in
        let is_y : y ≡ x = same_Some _ _ (sym at ∙ ap (slice_get round.labels.now) (sym many ∙ ap (λ n. round.begin + n) (sym same)) ∙ there) in
        let is_next : next ≡ until = same_Some _ _ (sym (slice_get-push_last untils next place same) ∙ has) in
        subst (AreUntilsIn task round last x) is_next (subst (λ (z : Label F M). AreUntilsIn task round last z next) is_y own))
        (cases_lt place (length untils))

    -- so it is with all marks
    pub marks_more : (source : Source F M) (k : ℕ) (old new : Marks) → source.number ≡ k → slice_get round.labels.now k ≡ Some source.label.now →
        round.begin ≤ k → AreMarksTo task round k old → AddsLabel task round source old new → AreMarksTo task round (k + 1) new
    marks_more source k old new numbered at since before adds =
        let long = length_push old.untils.items adds.until in
        let grown = ap length adds.untils in
        let many = before.many in
        record {
          reached = label_reached source k old.reached.items new.reached.items numbered at since before.reached adds.reached;
          many = omega (arith, long, grown, many);
          untils = subst (HaveUntils task round new.last.0) (sym adds.untils)
              (untils_more old.untils.items old.last.0 new.last.0 k adds.until source.label.now many adds.later at
              (record { are = adds.are; before = adds.before }) before.untils);
          last = ⊎_elim (λ same. subst (λ (m : Moment). m.0 ≤ℤ deadline task.query) (sym same) before.last)
              (λ same. subst (λ (m : Moment). m.0 ≤ℤ deadline task.query) (sym same) adds.are.all.within) adds.last;
        }

    -- with those of none
    pub marks_none : (marks : Marks) → marks.reached.items ≡ [] → marks.untils.items ≡ [] → marks.last.0 ≤ℤ deadline task.query →
        AreMarksTo task round round.begin marks
    marks_none marks none empty last = record {
      reached = none_reached marks.reached.items none;
      many = let short = ap length empty in omega (arith, short);
      untils = λ place x until there has.
          let lt = slice_get_within marks.untils.items place until has in
          let short = ap length empty in
          absurd (omega (arith, lt, short));
      last = last;
    }

    -- with positions in another order
    pub marks_moved : (n : ℕ) (marks : Marks) (list : Vec Reached Global) → IsPermutation marks.reached.items list.items →
        AreMarksTo task round n marks → AreMarksTo task round n (record marks { reached = list })
    marks_moved n marks list moved before = record {
      reached = reached_moved n marks.reached.items list.items moved before.reached;
      many = before.many;
      untils = before.untils;
      last = before.last;
    }

    -- the moments of the label that reaches a position
    pub until_at : (marks : Marks) (reached : Reached) (x : Label F M) (until : Until) → AreMarks task round marks →
        IsMarked round reached → slice_get round.labels.now reached.number ≡ Some x →
        slice_get marks.untils.items (reached.number - round.begin) ≡ Some until → AreUntilsIn task round marks.last.0 x until
    until_at marks reached x until are marked at has =
        let since = marked.since in
        let split : round.begin + (reached.number - round.begin) ≡ reached.number = omega (arith, since) in
        are.untils (reached.number - round.begin) x until (ap (slice_get round.labels.now) split ∙ at) has

    -- they are there
    pub until_of : (marks : Marks) (reached : Reached) → AreMarks task round marks → IsMarked round reached →
        reached.number - round.begin < vec_len marks.untils
    until_of marks reached are marked =
        let many = are.many in
        let within = marked.within in
        let since = marked.since in
        omega (arith, many, within, since, marks.untils.ok.0)

    pub until_found : (marks : Marks) (reached : Reached) (x : Label F M) → AreMarks task round marks → IsMarked round reached →
        slice_get round.labels.now reached.number ≡ Some x →
        (until : Until) × (slice_get marks.untils.items (reached.number - round.begin) ≡ Some until) × AreUntilsIn task round marks.last.0 x until
    until_found marks reached x are marked at =
        let lt = until_of marks reached are marked in
        let place = reached.number - round.begin in
        let has = slice_get-get_or marks.untils.items place no_until (omega (arith, lt, marks.untils.ok.0)) in
        (get_or marks.untils.items place no_until, has, until_at marks reached x _ are marked at has)

    -- ---- the rides from a position

    module _ (source : Source F M) (own : IsSource task source) (reached : Reached) (latest : CutoffOf) (rides : List CaughtRide)
        (from : IsReachedFrom round.positions.now (stand_of_facts (facts_of source.label.now)) reached)
        (holds : HoldsFrom round.positions.now latest reached rides) where
      abbrev stand : Stand
      stand = stand_of_facts (facts_of source.label.now)

      -- one that departs no earlier than one gets there is caught
      pub right_from : (caught : CaughtRide) → Contains rides caught → int_le reached.earliest.0 caught.facts.departure.0 ≡ true →
          IsRight task.feed task.query stand caught
      right_from caught at since =
          subst (λ q. IsRight task.feed q stand caught) is.for
          (subst (λ f. IsRight f me.query stand caught) is.of
          (kept_right me latest stand reached rides from holds caught at (int_le-true _ _ since)))

      -- it is the step by which the label goes on, or an earlier one is
      by_ride : (k : ℕ) (caught : CaughtRide) (b : Facts F) → slice_get rides k ≡ Some caught →
          StepsByFirst task (facts_of source.label.now) rides (k + 1) b →
          StepsByFirst task (facts_of source.label.now) rides k b ⊎ StepsBy task (facts_of source.label.now) caught.ride b
      by_ride = rides_more task laws source own rides

      -- one that departs earlier leads nowhere
      pub by_passed : (k : ℕ) (caught : CaughtRide) (b : Facts F) → slice_get rides k ≡ Some caught →
          int_le reached.earliest.0 caught.facts.departure.0 ≡ false →
          StepsByFirst task (facts_of source.label.now) rides (k + 1) b →
          StepsByFirst task (facts_of source.label.now) rides k b
      by_passed k caught b at before steps =
          ⊎_elim (λ lower. lower)
          (λ by.
          absurd (kept_never me latest stand reached rides from holds caught (stand_at_end by.1.facts) (Contains-slice_get rides k caught at)
          (earlier reached.earliest.0 caught.facts.departure.0 before)
          (step_caught me (facts_of source.label.now) b is.of is.for (caught.ride, by.0, by.1))))
          (by_ride k caught b at steps)
        where
          earlier : (y z : ℤ) → int_le y z ≡ false → z <ℤ y
          earlier y z is = grind (arith, ints, is)

      -- one behind the limits leads to what the search may lack
      lacks_behind : (limits : Limits) (caught : CaughtRide) (b : Facts F) → AreLimits task round.finals.now (facts_of source.label.now) limits →
          IsBehind limits caught.facts → (by : StepsBy task (facts_of source.label.now) caught.ride b) → by.1.facts ≡ caught.facts →
          Lacks task round.finals.now b
      lacks_behind limits caught b are (inl late) by same =
          are.all b (caught.ride, by.0, by.1) tt
          (subst (λ (f : RideFacts). is_early (cutoff_of limits.latest) f.to.0 f.arrival.0 ≡ false) (sym same) late)
      lacks_behind limits caught b are (inr (inl late)) by same =
          are.late b (caught.ride, by.0, by.1) (subst (λ (f : RideFacts). limits.since.0 <ℤ f.departure.0) (sym same) late.0)
          (subst (λ (f : RideFacts). is_early (cutoff_of limits.late) f.to.0 f.arrival.0 ≡ false) (sym same) late.1)
      lacks_behind limits caught b are (inr (inr after)) by same =
          step_cut task laws is.sound round.finals.now (facts_of source.label.now) b caught.ride by.0 by.1
          (are.after by.1.facts.arrival.0 (subst (λ (f : RideFacts). limits.after.0 <ℤ f.arrival.0) (sym same) after) by.1.rides.in_time)

      -- one that needn't be tried leads to what is done already, or to what the search may lack
      left_out : {L : Type 0} (served : Served L) (bags : List (Label F M)) (caught : CaughtRide) (b : Facts F) → Contains rides caught →
          int_le reached.earliest.0 caught.facts.departure.0 ≡ true →
          AreLimits task round.finals.now (facts_of source.label.now) served.limits →
          ArePassed task round.finals.now (facts_of source.label.now) reached.earliest.0 rides served.passed.0 bags →
          IsLeftOut task served caught.facts → StepsBy task (facts_of source.label.now) caught.ride b → IsDone task round.finals.now bags b
      left_out served bags caught b has since are passed (inl departs) by = passed caught b has since departs by
      left_out served bags caught b has since are passed (inr (inl behind)) by =
          inr (lacks_behind served.limits caught b are behind by (same_Some _ _ (sym by.1.rides.is ∙ (right_from caught has since).facts)))
      left_out served bags caught b has since are passed (inr (inr loose)) by = inr (λ strict. absurd (both_ways task.loose strict loose))

      pub by_left_out : {L : Type 0} (served : Served L) (bags : List (Label F M)) (k : ℕ) (caught : CaughtRide) (b : Facts F) →
          slice_get rides k ≡ Some caught → int_le reached.earliest.0 caught.facts.departure.0 ≡ true →
          AreLimits task round.finals.now (facts_of source.label.now) served.limits →
          ArePassed task round.finals.now (facts_of source.label.now) reached.earliest.0 rides served.passed.0 bags →
          IsLeftOut task served caught.facts → StepsByFirst task (facts_of source.label.now) rides (k + 1) b →
          StepsByFirst task (facts_of source.label.now) rides k b ⊎ IsDone task round.finals.now bags b
      by_left_out served bags k caught b at since are passed left steps =
          ⊎_elim inl
          (λ by. inr (left_out served bags caught b (Contains-slice_get rides k caught at) since are passed left by))
          (by_ride k caught b at steps)

      -- each step by a ride from there is by one of them, or leads to what the search may lack
      pub steps_from : (n : ℕ) (b : Facts F) → length rides ≤ n → IsFair task round.finals.now (facts_of source.label.now) IsAnyRide latest →
          StepsAt task me (facts_of source.label.now) reached b →
          StepsByFirst task (facts_of source.label.now) rides n b ⊎ Lacks task round.finals.now b
      steps_from n b all fair step = by (is_early latest step.0.2.facts.to.0 step.0.2.facts.arrival.0) refl
        where
          within : IsWithinWindow me.query stand.at
          within = subst (λ q. IsWithinWindow q stand.at) (sym is.for) own.fit.within

          by : (early : Bool) → is_early latest step.0.2.facts.to.0 step.0.2.facts.arrival.0 ≡ early →
              StepsByFirst task (facts_of source.label.now) rides n b ⊎ Lacks task round.finals.now b
          by true early =
              let some =
              has_kept me latest stand reached rides from holds step.0.0 (stand_at_end step.0.2.facts) within
              (step_caught me (facts_of source.label.now) b is.of is.for step.0) early step.1 in
              let at = slice_get-Contains rides some.0 some.1 in
              let lt = slice_get_within rides at.0 some.0 at.1 in
              inl (
                at.0,
                omega (arith, lt, all),
                some.0,
                at.1,
                (step.0.1, subst (λ (r : Ride). IsStep task (facts_of source.label.now) r step.0.1 b) (sym some.2) step.0.2),
              )
          by false late = inr (fair b step.0 tt late)
