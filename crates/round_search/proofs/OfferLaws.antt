-- How a round goes on from the positions that its labels reach, and a label from one of them.
use Rattle.std.proofs.Common.{◌≡◌, refl, sym, ◌∙◌, ap, subst, ℕ, ◌+◌, ◌-◌, ◌<◌, ◌≤◌, ◌^◌, ◌⊎◌, inl, inr, ⊎_elim, true, List, [], length, arith}
use Rattle.std.specs.Prelude.{All, Contains, IfSome, Option, Some, int_le, slice_get}
use Rattle.std.proofs.lemmas.Option.{same_Some, slice_get_within}
use Rattle.transit_base.specs.declared.moments.Moment.{Moment}
use Rattle.feed_rows.specs.Limits.{most_rides}
use Rattle.feed_rows.specs.SoundFeed.{IsSoundFeed}
use Rattle.feed_rows.specs.declared.journeys.RideFacts.{RideFacts}
use Rattle.plain_laws.proofs.Laws.{All-from, slice_get-Contains}
use Rattle.plan_rides.specs.Cutoffs.{AreLastDepartures, CutoffOf, cutoff_of}
use Rattle.plan_rides.specs.InTime.{IsRight, IsUsualQuery, IsWithinWindow, deadline}
use Rattle.plan_rides.specs.Reached.{AreKept, HoldsFrom, IsReachedFrom, Kept as KeptRides, none_kept}
use Rattle.plan_rides.specs.declared.caught.CaughtRide.{CaughtRide}
use Rattle.plan_rides.specs.declared.positions.Reached.{Reached}
use Rattle.search_laws.specs.Stores.{IsHeldBelow, Spreads, StepsFrom}
use Rattle.search_laws.proofs.SpreadLaws.{spreads_but, spreads_same}
use Rattle.round_terms.specs.declared.finals.Final.{Final}
use Rattle.round_terms.specs.declared.label.Label.{Label}
use Rattle.round_terms.specs.Labels.{facts_of}
use Rattle.round_terms.specs.Legs.{AreKnown}
use Rattle.round_terms.specs.Steps.{stand_of_facts}
use Rattle.round_terms.specs.Tasks.{HasLaws, Task}
use Rattle.round_terms.specs.Terms.{Covers, Facts}
use Rattle.round_search.specs.declared.bounds.Until.{Until}
use Rattle.round_search.specs.declared.kept.Kept.{Kept}
use Rattle.round_search.specs.declared.offers.Scan.{Scan}
use Rattle.round_search.specs.declared.scan.Marks.{Marks}
use Rattle.round_search.specs.declared.scan.Round.{Round}
use Rattle.round_search.specs.declared.search.Found.{Found}
use Rattle.round_search.specs.declared.search.Source.{Source}
use Rattle.round_search.specs.declared.settled.SettledLabel.{SettledLabel}
use Rattle.round_search.specs.Bounds.{IsAnyRide, IsFair, IsUntil}
use Rattle.round_search.specs.Cuts.{Lacks}
use Rattle.round_search.specs.Finals.{HasEnds}
use Rattle.round_search.specs.Offers.{IsKept, IsPlace}
use Rattle.round_search.specs.Scans.{AreMarks, IsMarked, IsOrigin, IsRound, SpreadsIn, StepsAmong, StepsAt, StepsFromPosition}
use Rattle.round_search.specs.Searches.{AreLast, IsGathered, IsSource, StepsByFirst, search_of}
use Rattle.round_search.specs.Settled.{AddsLabel, ArePassed, HasCheaper, IsSettledAt, IsTried}
use Rattle.round_search.proofs.BoundLaws.{until_later}
use Rattle.round_search.proofs.ScanLaws.{right_from, source_of, until_at, until_found, until_of}
use Rattle.round_search.proofs.SettledLaws.{if_settled, labels_added, passed_by, tried_own, tried_still}
use Rattle.round_search.proofs.SourceLaws.{origin_is, within_all}

-- ---- rounds

-- what was gathered is a round, where the positions are those of the search
pub round_of : {F M : Type 0} (task : Task F M) (round : Round F M) (found : Found F M) (bags : List (Label F M)) →
    round.positions.now.feed ≡ task.feed → round.positions.now.query ≡ task.query → IsSoundFeed task.feed → IsUsualQuery task.query →
    round.count < task.query.rides → IsGathered task round.count found bags → round.labels.now ≡ found.labels.items →
    round.finals.now ≡ found.front → round.begin ≡ found.begin → IsRound task round
round_of {F} {M} task round found bags of for sound usual few are same ends begins = record {
  of = of;
  for = for;
  sound = sound;
  usual = usual;
  numbers = subst (λ (ls : List (Label F M)). length ls < 2 ^ 32) (sym same) are.numbers;
  few = few;
  last = last;
  origins = λ number x at since.
      origin_is task number x round.count found.labels.items bags few are.stored
      (ap (λ (ls : List (Label F M)). slice_get ls number) (sym same) ∙ at) (last.last number x at since);
  ended = subst (λ (ls : List (Label F M)). HasEnds task ls round.finals.now) (sym same)
      (subst (HasEnds task found.labels.items) (sym ends) (λ triple e. are.ended.all triple e));
}
  where
    last : AreLast round.count round.begin round.labels.now
    last =
        subst (AreLast round.count round.begin) (sym same)
        (subst (λ n. AreLast round.count n found.labels.items) (sym begins) are.last)

-- what the positions that are marked lead to is what one more ride leads to
pub spreads_marked : {F M : Type 0} (task : Task F M) (round : Round F M) → IsRound task round → (marks : Marks) → AreMarks task round marks →
    (old new : List (Label F M)) → SpreadsIn task round (StepsAmong task round marks.reached.items) old new →
    SpreadsIn task round (StepsFrom (search_of task) round.labels.now round.count) old new
spreads_marked task round is marks are old new spreads =
    let labels = round.labels.now in
    spreads_but (search_of task) (Lacks task round.finals.now) labels (round.count + 1) (StepsAmong task round marks.reached.items)
    (StepsFrom (search_of task) labels round.count) old new spreads
    (λ b from. are.reached.all b (within_all task labels round.begin round.count (length labels) b is.last (omega arith) from))

-- ---- positions of a round

module _ {F M : Type 0} (task : Task F M) (laws : HasLaws task) (scan : Scan F M) (is : IsRound task scan.round.now) (marks : Marks)
    (are : AreMarks task scan.round.now marks) where
  abbrev finals : List Final
  finals = scan.round.now.finals.now

  -- the positions that are marked are such of a scan by these moments
  pub are_places : scan.untils.now ≡ marks.untils.items →
      AreLastDepartures task.feed task.query (cutoff_of scan.cutoffs.latest) (cutoff_of scan.cutoffs.lasts) → (more : ℕ) →
      ((finals : List Final) (a : Facts F) → IsWithinWindow task.query a.arrival → IsUntil task finals a IsAnyRide marks.last.0 →
      a.rides + 1 + more ≡ task.query.rides → IsFair task finals a IsAnyRide (cutoff_of scan.cutoffs.latest)) →
      scan.round.now.count + 1 + more ≡ task.query.rides → All (IsPlace task scan) marks.reached.items
  are_places same lasts more fair behind = All-from (IsPlace task scan) marks.reached.items place
    where
      place : (reached : Reached) → Contains marks.reached.items reached → IsPlace task scan reached
      place reached has =
          let marked = are.reached.right reached has in
          record {
            round = is;
            marked = marked;
            lasts = lasts;
            fair = λ x at.
                let until = until_found task laws scan.round.now is marks reached x are marked at in
                let counts = is.last.last reached.number x at marked.since in
                fair finals (facts_of x) (is.origins reached.number x at marked.since).fit.within
                (until_later task finals (facts_of x) IsAnyRide until.0.all.0 marks.last.0 until.2.are.all until.2.before are.last)
                (omega (arith, counts, behind));
            some = subst (λ (us : List Until). reached.number - scan.round.now.begin < length us) (sym same)
                (let lt = until_of task laws scan.round.now is marks reached are marked in omega (arith, lt, marks.untils.ok.0));
            until = λ x until at has.
                (until_at task laws scan.round.now is marks reached x until are marked at
                (subst (λ (us : List Until). slice_get us (reached.number - scan.round.now.begin) ≡ Some until) same has)).are;
          }

  -- no rides are kept yet
  pub none_tried : {L : Type 0} (Is : ℕ → RideFacts → Type 0) (kept : Kept L) (bags : List (Label F M)) → kept.rides ≡ none_kept →
      kept.settled.labels.items ≡ [] → IsKept task Is scan kept bags
  none_tried Is kept bags none empty = record {
    are = subst (λ (k : KeptRides). AreKept scan.round.now.positions.now (cutoff_of scan.cutoffs.latest) k) (sym none) tt;
    known = subst (λ (k : KeptRides). AreKnown Is k.rides) (sym none)
        (λ place caught at. let lt = slice_get_within [] place caught at in absurd (omega (arith, lt)));
    tried = subst (All (IsTried task finals scan.round.now.count kept.rides.rides bags)) (sym empty) (λ k d lt. absurd (omega (arith, lt)));
  }

-- ---- a label at a position

module _ {F M : Type 0} (task : Task F M) (laws : HasLaws task) (round : Round F M) (is : IsRound task round) (reached : Reached)
    (marked : IsMarked round reached) (x : Label F M) (at : slice_get round.labels.now reached.number ≡ Some x) where
  -- the label goes on
  pub origin : IsOrigin task x
  origin = is.origins reached.number x at marked.since

  pub counts : x.rides ≡ round.count
  counts = is.last.last reached.number x at marked.since

  pub few : x.rides ≤ most_rides
  few =
      let less = origin.few in
      let usual = is.usual.rides in
      omega (arith, less, usual)

  pub from : IsReachedFrom round.positions.now (stand_of_facts (facts_of x)) reached
  from =
      subst (λ (y : Label F M). IsReachedFrom round.positions.now (stand_of_facts (facts_of y)) reached)
      (same_Some marked.label x (sym marked.is ∙ at)) marked.from

  abbrev source : Source F M
  source = record {
    labels = record { ref_ptr = (0, 0); now = round.labels.now };
    number = reached.number;
    label = record { ref_ptr = (0, 0); now = x };
  }

  own : IsSource task source
  own = source_of task source is.usual at origin

  -- what it leads to is what the position leads to
  pub spreads_here : (old new : List (Label F M)) →
      Spreads (search_of task) (Lacks task round.finals.now) round.labels.now (x.rides + 1)
      (StepsAt task round.positions.now (facts_of x) reached) old new →
      SpreadsIn task round (StepsFromPosition task round reached) old new
  spreads_here old new spreads =
      let Part = StepsAt task round.positions.now (facts_of x) reached in
      spreads_same (search_of task) (Lacks task round.finals.now) round.labels.now (round.count + 1) Part
      (StepsFromPosition task round reached) old new
      (subst (λ n. Spreads (search_of task) (Lacks task round.finals.now) round.labels.now (n + 1) Part old new) counts spreads)
      (λ b step.
      subst (λ (y : Label F M). StepsAt task round.positions.now (facts_of y) reached b) (same_Some step.0 x (sym step.1 ∙ at)) step.2)

  module _ (latest : CutoffOf) (rides : List CaughtRide) (holds : HoldsFrom round.positions.now latest reached rides)
      (Is : ℕ → RideFacts → Type 0) (known : AreKnown Is rides) where
    rights : (caught : CaughtRide) → Contains rides caught → int_le reached.earliest.0 caught.facts.departure.0 ≡ true →
        IsRight task.feed task.query (stand_of_facts (facts_of x)) caught
    rights = right_from task laws round is source own reached latest rides from holds

    -- all is done to which the rides lead that depart when they have passed
    pub passed_here : (bags : List (Label F M)) (labels : List SettledLabel) →
        All (IsTried task round.finals.now round.count rides bags) labels → (settled : Option SettledLabel) →
        IfSome settled (IsSettledAt task Is x reached) → (passed last : Moment) → last.0 ≡ deadline task.query →
        (passed ≡ last) ⊎ HasCheaper labels settled passed.0 →
        ArePassed task round.finals.now (facts_of x) reached.earliest.0 rides passed.0 bags
    passed_here bags labels tried settled at_it passed last is_last told =
        passed_by task laws is.sound round.finals.now round.count x origin.fit.fare counts reached rides Is known rights bags labels tried settled
        at_it passed.0 last.0 is_last (⊎_elim (λ same. inl (ap (λ (m : Moment). m.0) same)) inr told)

    -- the label is tried, where each of the rides is
    tried_here : (bags : List (Label F M)) →
        ((b : Facts F) → StepsByFirst task (facts_of x) rides (length rides) b →
        IsHeldBelow (Covers task.at_most) facts_of bags b ⊎ Lacks task round.finals.now b) →
        (settled : SettledLabel) → IsSettledAt task Is x reached settled → IsTried task round.finals.now round.count rides bags settled
    tried_here bags done =
        tried_own task laws is.sound round.finals.now round.count x origin.fit.fare counts reached rides Is known rights bags source refl own
        (λ caught has b by.
        let here = slice_get-Contains rides caught has in
        done b (here.0, slice_get_within rides here.0 caught here.1, caught, here.1, by))

    -- so are the labels that are kept then
    pub kept_here : (old new : List (Label F M)) → Spreads (search_of task) (Lacks task round.finals.now) round.labels.now (x.rides + 1)
        (StepsByFirst task (facts_of x) rides (length rides)) old new →
        (settled : Option SettledLabel) → IfSome settled (IsSettledAt task Is x reached) → (labels more : List SettledLabel) →
        AddsLabel settled labels more → All (IsTried task round.finals.now round.count rides old) labels →
        All (IsTried task round.finals.now round.count rides new) more
    kept_here old new spreads settled at_it labels more adds tried =
        labels_added (IsTried task round.finals.now round.count rides new) settled labels more adds
        (tried_still task round.finals.now round.count rides old new spreads.still labels tried)
        (if_settled (IsSettledAt task Is x reached) (IsTried task round.finals.now round.count rides new) (tried_here new spreads.all) settled
        at_it)
