-- A search by the terms of fares goes as tables of partial journeys are told of: the same steps, starts and ends, which cover the same
-- and cut off the same.
use Rattle.std.proofs.Common.{◌≡◌, refl, sym, ◌∙◌, ap, subst, ℕ, zero, suc, inl, inr, ⊎_elim, Bool, true, false, List}
use Rattle.std.specs.Prelude.{All, is_none, take}
use Rattle.std.proofs.lemmas.List.Elements.{All-contains}
use Rattle.transit_base.specs.declared.numbers.StopId.{StopId}
use Rattle.feed_rows.specs.declared.fares.Triple.{Triple}
use Rattle.feed_rows.specs.declared.journeys.Ride.{Ride}
use Rattle.feed_rows.specs.declared.states.Move.{Move}
use Rattle.feed_rows.specs.LabelCover.{Covers}
use Rattle.feed_rows.specs.ParetoTriples.{at_most as is_no_worse}
use Rattle.feed_rows.specs.PartialJourneys.{LabelFacts}
use Rattle.feed_rows.specs.SoundFeed.{IsSoundFeed}
use Rattle.feed_laws.proofs.ParetoLaws.{at_most-refl}
use Rattle.plain_laws.proofs.Laws.{All-from}
use Rattle.round_laws.specs.Futility.{is_within, least_end, outdoes}
use Rattle.round_laws.specs.LabelSteps.{IsLabelEnd, IsLabelStep, IsStated, ways as label_ways}
use Rattle.round_laws.proofs.OutdoneLaws.{ahead_of_outdone, outdone_of_ahead}
use Rattle.round_terms.specs.Steps.{IsEnd, IsStep, ways}
use Rattle.round_terms.specs.Tasks.{Task}
use Rattle.round_terms.specs.Terms.{Covers as CoversFacts, Facts}
use Rattle.search_laws.specs.Cuts.{MayLack}
use Rattle.search_laws.specs.Links.{AreClosed, AreLinked, CoversStarts, CoversSteps, IsCoveredBy, IsLinked, Told}
use Rattle.search_laws.specs.Stores.{AreUncut, AreWhole, Search}
use Rattle.search_laws.specs.Ways.{IsReached, LeadsBy}
use Rattle.fare_tariff.specs.declared.fare.Fare.{Fare}
use Rattle.fare_tariff.specs.FareLaws.{fare_begins, fare_stays}
use Rattle.fare_tariff.specs.FareTerms.{IsFare, TariffOf, at_most, facts_by, fare_task, fare_terms, label_facts}
use Rattle.fare_tariff.specs.FareOrder.{at_most-holds, at_most-tells}

-- ---- what covers

-- facts that cover others do so as facts of labels
pub covers_of : (a b : Facts Fare) → CoversFacts at_most a b → Covers (label_facts a) (label_facts b)
covers_of a b covers =
    let below = at_most-tells a.fare b.fare covers.fare in
    record { stop = covers.stop; arrival = covers.arrival; rides = covers.rides; spent = below.spent; state = below.state }

-- and the other way, where fares are in a state exactly where there is a ride
pub covers_by : (a b : LabelFacts) → IsStated a → IsStated b → Covers a b → CoversFacts at_most (facts_by a) (facts_by b)
covers_by a b stated stated' covers = record {
  stop = covers.stop;
  arrival = covers.arrival;
  rides = covers.rides;
  fresh = stated ∙ ap is_none covers.state ∙ sym stated';
  fare = at_most-holds (facts_by a).fare (facts_by b).fare (record { spent = covers.spent; state = covers.state });
}

module _ (of : TariffOf) (loose : Bool) (given : List Triple) where
  abbrev task : Task Fare Move
  task = fare_task of loose given

  -- ---- steps, starts and ends

  unfoldable pub step_of : (a b : Facts Fare) (ride : Ride) (move : Move) → IsStep task a ride move b →
      IsLabelStep of.feed of.query (label_facts a) ride move (label_facts b)
  step_of a b ride move step = record {
    facts = step.facts;
    rides = record { is = step.rides.is; few = step.rides.few; caught = step.rides.caught; in_time = step.rides.in_time };
    pays = step.pays;
    next = ap (λ (x : Facts Fare). label_facts x) step.next;
  }

  pub step_by : (a b : LabelFacts) (ride : Ride) (move : Move) → IsFare a.rides (facts_by a).fare →
      IsLabelStep of.feed of.query a ride move b → IsStep task (facts_by a) ride move (facts_by b)
  step_by a b ride move fare step = record {
    fare = fare;
    facts = step.facts;
    rides = record { is = step.rides.is; few = step.rides.few; caught = step.rides.caught; in_time = step.rides.in_time };
    pays = step.pays;
    next = ap (λ (x : LabelFacts). facts_by x) step.next;
  }

  pub end_of : (a : Facts Fare) (last : StopId) (triple : Triple) → IsEnd task a last triple →
      IsLabelEnd of.feed of.query (label_facts a) last triple
  end_of a last triple end =
      record { ends = end.ends; arrives = end.arrives; in_time = end.in_time; rides = end.rides; price = end.price }

  pub end_by : (a : LabelFacts) (last : StopId) (triple : Triple) → IsLabelEnd of.feed of.query a last triple →
      IsEnd task (facts_by a) last triple
  end_by a last triple end =
      record { ends = end.ends; arrives = end.arrives; in_time = end.in_time; rides = end.rides; price = end.price }

  pub start_of : (a : Facts Fare) → (ways task).Starts a → (label_ways of.feed of.query).Starts (label_facts a)
  start_of a start = (start.0, ap (λ (x : Facts Fare). label_facts x) start.1)

  pub start_by : (a : LabelFacts) → (label_ways of.feed of.query).Starts a → (ways task).Starts (facts_by a)
  start_by a start = (start.0, ap (λ (x : LabelFacts). facts_by x) start.1)

  -- ---- fares

  -- what starts and each step lead to are fares
  pub fare_of_start : (a : Facts Fare) → (ways task).Starts a → IsFare a.rides a.fare
  fare_of_start a start = subst (λ (x : Facts Fare). IsFare x.rides x.fare) (sym start.1) (fare_begins of)

  module _ (sound : IsSoundFeed of.feed) where
    pub fare_of_step : (a b : Facts Fare) (ride : Ride) (move : Move) → IsStep task a ride move b → IsFare b.rides b.fare
    fare_of_step a b ride move step =
        subst (λ (x : Facts Fare). IsFare x.rides x.fare) (sym step.next) (fare_stays of sound a step.facts move step.fare step.pays)

    pub fare_of_reached : (n : ℕ) (a : Facts Fare) → IsReached (ways task) n a → IsFare a.rides a.fare
    fare_of_reached zero a start = fare_of_start a start
    fare_of_reached (suc n) b reached = fare_of_step reached.0 b reached.1 reached.2 reached.4

  -- ---- where ways lead

  pub reached_of : (n : ℕ) (a : Facts Fare) → IsReached (ways task) n a → IsReached (label_ways of.feed of.query) n (label_facts a)
  reached_of zero a start = start_of a start
  reached_of (suc n) b reached =
      let a = reached.0 in
      (label_facts a, reached.1, reached.2, reached_of n a reached.3, step_of a b reached.1 reached.2 reached.4)

  pub reached_by : IsSoundFeed of.feed → (n : ℕ) (a : LabelFacts) → IsReached (label_ways of.feed of.query) n a →
      IsReached (ways task) n (facts_by a)
  reached_by sound zero a start = start_by a start
  reached_by sound (suc n) b reached =
      let a = reached.0 in
      let before = reached_by sound n a reached.3 in
      (facts_by a, reached.1, reached.2, before, step_by a b reached.1 reached.2 (fare_of_reached sound n (facts_by a) before) reached.4)

  pub leads_of : (n : ℕ) (a : Facts Fare) (triple : Triple) → LeadsBy (ways task) n a triple →
      LeadsBy (label_ways of.feed of.query) n (label_facts a) triple
  leads_of zero a triple leads = (leads.0, end_of a leads.0 triple leads.1)
  leads_of (suc n) a triple leads =
      let b = leads.2 in
      (leads.0, leads.1, label_facts b, step_of a b leads.0 leads.1 leads.3, leads_of n b triple leads.4)

  pub leads_by : IsSoundFeed of.feed → (n : ℕ) (a : LabelFacts) (triple : Triple) → IsFare a.rides (facts_by a).fare →
      LeadsBy (label_ways of.feed of.query) n a triple → LeadsBy (ways task) n (facts_by a) triple
  leads_by sound zero a triple fare leads = (leads.0, end_by a leads.0 triple leads.1)
  leads_by sound (suc n) a triple fare leads =
      let b = leads.2 in
      let step = step_by a b leads.0 leads.1 fare leads.3 in
      let own = fare_of_step sound (facts_by a) (facts_by b) leads.0 leads.1 step in
      (leads.0, leads.1, facts_by b, step, leads_by sound n b triple own leads.4)

  -- ---- what is cut off

  -- the triple is as good as whatever such facts lead to, by the terms of fares
  abbrev pub CutsOff : Triple → Facts Fare → Type 0
  CutsOff triple a =
      is_no_worse triple
      (record { arrival = record { 0 = a.arrival }; rides = a.rides; price = record { 0 = (fare_terms of).least a } }) ≡ true

  -- what cuts facts off in a search that is to be whole outdoes them
  pub outdone_of_cut : of.whole ≡ true → (triple : Triple) (a : Facts Fare) → CutsOff triple a →
      outdoes of.feed of.query triple (label_facts a)
  outdone_of_cut whole triple a cut =
      outdone_of_ahead of.feed of.query triple (label_facts a)
      (subst (λ (w : Bool). is_within a.arrival a.rides (least_end of.feed of.query w (label_facts a)) triple ≡ true) whole cut)

  -- what outdoes facts cuts them off in any search
  pub cut_of_outdone : (triple : Triple) (a : Facts Fare) → outdoes of.feed of.query triple (label_facts a) → CutsOff triple a
  cut_of_outdone triple a outdone =
      ahead_of_outdone of.feed of.query triple of.whole triple (label_facts a) (at_most-refl triple) outdone

  -- what a search may lack a table may
  pub lacks_of : IsSoundFeed of.feed → (Found : Triple → Type 0) (a : Facts Fare) → IsFare a.rides a.fare →
      MayLack (ways task) CutsOff of.whole Found a →
      MayLack (label_ways of.feed of.query) (outdoes of.feed of.query) of.whole Found (label_facts a)
  lacks_of sound Found a fare = by of.whole refl
    where
      by : (whole : Bool) → of.whole ≡ whole → MayLack (ways task) CutsOff whole Found a →
          MayLack (label_ways of.feed of.query) (outdoes of.feed of.query) whole Found (label_facts a)
      by true is lack = (lack.0, lack.1, outdone_of_cut is lack.0 a lack.2)
      by false is futile = λ n triple leads. futile n triple (leads_by sound n (label_facts a) triple fare leads)

  -- ---- labels

  -- labels that tell of ways of fares, and what they tell a table: that they begin or go on is told otherwise there
  module _ {L : Type 0} (told : Told L (Facts Fare) Ride Move) (Begins : L → Type 0) (GoesOn : L → ℕ → Ride → Move → Type 0)
      (begins : (x : L) → told.Begins x → Begins x)
      (goes_on : (x : L) (number : ℕ) (ride : Ride) (move : Move) → told.GoesOn x number ride move → GoesOn x number ride move) where
    abbrev pub told_labels : Told L LabelFacts Ride Move
    told_labels = record {
      facts = λ x. label_facts (told.facts x);
      count = told.count;
      Fits = told.Fits;
      Begins = Begins;
      GoesOn = GoesOn;
    }

    -- they are linked so
    pub linked_of : (labels : List L) → AreLinked (ways task) told labels → AreLinked (label_ways of.feed of.query) told_labels labels
    linked_of labels linked number label is = by (linked number label is)
      where
        by : IsLinked (ways task) told (take number labels) label →
            IsLinked (label_ways of.feed of.query) told_labels (take number labels) label
        by (inl start) = inl (record { starts = start_of (told.facts label) start.starts; begins = begins label start.begins })
        by (inr next) =
            inr (record {
              number = next.number;
              before = next.before;
              is = next.is;
              by = next.by;
              move = next.move;
              goes = goes_on label next.number next.by next.move next.goes;
              step = step_of (told.facts next.before) (told.facts label) next.by next.move next.step;
            })

    -- they cover what they covered
    covered_of : (labels : List L) (a : Facts Fare) → IsCoveredBy (ways task) told labels a →
        IsCoveredBy (label_ways of.feed of.query) told_labels labels (label_facts a)
    covered_of labels a some = (some.0, some.1, some.2, some.3, covers_of (told.facts some.1) a some.4)

    pub starts_of : (labels : List L) → CoversStarts (ways task) told labels → CoversStarts (label_ways of.feed of.query) told_labels labels
    starts_of labels starts a start = covered_of labels (facts_by a) (starts (facts_by a) (start_by a start))

    module _ (sound : IsSoundFeed of.feed) (fare : (x : L) → told.Fits x → IsFare (told.facts x).rides (told.facts x).fare)
        (labels : List L) (Lacking : Facts Fare → Type 0) (LackingLabels : LabelFacts → Type 0)
        (lacks : (a : Facts Fare) → IsFare a.rides a.fare → Lacking a → LackingLabels (label_facts a)) where
      pub closed_of : All told.Fits labels → AreClosed (ways task) told Lacking labels →
          AreClosed (label_ways of.feed of.query) told_labels LackingLabels labels
      closed_of fit closed =
          All-from (λ x. CoversSteps (label_ways of.feed of.query) told_labels LackingLabels (label_facts (told.facts x)) labels) labels
          (λ x at ride move b step.
          let own = step_by (label_facts (told.facts x)) b ride move (fare x (All-contains told.Fits labels x fit at)) step in
          ⊎_elim (λ some. inl (covered_of labels (facts_by b) some))
          (λ lack. inr (lacks (facts_by b) (fare_of_step sound (told.facts x) (facts_by b) ride move own) lack))
          (All-contains (λ x. CoversSteps (ways task) told Lacking (told.facts x) labels) labels x closed at ride move (facts_by b) own))

    -- the search, and the same of a table
    module _ (covers : L → L → Bool) where
      abbrev pub fare_search : Search L (Facts Fare) Ride Move StopId Triple
      fare_search = record { ways = ways task; told = told; covers = covers; Cuts = CutsOff }

      abbrev pub label_search : Search L LabelFacts Ride Move StopId Triple
      label_search =
          record { ways = label_ways of.feed of.query; told = told_labels; covers = covers; Cuts = outdoes of.feed of.query }

      -- what no end of fewer rides cuts off none outdoes
      pub uncut_of : (labels : List L) → AreUncut fare_search labels → AreUncut label_search labels
      uncut_of labels uncut x y at at' fewer last triple end outdone =
          uncut x y at at' fewer last triple (end_by (label_facts (told.facts y)) last triple end)
          (cut_of_outdone triple (told.facts x) outdone)

      -- so labels that are whole are the labels of a whole table
      pub whole_of : IsSoundFeed of.feed → ((x : L) → told.Fits x → IsFare (told.facts x).rides (told.facts x).fare) → (limit : ℕ)
          (labels : List L) (Lacking : Facts Fare → Type 0) (LackingLabels : LabelFacts → Type 0) →
          ((a : Facts Fare) → IsFare a.rides a.fare → Lacking a → LackingLabels (label_facts a)) →
          AreWhole fare_search Lacking limit labels → AreWhole label_search LackingLabels limit labels
      whole_of sound fare limit labels Lacking LackingLabels lacks whole = record {
        linked = linked_of labels whole.linked;
        starts = starts_of labels whole.starts;
        closed = closed_of sound fare labels Lacking LackingLabels lacks whole.fit whole.closed;
        apart = whole.apart;
        few = whole.few;
        fit = whole.fit;
        uncut = uncut_of labels whole.uncut;
      }
