-- What offers of ends to the finals gain, one after another.
use Rattle.std.proofs.Common.{◌≡◌, sym, ◌∙◌, ap, subst, ℕ, ◌+◌, ◌≤◌, ◌⊎◌, inl, inr, ⊎_elim, Bool, true, List, [], ◌∷◌, ◌++◌, length, arith, ℤ, ◌≤ℤ◌}
use Rattle.std.specs.Prelude.{All, Contains, Option, Some, None, Result, Ok, Err, OnOk, IsTrue, option_map, slice_get}
use Rattle.std.proofs.lemmas.Bool.{cases_lt}
use Rattle.std.proofs.lemmas.Int.{ints}
use Rattle.std.proofs.lemmas.List.Elements.{All-contains, All-nil, All-weaker}
use Rattle.std.proofs.lemmas.Option.{same_Some, none-some, slice_get_within}
use Rattle.transit_base.specs.declared.moments.Moment.{Moment}
use Rattle.transit_base.specs.declared.numbers.StopId.{StopId}
use Rattle.feed_rows.specs.declared.fares.Triple.{Triple}
use Rattle.feed_rows.specs.Journeys.{stands_for}
use Rattle.feed_rows.specs.JourneyStands.{end_arrival}
use Rattle.feed_rows.specs.ParetoTriples.{at_most as is_no_worse}
use Rattle.feed_rows.specs.StopLinks.{stop_set}
use Rattle.feed_laws.proofs.ParetoLaws.{at_most-trans}
use Rattle.pareto_front.specs.Fronts.{has_as_good, CoversAll}
use Rattle.plain_laws.proofs.AddsLaws.{adds_more, adds_none, adds_same}
use Rattle.plain_laws.proofs.Laws.{All-slice_get, slice_get-append_left}
use Rattle.plan_rides.specs.InTime.{arrival_in_time}
use Rattle.plan_rides.proofs.ArrivalLaws.{arrives_in_time, in_time_arrives}
use Rattle.plan_rides.proofs.MarkLaws.{member_of_stands_for}
use Rattle.round_terms.specs.declared.finals.Final.{Final}
use Rattle.round_terms.specs.declared.label.Label.{Label}
use Rattle.round_search.specs.declared.search.Source.{Source}
use Rattle.round_search.specs.Finals.{AddsEnds, EndsAmong, EndsBelow, EndsIn, IsFinal, is_bettered}
use Rattle.round_terms.specs.Labels.{facts_of}
use Rattle.round_search.specs.Searches.{AreEnding, IsEnding, IsFit}
use Rattle.round_terms.specs.Steps.{IsEnd, stand_of_facts}
use Rattle.round_search.proofs.LawfulLaws.{parts_below}
use Rattle.round_terms.specs.Tasks.{Task}

-- finals by their triples
abbrev pub as_good : Final → Final → Bool
as_good a b = is_no_worse a.triple b.triple

-- what betters a triple betters each that it is at most
pub bettered_up : (finals : List Final) (s t : Triple) → is_bettered finals s → is_no_worse s t ≡ true → is_bettered finals t
bettered_up [] s t h le = h
bettered_up (x ∷ xs) s t h le =
    let rest = bettered_up xs s t in
    let step = at_most-trans x.triple s t in
    grind (arith, rest, step)

-- triples with the same parts are at most each other
same_parts_at_most : (a b : Triple) → a.arrival.0 ≡ b.arrival.0 → a.rides ≡ b.rides → a.price.0 ≡ b.price.0 → is_no_worse a b ≡ true
same_parts_at_most a b p q r = parts_below a b (omega (arith, ints, p)) (omega (arith, q)) (omega (arith, ints, r))

module _ {F M : Type 0} (task : Task F M) where
  module _ (labels : List (Label F M)) where
    -- nothing was offered
    pub ends_none : (Part : Triple → Type 0) (finals : List Final) → ((triple : Triple) → Part triple → ⊥) →
        AddsEnds task labels Part finals finals
    ends_none Part finals none = adds_none (λ h. h) none

    -- one part after another
    pub ends_more : (Part More Whole : Triple → Type 0) (old mid new : List Final) → AddsEnds task labels Part old mid →
        AddsEnds task labels More mid new → ((triple : Triple) → Whole triple → Part triple ⊎ More triple) →
        AddsEnds task labels Whole old new
    ends_more Part More Whole old mid new one two whole = adds_more (λ f g h. g (f h)) one two whole

    -- a part said otherwise
    pub ends_same : (Part Whole : Triple → Type 0) (old new : List Final) → AddsEnds task labels Part old new →
        ((triple : Triple) → Whole triple → Part triple) → AddsEnds task labels Whole old new
    ends_same Part Whole old new one whole = adds_same one whole

    -- an offer of a final that is at most each triple of the part
    pub ends_offer : {E : Type 0} (result : Result (Unit {0}) E) (Part : Triple → Type 0) (item : Final) (old new : List Final) →
        IsFinal task labels item → ((triple : Triple) → Part triple → is_no_worse item.triple triple ≡ true) →
        OnOk result (has_as_good as_good new item ≡ true) → OnOk result (CoversAll as_good old new) →
        OnOk result (All (λ x. Contains old x ⊎ (x ≡ item)) new) → OnOk result (AddsEnds task labels Part old new)
    ends_offer (Err e) Part item old new right least covered still from = covered
    ends_offer (Ok u) Part item old new right least covered still from = record {
      still = λ triple h. still.still (record { triple = triple; label = 0; last = record { 0 = 0 } }) h;
      right = λ h. All-weaker (λ x. Contains old x ⊎ (x ≡ item)) (IsFinal task labels)
          (λ x. ⊎_elim (λ before. All-contains (IsFinal task labels) old x h before) (λ same. subst (IsFinal task labels) (sym same) right)) new from;
      all = λ triple part. bettered_up new item.triple triple covered (least triple part);
    }

  -- ---- one label

  module _ (source : Source F M) (is : IsEnding task source) where
    abbrev label : Label F M
    label = source.label.now

    module _ (last : StopId) (result : Option Moment)
        (arrives : option_map (λ (m : Moment). m.0) result ≡ arrival_in_time task.feed task.query (stand_of_facts (facts_of source.label.now)) last) where
      -- it ends at the stop with the final's triple, and with no other
      module _ (arrival : Moment) (some : result ≡ Some arrival) (item : Final) (at : item.triple.arrival ≡ arrival)
          (rides : item.triple.rides ≡ source.label.now.rides) (price : item.triple.price.0 ≡ task.terms.price source.label.now.fare) where
        pub end_is : IsTrue (stands_for task.feed task.query.to last) → item.label ≡ source.number → item.last ≡ last →
            IsFinal task source.labels.now item
        end_is stands number stop =
            let reached = sym arrives ∙ ap (option_map (λ (m : Moment). m.0)) some in
            let timed = arrives_in_time task.feed task.query (stand_of_facts (facts_of label)) last arrival.0 reached in
            record {
              label = label;
              is = ap (slice_get source.labels.now) number ∙ is.is;
              end = record {
                ends = subst (λ (s : StopId). IsTrue (stands_for task.feed task.query.to s)) (sym stop) stands;
                arrives = ap (end_arrival task.feed task.query (stand_of_facts (facts_of label))) stop ∙ timed.0 ∙ ap (λ (m : Moment). Some m.0) (sym at);
                in_time = later _ _ _ (ap (λ (m : Moment). m.0) at) timed.1;
                rides = rides;
                price = price;
              };
            }
          where
            later : (x y z : ℤ) → x ≡ y → y ≤ℤ z → x ≤ℤ z
            later x y z e le = omega (arith, ints, e, le)

        pub end_least : (triple : Triple) → IsEnd task (facts_of label) last triple → is_no_worse item.triple triple ≡ true
        end_least triple end =
            let same : Some triple.arrival.0 ≡ Some arrival.0 =
            sym (in_time_arrives task.feed task.query (stand_of_facts (facts_of label)) last triple.arrival.0 end.arrives end.in_time) ∙ sym arrives
            ∙ ap (option_map (λ (m : Moment). m.0)) some in
            same_parts_at_most item.triple triple (ap (λ (m : Moment). m.0) at ∙ sym (same_Some _ _ same)) (rides ∙ sym end.rides)
            (price ∙ sym end.price)

      -- it doesn't end there in time
      pub end_none : (finals : List Final) → result ≡ None →
          AddsEnds task source.labels.now (IsEnd task (facts_of label) last) finals finals
      end_none finals none =
          ends_none source.labels.now _ finals (λ triple end.
          none-some triple.arrival.0 (sym (ap (option_map (λ (m : Moment). m.0)) none) ∙ arrives
          ∙ in_time_arrives task.feed task.query (stand_of_facts (facts_of label)) last triple.arrival.0 end.arrives end.in_time))

    -- one more of the stops
    pub stops_more : (lasts : List StopId) (k : ℕ) (last : StopId) (triple : Triple) → slice_get lasts k ≡ Some last →
        EndsAmong task label lasts (k + 1) triple →
        EndsAmong task label lasts k triple ⊎ IsEnd task (facts_of label) last triple
    stops_more lasts k last triple at among =
        let below = among.1 in
        ⊎_elim (λ lower. inl (among.0, lower, among.2, among.3, among.4))
        (λ upper. let same : among.0 ≡ k = omega (arith, below, upper) in
        inr (subst (λ (s : StopId). IsEnd task (facts_of label) s triple) (same_Some _ _ (sym among.3 ∙ ap (slice_get lasts) same ∙ at)) among.4))
        (cases_lt among.0 k)

    -- each end is at one of them
    pub stops_all : (lasts : List StopId) (n : ℕ) (triple : Triple) → lasts ≡ stop_set task.feed task.query.to → length lasts ≤ n →
        EndsIn task label triple → EndsAmong task label lasts n triple
    stops_all lasts n triple same all ends =
        let member = member_of_stands_for task.feed task.query.to ends.0 ends.1.ends in
        let lt = member.1 in
        (member.0, omega (arith, lt, ap length same, all), ends.0, ap (λ ss. slice_get ss member.0) same ∙ member.2, ends.1)

  -- ---- all labels

  -- one of labels that end
  pub ending_is : (labels : List (Label F M)) (source : Source F M) → AreEnding task labels → source.labels.now ≡ labels →
      slice_get labels source.number ≡ Some source.label.now → IsEnding task source
  ending_is labels source are same at = record {
    is = ap (λ ls. slice_get ls source.number) same ∙ at;
    usual = are.usual;
    few = All-slice_get (λ (x : Label F M). x.rides ≤ task.query.rides) labels source.number source.label.now at are.few;
    fit = All-slice_get (IsFit task) labels source.number source.label.now at are.fit;
  }

  module _ (labels : List (Label F M)) where
    -- one label more
    pub labels_more : (n : ℕ) (x : Label F M) (triple : Triple) → slice_get labels n ≡ Some x →
        EndsBelow task labels (n + 1) triple → EndsBelow task labels n triple ⊎ EndsIn task x triple
    labels_more n x triple at ends =
        let below = ends.1 in
        ⊎_elim (λ lower. inl (ends.0, lower, ends.2, ends.3, ends.4))
        (λ upper. let same : ends.0 ≡ n = omega (arith, below, upper) in
        inr (subst (λ (y : Label F M). EndsIn task y triple) (same_Some _ _ (sym ends.3 ∙ ap (slice_get labels) same ∙ at)) ends.4))
        (cases_lt ends.0 n)

    -- each end of a label is one of the labels below any number past the last
    pub below_all : (n : ℕ) (triple : Triple) → length labels ≤ n → EndsBelow task labels (length labels) triple →
        EndsBelow task labels n triple
    below_all n triple all ends = let below = ends.1 in (ends.0, omega (arith, below, all), ends.2, ends.3, ends.4)

    -- no label ends in anything
    pub ends_start : (finals : List Final) → labels ≡ [] → finals ≡ [] →
        AddsEnds task labels (EndsBelow task labels (length labels)) [] finals
    ends_start finals none empty =
        subst (AddsEnds task labels (EndsBelow task labels (length labels)) []) (sym empty)
        (ends_none labels _ [] (λ triple ends.
        let lt = ends.1 in
        let short = ap length none in
        omega (arith, lt, short)))

    -- what was found of labels is so where more follow them
    pub ends_longer : (more : List (Label F M)) (finals : List Final) →
        AddsEnds task labels (EndsBelow task labels (length labels)) [] finals →
        AddsEnds task (labels ++ more) (EndsBelow task (labels ++ more) (length labels)) [] finals
    ends_longer more finals adds = record {
      still = adds.still;
      right = λ none. All-weaker (IsFinal task labels) (IsFinal task (labels ++ more))
          (λ f is. record {
            label = is.label;
            is = slice_get-append_left labels more f.label (slice_get_within labels f.label is.label is.is) ∙ is.is;
            end = is.end;
          }) finals (adds.right (All-nil (IsFinal task labels)));
      all = λ triple ends. adds.all triple (
        ends.0,
        ends.1,
        ends.2,
        sym (slice_get-append_left labels more ends.0 ends.1) ∙ ends.3,
        ends.4,
      );
    }
