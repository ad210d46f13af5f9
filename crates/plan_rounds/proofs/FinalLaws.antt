-- The best that labels end in are the finals of their table.
use Rattle.std.proofs.Common.{◌≡◌, sym, ◌∙◌, ap, subst, arith, ◌<◌, Bool, false, List, [], ◌∷◌, length, get_or}
use Rattle.std.specs.Prelude.{All, AllPairs, Contains, IsTrue, option_map}
use Rattle.std.proofs.lemmas.List.{get_or-map, length-map}
use Rattle.std.proofs.lemmas.List.Elements.{All-map, All-weaker}
use Rattle.std.proofs.lemmas.Option.{slice_get-map, slice_get_within}
use Rattle.transit_base.specs.declared.numbers.StopId.{StopId}
use Rattle.feed_rows.specs.declared.fares.Triple.{Triple}
use Rattle.feed_rows.specs.declared.states.Move.{Move}
use Rattle.feed_rows.specs.ParetoTriples.{at_most, is_before}
use Rattle.feed_rows.specs.RoundTables.{Final as KeptFinal, Label as Kept}
use Rattle.pareto_front.specs.Fronts.{IsFront}
use Rattle.plain_laws.proofs.Laws.{map-tells, slice_get-Contains}
use Rattle.round_laws.specs.LabelSteps.{IsLabelEnd}
use Rattle.round_laws.specs.LinkedTables.{AreFinals, IsFinal as IsTableFinal}
use Rattle.round_terms.specs.declared.finals.Final.{Final}
use Rattle.round_terms.specs.declared.label.Label.{Label}
use Rattle.round_terms.specs.Labels.{facts_of}
use Rattle.round_terms.specs.Tasks.{Task}
use Rattle.round_search.specs.Finals.{EndsBelow, HasEnds, IsFinal}
use Rattle.fare_tariff.specs.declared.fare.Fare.{Fare}
use Rattle.fare_tariff.specs.FareTerms.{TariffOf, fare_task}
use Rattle.fare_tariff.proofs.WayLaws.{end_by, end_of}
use Rattle.round_table.specs.Finals.{final_of, finals_of}
use Rattle.round_table.specs.Labels.{label_of, labels_of}
use Rattle.plan_rounds.proofs.WholeLaws.{found_of}

-- what holds between the triples of finals holds between those that tables have
pairs_of : (R : Triple → Triple → Type 0) (finals : List Final) → AllPairs (λ (a b : Final). R a.triple b.triple) finals →
    AllPairs (λ a b. R a.triple b.triple) (finals_of finals)
pairs_of R finals rises i j d lt within = by finals rises within
  where
    by : (fs : List Final) → AllPairs (λ (a b : Final). R a.triple b.triple) fs → j < length (finals_of fs) →
        R (get_or (finals_of fs) i d).triple (get_or (finals_of fs) j d).triple
    by [] rises inside = absurd (omega (arith, inside))
    by (x ∷ xs) rises inside =
        let long = length-map (x ∷ xs) final_of in
        let in_j : j < length (x ∷ xs) = omega (arith, inside, long) in
        let in_i : i < length (x ∷ xs) = omega (arith, in_j, lt) in
        let at_i = get_or-map final_of (x ∷ xs) i x d in_i in
        let at_j = get_or-map final_of (x ∷ xs) j x d in_j in
        subst (λ (a : KeptFinal). R a.triple (get_or (finals_of (x ∷ xs)) j d).triple) (sym at_i)
        (subst (λ (b : KeptFinal). R (final_of (get_or (x ∷ xs) i x)).triple b.triple) (sym at_j) (rises i j x lt in_j))

module _ (of : TariffOf) (loose : Bool) (given : List Triple) (labels : List (Label Fare Move)) (finals : List Final) where
  abbrev task : Task Fare Move
  task = fare_task of loose given

  -- an end of a label is one of its label in the table
  final_is : (final : Final) → IsFinal task labels final → IsTableFinal of.feed of.query (labels_of labels) (final_of final)
  final_is final is = record {
    label = label_of is.label;
    is = slice_get-map label_of labels final.label ∙ ap (option_map label_of) is.is;
    end = end_of of loose given (facts_of is.label) final.last final.triple is.end;
  }

  pub are_finals : All (IsFinal task labels) finals → HasEnds task labels finals →
      IsFront (λ (a b : Final). at_most a.triple b.triple) (λ (a b : Final). is_before a.triple b.triple) finals →
      AreFinals of.feed of.query (labels_of labels) (finals_of finals)
  are_finals right ended front = record {
    right = All-map (IsTableFinal of.feed of.query (labels_of labels)) final_of finals
        (All-weaker (IsFinal task labels) (λ f. IsTableFinal of.feed of.query (labels_of labels) (final_of f)) final_is finals right);
    all = λ label last t at end. found_of finals t (ended t (below label last t at end));
    apart = pairs_of (λ a b. at_most a b ≡ false) finals (λ i j d lt within. (front i j d lt within).dearer);
    in_order = pairs_of (λ a b. IsTrue (is_before a b)) finals (λ i j d lt within. (front i j d lt within).earlier);
  }
    where
      below : (label : Kept) (last : StopId) (t : Triple) → Contains (labels_of labels) label → IsLabelEnd of.feed of.query label.facts last t →
          EndsBelow task labels (length labels) t
      below label last t at end =
          let some = map-tells label_of labels label at in
          let place = slice_get-Contains labels some.0 some.1 in
          let there = subst (λ (l : Kept). IsLabelEnd of.feed of.query l.facts last t) (sym some.2) end in (
            place.0,
            slice_get_within labels place.0 some.0 place.1,
            some.0,
            place.1,
            (last, end_by of loose given (label_of some.0).facts last t there),
          )
