-- The bags of a table.
use Rattle.std.proofs.Common.{◌≡◌, sym, ◌∙◌, ap, ℕ, true, List, length, arith}
use Rattle.std.specs.Prelude.{◌≢◌, ◌==◌, option_map, slice_get}
use Rattle.std.proofs.lemmas.Bool.{and_from, and_parts, eq-eqb, eqb-true}
use Rattle.std.proofs.lemmas.Option.{slice_get-map, slice_get_within}
use Rattle.transit_base.specs.declared.numbers.StopId.{StopId}
use Rattle.feed_rows.specs.declared.states.Move.{Move}
use Rattle.fare_tariff.specs.declared.fare.Fare.{Fare}
use Rattle.feed_rows.specs.RoundTables.{Label as Kept}
use Rattle.feed_rows.specs.SoundTable.{AreBags}
use Rattle.plain_laws.specs.Plain.{at_and, filled_and}
use Rattle.plain_laws.proofs.Laws.{AllPairs-picks_below, Contains-picks_below, filled_and-true, picks_below-tells, mapped_tells}
use Rattle.round_terms.specs.declared.label.Label.{Label}
use Rattle.round_table.specs.Labels.{label_of}
use Rattle.round_terms.specs.declared.finals.Final.{Final}
use Rattle.round_table.specs.Tables.{is_at, table_in}

-- the bags have the numbers of exactly their labels, each once
pub are_bags : (labels : List (Label Fare Move)) (finals : List Final) → AreBags (table_in labels finals)
are_bags labels finals rides stop = record {
  right = λ number at.
      let picked = picks_below-tells (length labels) (λ i. at_and labels i (is_at rides stop)) (λ i. i) number at in
      let some = filled_and-true (slice_get labels picked.number) (is_at rides stop) picked.passes in
      let both = and_parts (some.value.rides == rides) (some.value.stop.0 == stop.0) some.passes in (
        label_of some.value,
        slice_get-map label_of labels number
            ∙ ap (option_map label_of) (ap (slice_get labels) (sym picked.is) ∙ some.is),
        eqb-true some.value.rides rides both.0,
        ap (λ (n : ℕ). record { 0 = n }) (eqb-true some.value.stop.0 stop.0 both.1),
      );
  all = λ number label is counts stands.
      let x = mapped_tells label_of (slice_get labels number) label (sym (slice_get-map label_of labels number) ∙ is) in
      let has_rides : x.0.rides ≡ rides = ap (λ (l : Kept). l.facts.rides) x.2 ∙ counts in
      let has_stop : x.0.stop.0 ≡ stop.0 = ap (λ (l : Kept). l.facts.stop.0) x.2 ∙ ap (λ (s : StopId). s.0) stands in
      let here : at_and labels number (is_at rides stop) ≡ true =
      ap (λ o. filled_and o (is_at rides stop)) x.1
      ∙ and_from (x.0.rides == rides) (x.0.stop.0 == stop.0) (eq-eqb x.0.rides rides has_rides)
      (eq-eqb x.0.stop.0 stop.0 has_stop) in
      Contains-picks_below (length labels) (λ i. at_and labels i (is_at rides stop)) (λ i. i) number
      (slice_get_within labels number x.0 x.1) here;
  once = AllPairs-picks_below (λ m n. m ≢ n) (length labels) (λ i. at_and labels i (is_at rides stop)) (λ i. i)
      (λ j k lt within same. omega (arith, lt, same));
}
