-- What cuts facts off cuts off all that they lead to, and what ends of labels better is bettered by ends of more.
use Rattle.std.proofs.Common.{◌≡◌, sym, ◌∙◌, subst, ℕ, zero, suc, true, List, [], ◌++◌, length, arith, ℤ, pos, ◌+ℤ◌, ◌≤ℤ◌}
use Rattle.std.specs.Prelude.{Option, Some, None, option_map, int_le}
use Rattle.std.proofs.lemmas.Int.{ints}
use Rattle.std.proofs.lemmas.List.Elements.{All-contains, All-nil}
use Rattle.std.proofs.lemmas.Option.{same_Some, none-some, slice_get_within}
use Rattle.transit_base.specs.declared.numbers.StopId.{StopId}
use Rattle.feed_rows.specs.declared.fares.Triple.{Triple}
use Rattle.feed_rows.specs.declared.journeys.Ride.{Ride}
use Rattle.feed_rows.specs.declared.journeys.RideFacts.{RideFacts}
use Rattle.feed_rows.specs.JourneyStands.{way_to, way_out, end_arrival}
use Rattle.transit_base.specs.Limits.{most_time}
use Rattle.feed_rows.specs.ParetoTriples.{at_most as is_no_worse}
use Rattle.feed_rows.specs.SoundFeed.{IsSoundFeed}
use Rattle.feed_laws.proofs.ParetoLaws.{at_most-trans}
use Rattle.feed_laws.proofs.RideLaws.{ride_facts_timed}
use Rattle.feed_laws.proofs.SoundTrips.{sound_trip}
use Rattle.plain_laws.proofs.Laws.{filled_and-true, int_le-true, list_any_tells, slice_get-append_left}
use Rattle.search_laws.specs.Cuts.{AreCuts}
use Rattle.search_laws.specs.Ways.{LeadsBy}
use Rattle.round_terms.specs.declared.finals.Final.{Final}
use Rattle.round_terms.specs.declared.label.Label.{Label}
use Rattle.round_search.specs.Cuts.{Cuts, least_end}
use Rattle.round_search.specs.Finals.{AddsEnds, EndsBelow, IsFinal, is_bettered}
use Rattle.round_terms.specs.Steps.{IsCaughtFrom, IsEnd, IsStep, stand_of_facts, ways}
use Rattle.round_terms.specs.Terms.{Covers, Facts, facts_after}
use Rattle.round_search.proofs.FinalLaws.{bettered_up}
use Rattle.round_search.proofs.LawfulLaws.{parts_below}
use Rattle.round_terms.specs.Tasks.{HasLaws, Task}

module _ {F M : Type 0} (task : Task F M) (laws : HasLaws task) where
  -- ---- what covers

  least_below : (a b : Facts F) → Covers task.at_most a b → is_no_worse (least_end task.terms a) (least_end task.terms b) ≡ true
  least_below a b covers =
      parts_below (least_end task.terms a) (least_end task.terms b) covers.arrival covers.rides (laws.fares.least_below a b covers)

  -- ---- finals

  -- what ends of labels better, ends of more labels do
  pub bettered_still : (labels more : List (Label F M)) (old new : List Final) →
      AddsEnds task labels (EndsBelow task labels (length labels)) [] old →
      AddsEnds task (labels ++ more) (EndsBelow task (labels ++ more) (length (labels ++ more))) [] new →
      (triple : Triple) → is_bettered old triple → is_bettered new triple
  bettered_still labels more old new before after triple is =
      let some = list_any_tells (λ (final : Final). is_no_worse final.triple triple) old is in
      let of = All-contains (IsFinal task labels) old some.0 (before.right (All-nil (IsFinal task labels))) some.1 in
      let there = slice_get-append_left labels more some.0.label (slice_get_within labels some.0.label of.label of.is) in
      bettered_up new some.0.triple triple
      (after.all some.0.triple (
        some.0.label,
        slice_get_within (labels ++ more) some.0.label of.label (there ∙ of.is),
        of.label,
        there ∙ of.is,
        (some.0.last, of.end),
      )) some.2

  -- ---- what goes on

  module _ (sound : IsSoundFeed task.feed) where
    -- a ride that is caught arrives no earlier than one stood there
    later_ride : (a : Facts F) (ride : Ride) (facts : RideFacts) → IsCaughtFrom task.feed task.query (stand_of_facts a) a.rides ride facts →
        a.arrival ≤ℤ facts.arrival.0
    later_ride a ride facts c =
        let timed = ride_facts_timed task.feed ride facts most_time (sound_trip task.feed ride.trip sound) c.is in
        let way =
        filled_and-true (way_to task.feed task.query (stand_of_facts a) facts.from) (λ (w : ℕ). int_le (a.arrival +ℤ pos w) facts.departure.0)
        c.caught in
        onward a.arrival facts.departure.0 facts.arrival.0 way.value (int_le-true _ _ way.passes) timed.forward
      where
        onward : (at departs arrives : ℤ) (way : ℕ) → (at +ℤ pos way) ≤ℤ departs → departs ≤ℤ arrives → at ≤ℤ arrives
        onward at departs arrives way p q = omega (arith, ints, p, q)

    least_after : (a b : Facts F) (ride : Ride) (move : M) → IsStep task a ride move b →
        is_no_worse (least_end task.terms a) (least_end task.terms b) ≡ true
    least_after a b ride move step =
        subst (λ (f : Facts F). is_no_worse (least_end task.terms a) (least_end task.terms f) ≡ true) (sym step.next)
        (parts_below (least_end task.terms a) (least_end task.terms (facts_after task.terms a step.facts move)) (later_ride a ride step.facts step.rides) (omega arith)
        (laws.fares.least_stays a step.facts move step.rides.few step.fare step.pays))

    least_ends : (a : Facts F) (last : StopId) (triple : Triple) → IsEnd task a last triple → is_no_worse (least_end task.terms a) triple ≡ true
    unfolding end_arrival
    least_ends a last triple e =
        parts_below (least_end task.terms a) triple (by (way_out task.feed task.query (stand_of_facts a) last) e.arrives)
        (let same = e.rides in omega (arith, same)) (dearer (task.terms.least a) (task.terms.price a.fare) triple.price.0 (laws.fares.least_ends a) e.price)
      where
        later : (x y : ℤ) (s : ℕ) → x +ℤ pos s ≡ y → x ≤ℤ y
        later x y s e = omega (arith, ints, e)

        dearer : (p p' q : ℤ) → p ≤ℤ p' → q ≡ p' → p ≤ℤ q
        dearer p p' q le e = omega (arith, ints, le, e)

        by : (way : Option ℕ) → option_map (λ s. a.arrival +ℤ pos s) way ≡ Some triple.arrival.0 → a.arrival ≤ℤ triple.arrival.0
        by None arrives = absurd (none-some _ arrives)
        by (Some s) arrives = later a.arrival triple.arrival.0 s (same_Some _ _ arrives)

    least_leads : (n : ℕ) (a : Facts F) (other : Triple) → LeadsBy (ways task) n a other →
        is_no_worse (least_end task.terms a) other ≡ true
    least_leads zero a other leads = least_ends a leads.0 other leads.1
    least_leads (suc n) a other leads =
        at_most-trans (least_end task.terms a) (least_end task.terms leads.2) other (least_after a leads.2 leads.0 leads.1 leads.3)
        (least_leads n leads.2 other leads.4)

    pub cuts : AreCuts (ways task) (Cuts task.terms)
    cuts = record {
      after = λ triple a b ride move step cut. at_most-trans triple (least_end task.terms a) (least_end task.terms b) cut (least_after a b ride move step);
      below = λ triple a b covers cut. at_most-trans triple (least_end task.terms a) (least_end task.terms b) cut (least_below a b covers);
      leads = λ triple n a other cut leads. at_most-trans triple (least_end task.terms a) other cut (least_leads n a other leads);
    }
