-- Labels of a table that go on from one another are real, and each partial journey is one that steps reach.
use Rattle.std.proofs.Common.{◌≡◌, refl, sym, ◌∙◌, ap, subst, ℕ, zero, suc, List, take, add-one}
use Rattle.std.specs.Prelude.{Some, slice_get}
use Rattle.feed_rows.specs.declared.journeys.Query.{Query}
use Rattle.feed_rows.specs.FeedRows.{FeedRows}
use Rattle.feed_rows.specs.PartialJourneys.{PartialJourney, LabelFacts}
use Rattle.feed_rows.specs.RoundTables.{Label, RoundTable, start_at, with_ride, traced}
use Rattle.feed_rows.specs.SoundTable.{IsReal}
use Rattle.search_laws.specs.Links.{AreLinked, IsNext, IsStart}
use Rattle.search_laws.specs.Ways.{IsReached}
use Rattle.search_laws.proofs.LinkLaws.{are_all}
use Rattle.round_laws.specs.LabelSteps.{HasFacts, ways}
use Rattle.round_laws.specs.LinkedTables.{told}
use Rattle.round_laws.proofs.StartLaws.{start_has_facts, start_of_facts}
use Rattle.round_laws.proofs.GoingOnLaws.{extend}
use Rattle.round_laws.proofs.LastRideLaws.{went_on}

-- ---- where labels come from

module _ (feed : FeedRows) (query : Query) (labels : List Label) where
  -- a label traced to a partial journey of the query that has its facts
  pub record IsTraced (number : ℕ) (label : Label) : Type 0 where
    pub part : PartialJourney
    pub is : traced labels label.facts.rides number ≡ Some part
    pub has : HasFacts feed query part label.facts

  traced_start : (number : ℕ) (label : Label) → slice_get labels number ≡ Some label →
      IsStart (ways feed query) told label → IsTraced number label
  traced_start number label is start =
      let facts = start.starts.1 in
      let rides = ap (λ (a : LabelFacts). a.rides) facts in
      let no_ride = start.begins.ride in
      record {
        part = start_at label.facts.stop;
        is = ap (λ (n : ℕ). traced labels n number) rides ∙ rw (is, no_ride) refl;
        has =
            subst (HasFacts feed query (start_at label.facts.stop)) (sym facts)
            (start_has_facts feed query label.facts.stop start.starts.0);
      }

  traced_next : (number : ℕ) (label : Label) → slice_get labels number ≡ Some label →
      (next : IsNext (ways feed query) told (take number labels) label) → IsTraced next.number next.before →
      IsTraced number label
  traced_next number label is next before =
      let on = extend feed query before.part next.before.facts next.by next.move label.facts before.has next.step in
      let rides = ap (λ (a : LabelFacts). a.rides) next.step.next ∙ add-one next.before.facts.rides in
      let parent = next.goes.parent in
      let ride = next.goes.ride in
      let taken = next.goes.taken in
      let whole = on.whole in
      let known = before.is in
      record {
        part = with_ride before.part next.by next.move;
        is = ap (λ (n : ℕ). traced labels n number) rides ∙ rw (is, parent, ride, taken) (rw (whole, known) refl);
        has = on.has;
      }

  -- each label of linked ones is traced
  pub is_traced : (number : ℕ) (label : Label) → AreLinked (ways feed query) told labels →
      slice_get labels number ≡ Some label → IsTraced number label
  is_traced number label linked is =
      are_all (ways feed query) told labels linked IsTraced traced_start traced_next number label is

-- linked labels are real
pub are_real : (feed : FeedRows) (query : Query) (table : RoundTable) (number : ℕ) (label : Label) →
    AreLinked (ways feed query) told table.labels → slice_get table.labels number ≡ Some label →
    IsReal feed query table number label
are_real feed query table number label linked is =
    let t = is_traced feed query table.labels number label linked is in
    record { part = t.part; is_traced = t.is; is_partial = t.has.partial; has_facts = t.has.facts }

-- ---- what is reached

-- the facts of a partial journey are reached by as many steps as it has rides
reached_after : (feed : FeedRows) (query : Query) (n : ℕ) (part : PartialJourney) (a : LabelFacts) →
    HasFacts feed query part a → a.rides ≡ n → IsReached (ways feed query) n a
reached_after feed query zero part a h none =
    let s = start_of_facts feed query part a h none in
    subst ((ways feed query).Starts) (sym s.facts) (s.starts, refl)
reached_after feed query (suc n) part a h some =
    let w = went_on feed query part a n h some in
    (w.a, w.ride, w.move, reached_after feed query n w.before w.a w.has w.rides, w.step)

pub is_reached : (feed : FeedRows) (query : Query) (part : PartialJourney) (a : LabelFacts) → HasFacts feed query part a →
    IsReached (ways feed query) a.rides a
is_reached feed query part a h = reached_after feed query a.rides part a h refl
