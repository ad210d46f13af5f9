-- The labels from which a round goes on.
use Rattle.std.proofs.Common.{◌≡◌, sym, ◌∙◌, ap, subst, ℕ, ◌+◌, ◌<◌, ◌≤◌, ◌⊎◌, inl, inr, ⊎_elim, List, [], ◌∷◌, ◌++◌, length, ◌-◌, arith}
use Rattle.std.specs.Prelude.{All, Some, slice_get, IsTrue, take}
use Rattle.std.proofs.lemmas.Bool.{cases_lt}
use Rattle.std.proofs.lemmas.Option.{same_Some, slice_get_within}
use Rattle.transit_base.specs.declared.numbers.StopId.{StopId}
use Rattle.feed_rows.specs.Journeys.{stands_for}
use Rattle.feed_rows.specs.JourneyStands.{first_stand}
use Rattle.plain_laws.proofs.Laws.{All-slice_get, slice_get-Contains, slice_get-append_left, slice_get-append_right}
use Rattle.search_laws.specs.Links.{IsLinked}
use Rattle.search_laws.specs.Stores.{AreStored, StepsFrom}
use Rattle.round_terms.specs.declared.label.Label.{Label}
use Rattle.round_terms.specs.Labels.{facts_of}
use Rattle.round_search.specs.Scans.{IsOrigin}
use Rattle.round_search.specs.Searches.{AreLast, IsFit, StepsTo, StepsWithin, search_of, told}
use Rattle.round_terms.specs.Steps.{stand_of_facts, ways}
use Rattle.round_terms.specs.Terms.{Facts}
use Rattle.round_terms.specs.Tasks.{Task}

module _ {F M : Type 0} (task : Task F M) where
  -- a label without rides stands at a first stop
  first_of : (before : List (Label F M)) (x : Label F M) → IsLinked (ways task) (told task) before x → x.rides ≡ 0 →
      (first : StopId) × IsTrue (stands_for task.feed task.query.from first) × (stand_of_facts (facts_of x) ≡ first_stand task.query first)
  first_of before x (inl start) none = (x.stop, start.starts.0, ap stand_of_facts start.starts.1)
  first_of before x (inr next) none =
      let more = ap (λ (f : Facts F). f.rides) next.step.next in
      absurd (omega (arith, more, none))

  -- a round goes on from a stored label that has fewer rides than the query's limit
  pub origin_is : (number : ℕ) (x : Label F M) (count : ℕ) (labels bags : List (Label F M)) → count < task.query.rides →
      AreStored (search_of task) (count + 1) labels bags → slice_get labels number ≡ Some x → x.rides ≡ count →
      IsOrigin task x
  origin_is number x count labels bags few stored at counts = record {
    few = omega (arith, few, counts);
    fit = All-slice_get (IsFit task) labels number x at stored.fit;
    may = record {
      some = omega (arith, few);
      one = λ one. first_of (take number labels) x (stored.linked number x at) (omega (arith, one, few, counts));
    };
  }

  module _ (labels : List (Label F M)) (begin : ℕ) where
    -- one label more
    pub within_more : (n : ℕ) (x : Label F M) (b : Facts F) → slice_get labels n ≡ Some x →
        StepsWithin task labels begin (n + 1) b → StepsWithin task labels begin n b ⊎ StepsTo task (facts_of x) b
    within_more n x b at steps =
        let below = steps.2 in
        ⊎_elim (λ lower. inl (steps.0, steps.1, lower, steps.3, steps.4, steps.5))
        (λ upper. let same : steps.0 ≡ n = omega (arith, below, upper) in
        inr (subst (λ (y : Label F M). StepsTo task (facts_of y) b) (same_Some _ _ (sym steps.4 ∙ ap (slice_get labels) same ∙ at)) steps.5))
        (cases_lt steps.0 n)

    -- each step from a label with so many rides is one from them
    pub within_all : (rides n : ℕ) (b : Facts F) → AreLast rides begin labels → length labels ≤ n →
        StepsFrom (search_of task) labels rides b → StepsWithin task labels begin n b
    within_all rides n b last all from =
        let at = slice_get-Contains labels from.0 from.1 in
        let lt = slice_get_within labels at.0 from.0 at.1 in
        ⊎_elim
        (λ (early : at.0 < begin). let fewer = last.before at.0 from.0 at.1 early in let same = from.2 in absurd (omega (arith, fewer, same)))
        (λ (late : begin ≤ at.0). (at.0, late, omega (arith, lt, all), from.0, at.1, from.3))
        (cases_lt at.0 begin)

-- the labels that were added are the last, with one ride more
pub last_more : {F M : Type 0} (count begin : ℕ) (labels more : List (Label F M)) → AreLast count begin labels →
    All (λ (x : Label F M). x.rides ≡ count + 1) more → AreLast (count + 1) (length labels) (labels ++ more)
last_more {F} {M} count begin labels more last fresh = record {
  within = long labels more;
  last = λ i x at late. newer i x at late;
  before = λ i x at early. older i x at early;
}
  where
    long : (xs ys : List (Label F M)) → length xs ≤ length (xs ++ ys)
    long [] ys = omega arith
    long (x ∷ xs) ys = let rest = long xs ys in omega (arith, rest)

    newer : (i : ℕ) (x : Label F M) → slice_get (labels ++ more) i ≡ Some x → length labels ≤ i → x.rides ≡ count + 1
    newer i x at late =
        let split : length labels + (i - length labels) ≡ i = omega (arith, late) in
        let there = sym (slice_get-append_right labels more (i - length labels)) ∙ ap (slice_get (labels ++ more)) split ∙ at in
        All-slice_get (λ (y : Label F M). y.rides ≡ count + 1) more (i - length labels) x there fresh

    older : (i : ℕ) (x : Label F M) → slice_get (labels ++ more) i ≡ Some x → i < length labels → x.rides < count + 1
    older i x at early =
        let there = sym (slice_get-append_left labels more i early) ∙ at in
        ⊎_elim
        (λ (lower : i < begin). let fewer = last.before i x there lower in omega (arith, fewer))
        (λ (upper : begin ≤ i). let same = last.last i x there upper in omega (arith, same))
        (cases_lt i begin)
