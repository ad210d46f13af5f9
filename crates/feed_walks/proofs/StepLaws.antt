-- The steps to the platforms near a platform are the walks out of it.
use Rattle.std.proofs.Common.{◌≡◌, refl, sym, ◌∙◌, ap, subst, ℕ, ◌<◌, ◌≤◌, ⊎_elim, List, [], length, get_or, Contains, AllPairs, Option, Some, None, arith}
use Rattle.std.specs.Prelude.{◌==◌, slice_get, unwrap_or, find, option_map}
use Rattle.std.specs.List.Sorted.{IsNonDecreasingBy}
use Rattle.std.proofs.lemmas.Bool.{cases_lt}
use Rattle.std.proofs.lemmas.Bool.Decides.{nat_tests}
use Rattle.std.proofs.lemmas.List.{get_or_default}
use Rattle.std.proofs.lemmas.Option.{slice_get_past}
use Rattle.transit_base.specs.declared.numbers.StopId.{StopId}
use Rattle.feed_rows.specs.FeedRows.{FeedRows}
use Rattle.feed_rows.specs.StopLinks.{link}
use Rattle.plain_laws.specs.Plain.{joined_below, list_below}
use Rattle.plain_laws.proofs.Laws.{IsStrictOrder, same_from_members, Contains-cons_first, Contains-cons_cases, length-list_below, slice_get-list_below, Contains-joined_below, joined_below-tells, AllPairs-joined_below, Contains-slice_get, find-tells, find-some, none_if, joined_below-none}
use Rattle.feed_walks.specs.declared.steps.Step.{Step}
use Rattle.feed_walks.specs.Near.{AreNear}
use Rattle.feed_walks.specs.OutOf.{step_list, out_of, walk_steps}
use Rattle.feed_walks.proofs.OrderLaws.{same_stop}
use Rattle.feed_walks.proofs.NearLaws.{platform_within, link-tells}

-- one step is before another in the order of their stops
abbrev pub Before : Step → Step → Type 0
Before s t = s.to.0 < t.to.0

before_strict : IsStrictOrder Before
before_strict = record { irreflexive = λ x lt. omega arith; transitive = λ x y z one other. omega arith }

-- a list of at most one step ascends
step_list-ascends : (to : StopId) (o : Option ℕ) → AllPairs Before (step_list to o)
step_list-ascends to None i j d lt within = absurd (omega arith)
step_list-ascends to (Some s) i j d lt within = absurd (omega arith)

-- the one step of such a list
pub step_list-tells : (to : StopId) (o : Option ℕ) (t : Step) → Contains (step_list to o) t → (o ≡ Some t.seconds.0) × (t.to ≡ to)
step_list-tells to None t at = let lt = at.1 in absurd (omega arith)
step_list-tells to (Some s) t at = ⊎_elim
    (λ (same : record { to = to; seconds = record { 0 = s } } ≡ t). (ap (λ (u : Step). Some u.seconds.0) same, sym (ap (λ (u : Step). u.to) same)))
    (λ (none : Contains [] t). let lt = none.1 in absurd (omega arith))
    (Contains-cons_cases (record { to = to; seconds = record { 0 = s } }) [] t at)

pub Contains-step_list : (to : StopId) (o : Option ℕ) (t : Step) → o ≡ Some t.seconds.0 → t.to ≡ to → Contains (step_list to o) t
Contains-step_list to o t is leads = rw is (subst (λ s. Contains (step_list s (Some t.seconds.0)) t) leads (Contains-cons_first t []))

-- the steps to stops one after another, where there are walks to them
module _ (feed : FeedRows) (from : StopId) (n : ℕ) (at : ℕ → StopId) where
  abbrev steps_along : List Step
  steps_along = joined_below n (λ k. step_list (at k) (link feed from (at k)))

  -- they ascend as the stops do
  along-ascends : ((i j : ℕ) → i < j → j < n → (at i).0 < (at j).0) → AllPairs Before steps_along
  along-ascends up = AllPairs-joined_below Before n (λ k. step_list (at k) (link feed from (at k))) (λ k lt. step_list-ascends (at k) (link feed from (at k)))
      (λ i j x y lt within here there. let left = ap (λ (s : StopId). s.0) (step_list-tells (at i) (link feed from (at i)) x here).1 in let right = ap (λ (s : StopId). s.0) (step_list-tells (at j) (link feed from (at j)) y there).1 in let less = up i j lt within in omega arith)

  -- each is a walk
  along-tells : (t : Step) → Contains steps_along t → link feed from t.to ≡ Some t.seconds.0
  along-tells t there =
      let found = joined_below-tells n (λ k. step_list (at k) (link feed from (at k))) t there in
      let is = step_list-tells (at found.0) (link feed from (at found.0)) t found.2 in
      ap (link feed from) is.1 ∙ is.0

  -- and each walk is there that leads to one of them
  Contains-along : (t : Step) (k : ℕ) → k < n → t.to ≡ at k → link feed from t.to ≡ Some t.seconds.0 → Contains steps_along t
  Contains-along t k lt is linked = Contains-joined_below n (λ i. step_list (at i) (link feed from (at i))) k t lt (Contains-step_list (at k) (link feed from (at k)) t (ap (link feed from) (sym is) ∙ linked) is)

-- the walks out of a platform ascend by their stops
out_of-ascends : (feed : FeedRows) (a : StopId) → AllPairs Before (out_of feed a)
unfolding out_of
out_of-ascends feed a = along-ascends feed a (length feed.stops) (λ i. record { 0 = i }) (λ i j lt within. lt)

pub out_of-rises : (feed : FeedRows) (a : StopId) → IsNonDecreasingBy (λ (s : Step). s.to.0) (out_of feed a)
out_of-rises feed a i j d le lt = ⊎_elim (λ (below : i < j). let up = out_of-ascends feed a i j d below lt in omega arith) (λ (past : j ≤ i). let same : i ≡ j = omega arith in subst (λ k. (get_or (out_of feed a) i d).to.0 ≤ (get_or (out_of feed a) k d).to.0) same (omega arith)) (cases_lt i j)

-- their members are the walks
out_of-tells : (feed : FeedRows) (a : StopId) (t : Step) → Contains (out_of feed a) t → link feed a t.to ≡ Some t.seconds.0
unfolding out_of
out_of-tells feed a = along-tells feed a (length feed.stops) (λ i. record { 0 = i })

Contains-out_of : (feed : FeedRows) (a : StopId) (t : Step) → link feed a t.to ≡ Some t.seconds.0 → Contains (out_of feed a) t
unfolding out_of
Contains-out_of feed a t linked =
    let walk = link-tells feed a t.to t.seconds.0 linked in
    Contains-along feed a (length feed.stops) (λ i. record { 0 = i }) t t.to.0 (platform_within feed t.to walk.to) refl linked

-- the step to the stop at a place, where there is a walk to it
abbrev pub step_at : FeedRows → StopId → List StopId → ℕ → List Step
step_at feed from near k = step_list (get_or near k (record { 0 = 0 })) (link feed from (get_or near k (record { 0 = 0 })))

-- the steps to those near a stop are the walks out of it
pub steps_exact : (feed : FeedRows) (from : StopId) (near : List StopId) → AreNear feed from near → joined_below (length near) (step_at feed from near) ≡ out_of feed from
steps_exact feed from near is =
    same_from_members Before before_strict (joined_below (length near) (step_at feed from near)) (out_of feed from) (along-ascends feed from (length near) at (λ i j lt within. is.ascends i j _ lt within)) (out_of-ascends feed from)
    (record {
      there = λ t here. Contains-out_of feed from t (along-tells feed from (length near) at t here);
      back = λ t here.
          let linked = out_of-tells feed from t here in
          let place = is.there t.to t.seconds.0 linked in
          Contains-along feed from (length near) at t place.0 place.1 (sym place.2 ∙ get_or_default near place.0 t.to _ place.1) linked;
    })
  where
    at : ℕ → StopId
    at k = get_or near k (record { 0 = 0 })

-- the walk to a stop is found among the walks out of the platform
pub find-out_of : (feed : FeedRows) (a b : StopId) → option_map (λ (s : Step). s.seconds.0) (find (λ s. s.to.0 == b.0) (out_of feed a)) ≡ link feed a b
find-out_of feed a b = step (find (λ s. s.to.0 == b.0) (out_of feed a)) refl
  where
    step : (o : Option Step) → find (λ s. s.to.0 == b.0) (out_of feed a) ≡ o → option_map (λ (s : Step). s.seconds.0) o ≡ link feed a b
    step (Some t) found =
        let is = find-tells (λ (s : Step). s.to.0 == b.0) (out_of feed a) t found in
        sym (subst (λ s. link feed a s ≡ Some t.seconds.0) (same_stop t.to b is.passes) (out_of-tells feed a t (Contains-slice_get (out_of feed a) is.at t is.got)))
    step None none = sym (none_if (link feed a b) (λ seconds linked.
        let t : Step = record { to = b; seconds = record { 0 = seconds } } in
        find-some (λ (s : Step). s.to.0 == b.0) (out_of feed a) t (Contains-out_of feed a t linked) (grind (arith, nat_tests)) none))

-- there are none out of a number that is no stop's
out_of-past : (feed : FeedRows) (a : StopId) → length feed.stops ≤ a.0 → out_of feed a ≡ []
unfolding out_of
out_of-past feed a past = joined_below-none (length feed.stops) (λ i. step_list (record { 0 = i }) (link feed a (record { 0 = i }))) (λ i lt. rw (none_if (link feed a (record { 0 = i })) (λ seconds linked.
    let walk = link-tells feed a (record { 0 = i }) seconds linked in let inside = platform_within feed a walk.from in omega arith)) refl)

-- so the walks out of a stop stand at its place
pub walk_steps-at : (feed : FeedRows) (a : StopId) → unwrap_or (slice_get (walk_steps feed) a.0) [] ≡ out_of feed a
unfolding walk_steps
walk_steps-at feed a = ⊎_elim
    (λ (lt : a.0 < length feed.stops). rw (slice_get-list_below (length feed.stops) (λ i. out_of feed (record { 0 = i })) a.0 lt) refl)
    (λ (past : length feed.stops ≤ a.0).
    let long = length-list_below (length feed.stops) (λ i. out_of feed (record { 0 = i })) in
    rw (slice_get_past (list_below (length feed.stops) (λ i. out_of feed (record { 0 = i }))) a.0 (omega arith)) (sym (out_of-past feed a past)))
    (cases_lt a.0 (length feed.stops))
