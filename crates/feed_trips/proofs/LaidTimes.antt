-- The times that are laid beside rows, trip by trip.
use Rattle.std.proofs.Common.{◌≡◌, refl, sym, ◌∙◌, ap, subst, ℕ, zero, suc, ◌+◌, ◌-◌, ◌<◌, ◌≤◌, ◌⊎◌, inl, inr, List, [], ◌∷◌, ◌++◌, length, get_or, take, drop, slice_set, get_or-set_other, get_or-set_same, arith, true}
use Rattle.std.specs.Prelude.{Bool, Some, slice_get, slice_range}
use Rattle.std.specs.List.{list_all}
use Rattle.std.proofs.lemmas.Bool.{and_parts, cases_eq}
use Rattle.std.proofs.lemmas.Option.{slice_get-get_or, slice_get_within}
use Rattle.std.proofs.lemmas.List.{get_or_default, length-take, take_all}
use Rattle.std.proofs.Math.ListN.{length-set}
use mathlib.Core.Bool.{true≢false}
use Rattle.feed_rows.specs.declared.journeys.Call.{Call}
use Rattle.feed_rows.specs.declared.rows.StopTimeRow.{StopTimeRow}
use Rattle.feed_rows.specs.CallPass.{pass}
use Rattle.feed_rows.specs.Calls.{is_timed}
use Rattle.feed_laws.proofs.TimedLaws.{is_timed_at_row}
use Rattle.plain_laws.proofs.Laws.{length-list_below, list_all-at, slice_get-append_left, slice_get-list_below}
use Rattle.trip_order.specs.Order.{no_time}
use Rattle.feed_trips.specs.declared.together.Stretch.{Stretch}
use Rattle.feed_trips.specs.Filled.{AreFilled, AreFilledFrom, AreFilledUp, AreKept, AreLaid, IsLaid}
use Rattle.feed_trips.specs.Stretches.{no_stretch, rows_at, stretch_calls, AreStretches}

-- an item of a range of a list
slice_get-take : {X : Type 0} (n : ℕ) (xs : List X) (k : ℕ) → k < n → slice_get (take n xs) k ≡ slice_get xs k
slice_get-take zero xs k lt = absurd (omega arith)
slice_get-take (suc n) [] k lt = refl
slice_get-take (suc n) (x ∷ xs) zero lt = refl
slice_get-take (suc n) (x ∷ xs) (suc k) lt = slice_get-take n xs k (omega arith)

slice_get-drop : {X : Type 0} (n : ℕ) (xs : List X) (k : ℕ) → slice_get (drop n xs) k ≡ slice_get xs (n + k)
slice_get-drop zero xs k = let same : 0 + k ≡ k = omega arith in rw same refl
slice_get-drop (suc n) [] k = refl
slice_get-drop (suc n) (x ∷ xs) k = let next : suc n + k ≡ suc (n + k) = omega arith in rw next (slice_get-drop n xs k)

slice_get-range : {X : Type 0} (xs : List X) (from to k : ℕ) → from + k < to →
    slice_get (slice_range xs from to) k ≡ slice_get xs (from + k)
slice_get-range xs from to k lt =
    slice_get-take (to - from) (drop from xs) k (omega arith) ∙ slice_get-drop from xs k

-- a test that all pass is passed by each of a range
list_all-take : {X : Type 0} (p : X → Bool) (n : ℕ) (xs : List X) → list_all p xs ≡ true → list_all p (take n xs) ≡ true
list_all-take p zero xs all = refl
list_all-take p (suc n) [] all = refl
list_all-take p (suc n) (x ∷ xs) all =
    let both = and_parts (p x) (list_all p xs) all in rw (both.0, list_all-take p n xs both.1) refl

list_all-drop : {X : Type 0} (p : X → Bool) (n : ℕ) (xs : List X) → list_all p xs ≡ true → list_all p (drop n xs) ≡ true
list_all-drop p zero xs all = all
list_all-drop p (suc n) [] all = refl
list_all-drop p (suc n) (x ∷ xs) all = list_all-drop p n xs (and_parts (p x) (list_all p xs) all).1

-- rows that have times need none laid
all_timed : (rows : List StopTimeRow) (times : List ℕ) (from : ℕ) → list_all is_timed rows ≡ true →
    AreFilledFrom from rows times
all_timed rows times from all m lt untimed =
    let row = slice_get-get_or rows m no_time lt in
    absurd (true≢false (sym (list_all-at is_timed rows m _ all row) ∙ sym (is_timed_at_row rows m no_time lt) ∙ untimed))

pub none_laid : (rows : List StopTimeRow) (from to : ℕ) (times : List ℕ) → from ≤ to → length times ≤ from →
    list_all is_timed (slice_range rows from to) ≡ true → IsLaid rows from to times times
none_laid rows from to times forward short all =
    record {
      short = omega arith;
      keeps = λ k time at. at;
      filled = all_timed (slice_range rows from to) times from all;
      none = λ none. refl;
    }

-- the times of a piece, filled in among zeros behind the others
pub piece_laid : (rows : List StopTimeRow) (from to : ℕ) (old kept zeros room new : List ℕ) → to ≤ length rows →
    (list_all is_timed (slice_range rows from to) ≡ true → ⊥) → length old ≤ from → from ≤ to → kept ≡ old →
    room ≡ take to kept ++ zeros → length room ≡ to → length new ≡ length room →
    ((k : ℕ) → k < from → slice_get new k ≡ slice_get room k) → AreFilledFrom from (slice_range rows from to) new →
    IsLaid rows from to old new
piece_laid rows from to old kept zeros room new within some short forward same is size long before filled =
    record {
      short = omega (arith, size, long);
      keeps = λ k time at.
          let inside = slice_get_within old k time at in
          before k (omega (arith, inside, short))
          ∙ ap (λ ts. slice_get ts k) (is ∙ ap (λ ts. take to ts ++ zeros) same ∙ ap (λ ts. ts ++ zeros) (take_all to old (omega (arith, short, forward))))
          ∙ slice_get-append_left old zeros k inside ∙ at;
      filled = filled;
      none = λ all. absurd (some all);
    }

-- a piece is put at its trip's stretch, and its times are laid
pub more_laid : (rows : List StopTimeRow) (from to trip : ℕ) (old new : List Stretch) (times more : List ℕ) →
    trip < length old → new ≡ slice_set old trip (record { from = from; to = to }) →
    AreLaid rows from old times → IsLaid rows from to times more → AreLaid rows to new more
more_laid rows from to trip old new times more inside put before laid =
    record {
      short = laid.short;
      filled = λ t lt.
          subst (λ (ss : List Stretch). AreFilledFrom (get_or ss t no_stretch).from (rows_at rows ss t) more) (sym put)
          (at t (rw (put, length-set old trip (record { from = from; to = to })) at lt) (cases_eq t trip));
      none = λ all.
          laid.none (list_all-take is_timed (to - from) (drop from rows) (list_all-drop is_timed from rows all))
          ∙ before.none all;
    }
  where
    at : (t : ℕ) → t < length old → (t ≡ trip) ⊎ (t ≡ trip → ⊥) →
        AreFilledFrom (get_or (slice_set old trip (record { from = from; to = to })) t no_stretch).from
        (rows_at rows (slice_set old trip (record { from = from; to = to })) t) more
    at t lt (inl here) = rw (here, get_or-set_same old trip (record { from = from; to = to }) no_stretch inside) laid.filled
    at t lt (inr other) =
        rw (get_or-set_other old trip t (record { from = from; to = to }) no_stretch other)
        (λ m below untimed. laid.keeps _ _ (before.filled t lt m below untimed))

-- where the times of all rows are laid, they are kept once they are filled up
pub all_kept : (rows : List StopTimeRow) (trips : ℕ) (stretches : List Stretch) (times new : List ℕ) →
    AreStretches rows (length rows) trips stretches → AreLaid rows (length rows) stretches times →
    AreFilledUp (length rows) times new → AreKept rows stretches new
all_kept rows trips stretches times new are laid full =
    record {
      forward = λ t lt. (are.each t (within t lt)).forward;
      ends = λ t lt. (are.each t (within t lt)).ends;
      many = full.many;
      filled = λ t lt m below untimed.
          let s = get_or stretches t no_stretch in
          let long = length-take (s.to - s.from) (drop s.from rows) in
          slice_get-range new s.from s.to m (omega (arith, below, long))
          ∙ full.keeps _ _ (laid.filled t lt m below untimed);
    }
  where
    within : (t : ℕ) → t < length stretches → t < trips
    within t lt = let count = are.count in omega (arith, count, lt)

-- the stretch of a trip lies within the rows
pub lies : (rows : List StopTimeRow) (stretches : List Stretch) (times : List ℕ) (trip : ℕ) (s : Stretch) →
    AreKept rows stretches times → trip < length stretches → s ≡ get_or stretches trip s →
    (s.from ≤ s.to) × (s.to ≤ length rows)
lies rows stretches times trip s kept lt is =
    let same : s ≡ get_or stretches trip no_stretch = is ∙ get_or_default stretches trip s no_stretch lt in (
      subst (λ (t : Stretch). t.from ≤ t.to) (sym same) (kept.forward trip lt),
      subst (λ (t : Stretch). t.to ≤ length rows) (sym same) (kept.ends trip lt),
    )

-- a trip that has calls has a stretch
pub has_stretch : (rows : List StopTimeRow) (stretches : List Stretch) (made : List (List Call)) (trip : ℕ) →
    stretch_calls rows stretches ≡ made → trip < length made → trip < length stretches
has_stretch rows stretches made trip is lt =
    let long = length-list_below (length stretches) (λ t. pass (rows_at rows stretches t)) in
    let same = ap length is in
    omega (arith, long, same, lt)

-- its calls are those of the rows that stand there
pub calls_there : (rows : List StopTimeRow) (stretches : List Stretch) (made : List (List Call)) (trip : ℕ) (s : Stretch)
    → stretch_calls rows stretches ≡ made → trip < length stretches → s ≡ get_or stretches trip s →
    slice_get made trip ≡ Some (pass (slice_range rows s.from s.to))
calls_there rows stretches made trip s is lt at =
    let same : get_or stretches trip no_stretch ≡ s = sym (at ∙ get_or_default stretches trip s no_stretch lt) in
    ap (λ ms. slice_get ms trip) (sym is)
    ∙ slice_get-list_below (length stretches) (λ t. pass (rows_at rows stretches t)) trip lt
    ∙ ap (λ (t : Stretch). Some (pass (slice_range rows t.from t.to))) same

-- and the times that are kept there are filled in
pub filled_there : (rows : List StopTimeRow) (stretches : List Stretch) (times : List ℕ) (trip : ℕ) (s : Stretch) →
    AreKept rows stretches times → trip < length stretches → s ≡ get_or stretches trip s →
    AreFilled (slice_range rows s.from s.to) (slice_range times s.from s.to)
filled_there rows stretches times trip s kept lt at =
    let same : get_or stretches trip no_stretch ≡ s = sym (at ∙ get_or_default stretches trip s no_stretch lt) in
    subst (λ (t : Stretch). AreFilled (slice_range rows t.from t.to) (slice_range times t.from t.to)) same
    (kept.filled trip lt)

-- the times that are kept reach to the end of each stretch, if there are any
pub reach : (rows : List StopTimeRow) (times : List ℕ) (to : ℕ) → to ≤ length rows →
    (length times ≡ 0) ⊎ (length times ≡ length rows) → (length times ≡ 0) ⊎ (to ≤ length times)
reach rows times to within (inl none) = inl none
reach rows times to within (inr all) = inr (omega (arith, within, all))
