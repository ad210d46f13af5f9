-- The timed rows of a trip: the nearest before and after a position, and how they go on from position to position.
use Rattle.std.proofs.Common.{◌≡◌, refl, sym, ◌∙◌, ap, ℕ, ◌+◌, ◌-◌, ◌<◌, ◌≤◌, ◌⊎◌, inl, inr, ⊎_elim, Bool, true, false, ◌&&◌, nat_lt, List, length, get_or, arith}
use Rattle.std.specs.Prelude.{Option, Some, None, IsSome, slice_get, option_and_then}
use Rattle.std.proofs.lemmas.Bool.{cases_lt, cases_eq, cases_Bool, and_parts, and_from}
use Rattle.std.proofs.lemmas.Bool.Decides.{nat_tests}
use Rattle.std.proofs.lemmas.Option.{slice_get_past, slice_get-get_or, none-some}
use Rattle.feed_rows.specs.declared.rows.StopTimeRow.{StopTimeRow}
use Rattle.feed_rows.specs.Calls.{first_time, last_time, is_timed, timed_before, timed_after}
use Rattle.feed_rows.specs.CallPass.{next_timed}
use Rattle.feed_rows.specs.TimedTrips.{first_at, last_at, is_timed_at, HasTimedEnds}
use Rattle.plain_laws.proofs.Laws.{find_below_none, find_below_hit, find_below_tells, find_below_some, last_below_hit, last_below_tells, last_below_some}

-- p is the nearest timed position before m
pub record IsTimedBefore (rows : List StopTimeRow) (m p : ℕ) : Type 0 where
  pub before : p < m
  pub timed : is_timed_at rows p ≡ true
  pub between : (k : ℕ) → p < k → k < m → is_timed_at rows k ≡ false

-- q is the nearest timed position after m
pub record IsTimedAfter (rows : List StopTimeRow) (m q : ℕ) : Type 0 where
  pub after : m < q
  pub timed : is_timed_at rows q ≡ true
  pub between : (k : ℕ) → m < k → k < q → is_timed_at rows k ≡ false

-- a timed position is one of a row
pub timed_within : (rows : List StopTimeRow) (m : ℕ) → is_timed_at rows m ≡ true → m < length rows
timed_within rows m timed = step (cases_lt m (length rows))
  where
    step : (m < length rows) ⊎ (length rows ≤ m) → m < length rows
    step (inl lt) = lt
    step (inr past) = let past' = slice_get_past rows m past in let no : false ≡ true = rw past' at timed in absurd (cc)

-- the nearest timed position before, by what it is
pub timed_before_hit : (rows : List StopTimeRow) (m p : ℕ) → IsTimedBefore rows m p → timed_before rows m ≡ Some p
timed_before_hit rows m p near = last_below_hit (λ k. is_timed_at rows k) m p (record { within = near.before; passes = near.timed; later = near.between })

pub timed_before_tells : (rows : List StopTimeRow) (m p : ℕ) → timed_before rows m ≡ Some p → IsTimedBefore rows m p
timed_before_tells rows m p e = let last = last_below_tells (λ k. is_timed_at rows k) m p e in record { before = last.within; timed = last.passes; between = last.later }

-- the nearest timed position after, by what it is
pub timed_after_hit : (rows : List StopTimeRow) (m q : ℕ) → IsTimedAfter rows m q → timed_after rows m ≡ Some q
timed_after_hit rows m q near =
    find_below_hit (λ k. nat_lt m k && is_timed_at rows k) (length rows) q (record {
      within = timed_within rows q near.timed;
      passes = and_from _ _ (less m q near.after) near.timed;
      earlier = λ k lt. ⊎_elim (λ (below : m < k). ends (nat_lt m k) (is_timed_at rows k) (near.between k below lt)) (λ (le : k ≤ m). starts m k (is_timed_at rows k) le) (cases_lt m k);
    })
  where
    less : (a b : ℕ) → a < b → nat_lt a b ≡ true
    less a b lt = grind (arith, nat_tests)

    ends : (a b : Bool) → b ≡ false → (a && b) ≡ false
    ends true b e = e
    ends false b e = refl

    starts : (a k : ℕ) (b : Bool) → k ≤ a → (nat_lt a k && b) ≡ false
    starts a k b le = let no : nat_lt a k ≡ false = grind (arith, nat_tests) in rw no refl

pub timed_after_tells : (rows : List StopTimeRow) (m q : ℕ) → timed_after rows m ≡ Some q → IsTimedAfter rows m q
timed_after_tells rows m q e =
    let first = find_below_tells (λ k. nat_lt m k && is_timed_at rows k) (length rows) q e in
    let both = and_parts (nat_lt m q) (is_timed_at rows q) first.passes in
    record { after = less m q both.0; timed = both.1; between = λ k from to. ends m k (is_timed_at rows k) from (first.earlier k to) }
  where
    less : (a b : ℕ) → nat_lt a b ≡ true → a < b
    less a b e = grind (arith, nat_tests)

    ends : (a k : ℕ) (b : Bool) → a < k → (nat_lt a k && b) ≡ false → b ≡ false
    ends a k b lt e = let yes : nat_lt a k ≡ true = grind (arith, nat_tests) in rw yes at e

-- where no row after the position has times there is none
pub timed_after_none : (rows : List StopTimeRow) (m : ℕ) → ((k : ℕ) → m < k → k < length rows → is_timed_at rows k ≡ false) → timed_after rows m ≡ None
timed_after_none rows m none = find_below_none (λ k. nat_lt m k && is_timed_at rows k) (length rows) (λ k lt. step k lt (cases_lt m k))
  where
    starts : (a k : ℕ) (b : Bool) → k ≤ a → (nat_lt a k && b) ≡ false
    starts a k b le = let past : nat_lt a k ≡ false = grind (arith, nat_tests) in rw past refl

    ends : (a b : Bool) → b ≡ false → (a && b) ≡ false
    ends true b e = e
    ends false b e = refl

    step : (k : ℕ) → k < length rows → (m < k) ⊎ (k ≤ m) → (nat_lt m k && is_timed_at rows k) ≡ false
    step k lt (inl after) = ends (nat_lt m k) (is_timed_at rows k) (none k after lt)
    step k lt (inr before) = starts m k (is_timed_at rows k) before

-- a row at its position
pub is_timed_at_row : (rows : List StopTimeRow) (m : ℕ) (d : StopTimeRow) → m < length rows → is_timed_at rows m ≡ is_timed (get_or rows m d)
is_timed_at_row rows m d lt = rw (slice_get-get_or rows m d lt) refl

-- one more row without times, as a search for the next timed one passes it
pub untimed_more : (rows : List StopTimeRow) (p q : ℕ) → ((k : ℕ) → p < k → k < q → is_timed_at rows k ≡ false) → is_timed_at rows q ≡ false → (k : ℕ) → p < k → k < q + 1 → is_timed_at rows k ≡ false
untimed_more rows p q before here k from to = step (cases_lt k q)
  where
    step : (k < q) ⊎ (q ≤ k) → is_timed_at rows k ≡ false
    step (inl below) = before k from below
    step (inr past) = let same : k ≡ q = omega arith in rw same here

-- the next timed position, as a search from the position after p on ends at it or at the end
pub next_timed_hit : (rows : List StopTimeRow) (p q : ℕ) → p < q → q ≤ length rows → ((k : ℕ) → p < k → k < q → is_timed_at rows k ≡ false) → (q < length rows → is_timed_at rows q ≡ true) → next_timed rows p ≡ q
next_timed_hit rows p q lt le none timed = step (cases_lt q (length rows))
  where
    step : (q < length rows) ⊎ (length rows ≤ q) → next_timed rows p ≡ q
    step (inl within) = let found = timed_after_hit rows p q (record { after = lt; timed = timed within; between = none }) in rw found refl
    step (inr past) =
        let at_end : length rows ≡ q = omega arith in
        let found = timed_after_none rows p (λ k from to. none k from (omega arith)) in
        rw found at_end

-- the same where the search ends with no timed row
pub next_timed_end : (rows : List StopTimeRow) (p q : ℕ) → ((k : ℕ) → p < k → k < q → is_timed_at rows k ≡ false) → length rows ≤ q → next_timed rows p ≡ length rows
next_timed_end rows p q none le =
    let found = timed_after_none rows p (λ k from to. none k from (omega arith)) in
    rw found refl

-- where the rows from the position before on have no times, both have one next timed position
pub timed_after_gap : (rows : List StopTimeRow) (m p q : ℕ) → IsTimedBefore rows m p → is_timed_at rows m ≡ false → IsTimedAfter rows m q → IsTimedAfter rows p q
timed_after_gap rows m p q left untimed right =
    let before = left.before in
    let after = right.after in
    record { after = omega arith; timed = right.timed; between = λ k from to. step k from to (cases_lt k m) (cases_eq k m) }
  where
    step : (k : ℕ) → p < k → k < q → (k < m) ⊎ (m ≤ k) → (k ≡ m) ⊎ (k ≡ m → ⊥) → is_timed_at rows k ≡ false
    step k from to (inl below) _ = left.between k from below
    step k from to (inr past) (inl here) = rw here untimed
    step k from to (inr past) (inr apart) = right.between k (omega arith) to

-- a row without times lies between two timed ones
pub record IsInGap (rows : List StopTimeRow) (m p q : ℕ) : Type 0 where
  pub before : IsTimedBefore rows m p
  pub untimed : is_timed_at rows m ≡ false
  pub after : IsTimedAfter rows m q

pub in_gap : (rows : List StopTimeRow) (m : ℕ) → HasTimedEnds rows → m < length rows → is_timed_at rows m ≡ false → (p : ℕ) × (q : ℕ) × IsInGap rows m p q
in_gap rows m ends lt untimed =
    let first = ends.first (omega arith) in
    let last = ends.last (omega arith) in
    let before = last_below_some (λ k. is_timed_at rows k) m 0 (low first (cases_eq m 0)) first in
    let past : m < length rows - 1 = high last (cases_eq m (length rows - 1)) in
    let after = find_below_some (λ k. nat_lt m k && is_timed_at rows k) (length rows) (length rows - 1) (omega arith) (and_from _ _ (less m (length rows - 1) past) last) in (
      before.0,
      after.0,
      record {
        before = timed_before_tells rows m before.0 before.1;
        untimed = untimed;
        after = timed_after_tells rows m after.0 after.1;
      },
    )
  where
    less : (a b : ℕ) → a < b → nat_lt a b ≡ true
    less a b lt = grind (arith, nat_tests)

    low : is_timed_at rows 0 ≡ true → (m ≡ 0) ⊎ (m ≡ 0 → ⊥) → 0 < m
    low first (inl e) = let no : false ≡ true = sym untimed ∙ ap (λ k. is_timed_at rows k) e ∙ first in absurd (cc)
    low first (inr apart) = omega arith

    high : is_timed_at rows (length rows - 1) ≡ true → (m ≡ length rows - 1) ⊎ (m ≡ length rows - 1 → ⊥) → m < length rows - 1
    high last (inl e) = let no : false ≡ true = sym untimed ∙ ap (λ k. is_timed_at rows k) e ∙ last in absurd (cc)
    high last (inr apart) = omega arith

-- the times of a timed row, and of one without
pub timed_row : (row : StopTimeRow) → is_timed row ≡ true → (first : ℕ) × (last : ℕ) × (first_time row ≡ Some first) × (last_time row ≡ Some last)
timed_row row timed = step row.arrival row.departure refl refl
  where
    step : (a d : Option ℕ) → row.arrival ≡ a → row.departure ≡ d → (first : ℕ) × (last : ℕ) × (first_time row ≡ Some first) × (last_time row ≡ Some last)
    step (Some a) (Some d) p q = (a, d, rw p refl, rw q refl)
    step (Some a) None p q = (a, a, rw p refl, rw (q, p) refl)
    step None (Some d) p q = (d, d, rw (p, q) refl, rw q refl)
    step None None p q = let no : false ≡ true = rw (p, q) at timed in absurd (cc)

pub untimed_row : (row : StopTimeRow) → is_timed row ≡ false → (first_time row ≡ None) × (last_time row ≡ None)
untimed_row row untimed = step row.arrival row.departure refl refl
  where
    step : (a d : Option ℕ) → row.arrival ≡ a → row.departure ≡ d → (first_time row ≡ None) × (last_time row ≡ None)
    step (Some a) d p q = let no : true ≡ false = rw p at untimed in absurd (cc)
    step None (Some d) p q = let no : true ≡ false = rw (p, q) at untimed in absurd (cc)
    step None None p q = (rw (p, q) refl, rw (q, p) refl)

-- a row with a last time is timed, as is one with a first time by what it is to be timed
pub last_timed : (row : StopTimeRow) → IsSome (last_time row) → is_timed row ≡ true
last_timed row some = step (cases_Bool (is_timed row))
  where
    step : (is_timed row ≡ true) ⊎ (is_timed row ≡ false) → is_timed row ≡ true
    step (inl timed) = timed
    step (inr untimed) = let none = (untimed_row row untimed).1 in absurd (let no : false ≡ true = rw none at some in cc)

-- a position whose row has a time of the kind is timed, where each row with such a time is
pub timed_where : (time : StopTimeRow → Option ℕ) → ((row : StopTimeRow) → IsSome (time row) → is_timed row ≡ true) →
    (rows : List StopTimeRow) (m t : ℕ) → option_and_then time (slice_get rows m) ≡ Some t → is_timed_at rows m ≡ true
timed_where time timed rows m t e = step (slice_get rows m) refl
  where
    step : (o : Option StopTimeRow) → slice_get rows m ≡ o → is_timed_at rows m ≡ true
    step None none = absurd (none-some t (rw none at e))
    step (Some row) at = let is : time row ≡ Some t = rw at at e in rw at (timed row (rw is refl))

-- the times at a timed position
pub timed_at : (rows : List StopTimeRow) (m : ℕ) → is_timed_at rows m ≡ true → (first : ℕ) × (last : ℕ) × (first_at rows m ≡ Some first) × (last_at rows m ≡ Some last)
timed_at rows m timed = step (slice_get rows m) refl
  where
    step : (o : Option StopTimeRow) → slice_get rows m ≡ o → (first : ℕ) × (last : ℕ) × (first_at rows m ≡ Some first) × (last_at rows m ≡ Some last)
    step None e = let no : false ≡ true = rw e at timed in absurd (cc)
    step (Some row) e =
        let times = timed_row row (rw e at timed) in
        (times.0, times.1, rw e times.2, rw e times.3)
