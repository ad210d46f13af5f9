-- What the neighbours of a place tell is what the definitions say of its row.
use Rattle.std.proofs.Common.{◌≡◌, refl, sym, ◌∙◌, ap, subst, ℕ, zero, suc, ◌+◌, ◌-◌, ◌<◌, ◌≤◌, inr, ⊎_elim, Bool, true, false, List, length, Option, None, Some, arith}
use Rattle.std.specs.Prelude.{◌==◌, ◌&&◌, ◌||◌, not, nat_lt, is_some}
use Rattle.std.specs.Option.{option_or}
use Rattle.std.proofs.lemmas.Bool.{cases_Bool, cases_eq, cases_lt, and_parts, and_from, eqb-true, eq-eqb, lt-ltb, ltb-true}
use Rattle.plain_laws.specs.Plain.{at_and, any_below}
use Rattle.plain_laws.proofs.Laws.{any_below_hit, any_below_tells, length-list_below, same_test, at_and-list_below}
use Rattle.feed_faults.specs.RowKeys.{is_repeated}
use Rattle.feed_faults.specs.StopTimeRelations.{StopTime, has_time, is_earlier, first_filled, last_filled, same_place, comes_before, is_first, is_last, is_end_time_missing, is_nearest_before, do_times_decrease}
use Rattle.stop_order.specs.declared.times.TripTime.{TripTime}
use Rattle.stop_order.specs.declared.times.OrderFaults.{OrderFaults}
use Rattle.stop_order.specs.Numbered.{numbered_at, named_time, named_times, is_one_trip, IsOneTrip, AreFaults, faults_at, is_timed, first_time, last_time}
use Rattle.stop_order.specs.Order.{trip_at, Before, AreOrdered, continues_trip, time_before, place_faults, AreTold}
use Rattle.stop_order.proofs.PlaceLaws.{one_hit, one_told, sequence, timed, comes_hit, comes_told_first, comes_told_last, same_hit, same_told, timed_alike}

-- the stop time at a place
abbrev time_at : List TripTime → (ℕ → ℕ) → ℕ → TripTime
time_at times row place = numbered_at times (row place)

-- a place goes on with the trip of the one before it
pub on_hit : (times : List TripTime) (row : ℕ → ℕ) (k place : ℕ) → place ≡ k + 1 → place < length times → trip_at times (row k) ≡ trip_at times (row place) → continues_trip times row place ≡ true
unfolding continues_trip
on_hit times row k place next within same =
    let back : place - 1 ≡ k = omega arith in
    let same' : trip_at times (row (place - 1)) ≡ trip_at times (row place) = rw back same in
    and_from (nat_lt 0 place && nat_lt place (length times)) (is_one_trip (trip_at times (row (place - 1))) (trip_at times (row place)))
    (and_from (nat_lt 0 place) (nat_lt place (length times)) (lt-ltb 0 place (omega arith)) (lt-ltb place (length times) within))
    (one_hit (trip_at times (row (place - 1))) (trip_at times (row place)) same')

pub on_told : (times : List TripTime) (row : ℕ → ℕ) (place : ℕ) → continues_trip times row place ≡ true → (0 < place) × (place < length times) × (trip_at times (row (place - 1)) ≡ trip_at times (row place))
unfolding continues_trip
on_told times row place on =
    let two = and_parts (nat_lt 0 place && nat_lt place (length times)) (is_one_trip (trip_at times (row (place - 1))) (trip_at times (row place))) on in
    let ends = and_parts (nat_lt 0 place) (nat_lt place (length times)) two.0 in
    (ltb-true 0 place ends.0, ltb-true place (length times) ends.1, one_told (trip_at times (row (place - 1))) (trip_at times (row place)) two.1)

-- a row has a last time where it has a first
either_set : (a b : Option ℕ) → is_some (option_or a b) ≡ is_some (option_or b a)
either_set None None = refl
either_set None (Some y) = refl
either_set (Some x) None = refl
either_set (Some x) (Some y) = refl

timed_last : (time : TripTime) → is_timed time ≡ is_some (last_time time)
timed_last time = either_set time.arrival time.departure

none_of : (a : Option ℕ) → is_some a ≡ false → a ≡ None
none_of None e = refl
none_of (Some x) e = absurd (cc)

some_of : (a : Option ℕ) → is_some a ≡ true → (x : ℕ) × (a ≡ Some x)
some_of None e = absurd (cc)
some_of (Some x) e = (x, refl)

-- the nearest timed place before one in its trip, and its last time
record IsNearest (times : List TripTime) (row : ℕ → ℕ) (p t : ℕ) : Type 0 where
  place : ℕ
  ahead : place < p
  here : trip_at times (row place) ≡ trip_at times (row p)
  last : last_time (time_at times row place) ≡ Some t
  later : (k : ℕ) → place < k → k < p → is_timed (time_at times row k) ≡ false

-- the time before a place is that of the nearest timed place before it in its trip
before_told : (times : List TripTime) (row : ℕ → ℕ) (p t : ℕ) → time_before times row p ≡ Some t → IsNearest times row p t
unfolding time_before
before_told times row zero t e = absurd (cc)
before_told times row (suc k) t e = ⊎_elim
    (λ (on : continues_trip times row (suc k) ≡ true).
    let told = on_told times row (suc k) on in
    let back : suc k - 1 ≡ k = omega arith in
    let same : trip_at times (row k) ≡ trip_at times (row (suc k)) = rw back at told.2 in
    let e' : option_or (last_time (time_at times row k)) (time_before times row k) ≡ Some t = rw on at e in
    step (last_time (time_at times row k)) refl e' same (λ before. before_told times row k t before))
    (λ (off : continues_trip times row (suc k) ≡ false). let no : None ≡ Some t = rw off at e in absurd (cc))
    (cases_Bool (continues_trip times row (suc k)))
  where
    step : (last : Option ℕ) → last_time (time_at times row k) ≡ last → option_or last (time_before times row k) ≡ Some t → trip_at times (row k) ≡ trip_at times (row (suc k)) → (time_before times row k ≡ Some t → IsNearest times row k t) → IsNearest times row (suc k) t
    step None is e same old =
        let near = old e in
        let ahead = near.ahead in
        record {
          place = near.place;
          ahead = omega arith;
          here = near.here ∙ same;
          last = near.last;
          later = λ j from to. ⊎_elim
              (λ (own : j ≡ k). rw own (timed_last (time_at times row k) ∙ ap is_some is))
              (λ (apart : j ≡ k → ⊥). near.later j from (omega arith))
              (cases_eq j k);
        }
    step (Some u) is e same old =
        record {
          place = k;
          ahead = omega arith;
          here = same;
          last = is ∙ e;
          later = λ j from to. absurd (omega arith);
        }

before_hit : (times : List TripTime) (row : ℕ → ℕ) → AreOrdered times row → (p t q : ℕ) → p < length times → q < p → trip_at times (row q) ≡ trip_at times (row p) → last_time (time_at times row q) ≡ Some t → ((k : ℕ) → q < k → k < p → is_timed (time_at times row k) ≡ false) → time_before times row p ≡ Some t
unfolding time_before
before_hit times row are zero t q within ahead here last later = absurd (omega arith)
before_hit times row are (suc k) t q within ahead here last later =
    let same = are.together q k (suc k) (omega arith) (omega arith) within here in
    let on = on_hit times row k (suc k) (omega arith) within same in
    rw on (⊎_elim
    (λ (own : q ≡ k). let last' : last_time (time_at times row k) ≡ Some t = rw own at last in rw last' refl)
    (λ (apart : q ≡ k → ⊥).
    let none = none_of (last_time (time_at times row k)) (sym (timed_last (time_at times row k)) ∙ later k (omega arith) (omega arith)) in
    let old = before_hit times row are k t q (omega arith) (omega arith) (here ∙ sym same) last (λ j from to. later j from (omega arith)) in
    rw none old)
    (cases_eq q k))

-- nothing is earlier than no time
never : (first : Option ℕ) → is_earlier first None ≡ false
never None = refl
never (Some x) = refl

-- what comes before isn't preceded
not_back : (s t a b : ℕ) → Before t s b a → Before s t a b → ⊥
not_back s t a b back is = grind (arith, back, is)

pub not_itself : (s a : ℕ) → Before s s a a → ⊥
not_itself s a is = grind (arith, is)

-- between two rows of one sequence all have it
level_between : (s t u a b c : ℕ) → Before s t a b → Before t u b c → s ≡ u → t ≡ u
level_between s t u a b c x y e =
    let low : s ≤ t = grind (arith, x) in
    let high : t ≤ u = grind (arith, y) in
    omega arith

-- of two rows with one sequence the earlier is the lesser
row_less : (s t a b : ℕ) → Before s t a b → s ≡ t → a < b
row_less s t a b is e = grind (arith, is, e)

module _ (times : List TripTime) (row : ℕ → ℕ) (are : AreOrdered times row) (text : ℕ → List ℕ) (p : ℕ) (below : p < length times) (one : IsOneTrip times text (row p)) where
  -- the sequence of a place
  abbrev level : ℕ → ℕ
  level k = (time_at times row k).sequence

  abbrev rows : List StopTime
  rows = named_times times text

  within : (k : ℕ) → k < length times → row k < length times
  within k lt = are.own k lt

  -- the trip of a place is that of this place
  abbrev IsHere : ℕ → Type 0
  IsHere k = trip_at times (row k) ≡ trip_at times (row p)

  -- an earlier place of the trip comes before a later one
  comes : (i j : ℕ) → i < j → j < length times → IsHere i → IsHere j → comes_before rows (row i) (row j) ≡ true
  comes i j lt lj hi hj =
      let li : i < length times = omega arith in
      comes_hit times text (row p) (within p below) one (row i) (row j) (within i li) (within j lj) hi hj (are.in_order i j lt lj (hi ∙ sym hj))

  earlier : (i j : ℕ) → i < length times → j < length times → IsHere i → IsHere j → Before (sequence times text (row i)) (sequence times text (row j)) (row i) (row j) → i < j
  earlier i j li lj hi hj is =
      ⊎_elim (λ (same : i ≡ j). absurd (let itself : Before (level j) (level j) (row j) (row j) = rw same at is in not_itself (level j) (row j) itself))
      (λ (other : i ≡ j → ⊥). ⊎_elim (λ (lt : i < j). lt)
      (λ (ge : j ≤ i). absurd (not_back (level i) (level j) (row i) (row j) (are.in_order j i (omega arith) li (hj ∙ sym hi)) is))
      (cases_lt i j))
      (cases_eq i j)

  -- a row that comes before one of the trip is of the trip, at an earlier place
  comes_first : (i j : ℕ) → i < length times → j < length times → IsHere j → comes_before rows (row i) (row j) ≡ true → IsHere i × (i < j)
  comes_first i j li lj hj e =
      let two = comes_told_last times text (row p) (within p below) one (row i) (row j) (within i li) (within j lj) hj e in
      (two.0, earlier i j li lj two.0 hj two.1)

  -- and one that comes after it is so at a later place
  comes_last : (i j : ℕ) → i < length times → j < length times → IsHere i → comes_before rows (row i) (row j) ≡ true → IsHere j × (i < j)
  comes_last i j li lj hi e =
      let two = comes_told_first times text (row p) (within p below) one (row i) (row j) (within i li) (within j lj) hi e in
      (two.0, earlier i j li lj hi two.0 two.1)

  -- what lies between a place of the trip and this place is of the trip
  here_between : (i k : ℕ) → i ≤ k → k ≤ p → IsHere i → IsHere k
  here_between i k low high here = are.together i k p low high below here

  size : length rows ≡ length times
  size = length-list_below (length times) (named_time times text)

  -- a row of the file has a place
  place : (r : ℕ) → r < length rows → (k : ℕ) × (k < length times) × (row k ≡ r)
  place r lt = are.placed r (rw size at lt)

  inside : (k : ℕ) → k < length times → row k < length rows
  inside k lt = rw size (within k lt)

  -- the first of a trip
  pub first_is : is_first rows (row p) ≡ not (continues_trip times row p)
  unfolding is_first
  first_is = ap not (same_test (any_below (length rows) (λ other. comes_before rows other (row p))) (continues_trip times row p)
      (λ some.
      let found = any_below_tells (λ other. comes_before rows other (row p)) (length rows) some in
      let at = place found.0 found.1 in
      let comes' : comes_before rows (row at.0) (row p) ≡ true = rw at.2 found.2 in
      let two = comes_first at.0 p at.1 below refl comes' in
      let lt = two.1 in
      on_hit times row (p - 1) p (omega arith) below (here_between at.0 (p - 1) (omega arith) (omega arith) two.0))
      (λ on.
      let told = on_told times row p on in
      let lt = told.0 in
      any_below_hit (λ other. comes_before rows other (row p)) (length rows) (row (p - 1)) (inside (p - 1) (omega arith)) (comes (p - 1) p (omega arith) below told.2 refl)))

  -- the last of a trip
  pub last_is : is_last rows (row p) ≡ not (continues_trip times row (p + 1))
  unfolding is_last
  last_is = ap not (same_test (any_below (length rows) (λ other. comes_before rows (row p) other)) (continues_trip times row (p + 1))
      (λ some.
      let found = any_below_tells (λ other. comes_before rows (row p) other) (length rows) some in
      let at = place found.0 found.1 in
      let comes' : comes_before rows (row p) (row at.0) ≡ true = rw at.2 found.2 in
      let two = comes_last p at.0 below at.1 refl comes' in
      let lt = two.1 in
      let inner = at.1 in
      let here = two.0 in
      let next = are.together p (p + 1) at.0 (omega arith) (omega arith) inner (sym here) ∙ here in
      on_hit times row p (p + 1) refl (omega arith) (sym next))
      (λ on.
      let told = on_told times row (p + 1) on in
      let lt = told.1 in
      let back : p + 1 - 1 ≡ p = omega arith in
      let here : trip_at times (row p) ≡ trip_at times (row (p + 1)) = rw back at told.2 in
      any_below_hit (λ other. comes_before rows (row p) other) (length rows) (row (p + 1)) (inside (p + 1) lt) (comes p (p + 1) (omega arith) lt refl (sym here))))

  -- a repeated place of a trip
  pub repeated_is : is_repeated (same_place rows) (row p) ≡ continues_trip times row p && ((time_at times row (p - 1)).sequence == (time_at times row p).sequence)
  repeated_is = same_test (any_below (row p) (same_place rows (row p))) (continues_trip times row p && ((time_at times row (p - 1)).sequence == (time_at times row p).sequence))
      (λ some.
      let found = any_below_tells (same_place rows (row p)) (row p) some in
      let in_file = within p below in
      let small = found.1 in
      let at = are.placed found.0 (omega arith) in
      let same' : same_place rows (row p) (row at.0) ≡ true = rw at.2 found.2 in
      let ahead : row at.0 < row p = rw at.2 small in
      let two = same_told times text (row p) in_file one (row p) (row at.0) in_file (within at.0 at.1) refl same' in
      let here = two.0 in
      let level' : level at.0 ≡ level p = sym two.1 in
      let lt = earlier at.0 p at.1 below here refl (inr (level', ahead)) in
      let last : IsHere (p - 1) × (level (p - 1) ≡ level p) = ⊎_elim
      (λ (is : at.0 ≡ p - 1). rw (← is) (here, level'))
      (λ (apart : at.0 ≡ p - 1 → ⊥).
      let next = here_between at.0 (p - 1) (omega arith) (omega arith) here in
      let ahead' = are.in_order at.0 (p - 1) (omega arith) (omega arith) (here ∙ sym next) in
      (next, level_between (level at.0) (level (p - 1)) (level p) (row at.0) (row (p - 1)) (row p) ahead' (are.in_order (p - 1) p (omega arith) below next) level'))
      (cases_eq at.0 (p - 1)) in
      and_from (continues_trip times row p) ((time_at times row (p - 1)).sequence == (time_at times row p).sequence)
      (on_hit times row (p - 1) p (omega arith) below last.0)
      (eq-eqb (time_at times row (p - 1)).sequence (time_at times row p).sequence last.1))
      (λ again.
      let two = and_parts (continues_trip times row p) ((time_at times row (p - 1)).sequence == (time_at times row p).sequence) again in
      let told = on_told times row p two.0 in
      let lt = told.0 in
      let small : p - 1 < length times = omega arith in
      let level' = eqb-true (level (p - 1)) (level p) two.1 in
      let ahead = row_less (level (p - 1)) (level p) (row (p - 1)) (row p) (are.in_order (p - 1) p (omega arith) below told.2) level' in
      let same = same_hit times text (row p) (within p below) one (row p) (row (p - 1)) (within p below) (within (p - 1) small) refl told.2 (sym level') in
      any_below_hit (same_place rows (row p)) (row p) (row (p - 1)) ahead same)

  -- a place is timed where its row is
  timed_is : (k : ℕ) → k < length times → at_and rows (row k) has_time ≡ is_timed (time_at times row k)
  timed_is k lt = timed times text (row k) (within k lt)

  -- timed between a row and this one, and nearest to this one
  abbrev between_test : ℕ → ℕ → Bool
  between_test e other = comes_before rows e other && comes_before rows other (row p) && at_and rows other has_time

  abbrev nearest_test : ℕ → Bool
  nearest_test e = comes_before rows e (row p) && at_and rows e has_time && not (any_below (length rows) (between_test e))

  -- no row is timed between the nearest timed place and this one
  none_between : (q : ℕ) → q < p → IsHere q → ((k : ℕ) → q < k → k < p → is_timed (time_at times row k) ≡ false) → any_below (length rows) (between_test (row q)) ≡ false
  none_between q lt here later = ⊎_elim
      (λ some.
      let found = any_below_tells (between_test (row q)) (length rows) some in
      let at = place found.0 found.1 in
      let is : between_test (row q) (row at.0) ≡ true = rw at.2 found.2 in
      let outer = and_parts (comes_before rows (row q) (row at.0) && comes_before rows (row at.0) (row p)) (at_and rows (row at.0) has_time) is in
      let inner = and_parts (comes_before rows (row q) (row at.0)) (comes_before rows (row at.0) (row p)) outer.0 in
      let after = comes_last q at.0 (omega arith) at.1 here inner.0 in
      let ahead = comes_first at.0 p at.1 below refl inner.1 in
      let no : true ≡ false = sym (sym (timed_is at.0 at.1) ∙ outer.1) ∙ later at.0 after.1 ahead.1 in
      absurd (cc))
      (λ none. none)
      (cases_Bool (any_below (length rows) (between_test (row q))))

  -- and no place
  untimed_between : (q k : ℕ) → any_below (length rows) (between_test (row q)) ≡ false → IsHere q → q < k → k < p → is_timed (time_at times row k) ≡ false
  untimed_between q k none here from to = ⊎_elim
      (λ (timed' : is_timed (time_at times row k) ≡ true).
      let inner : k < length times = omega arith in
      let own = here_between q k (omega arith) (omega arith) here in
      let first = comes q k from inner here own in
      let second = comes k p to below own refl in
      let between' : between_test (row q) (row k) ≡ true = rw (first, second, timed_is k inner ∙ timed') refl in
      let some = any_below_hit (between_test (row q)) (length rows) (row k) (inside k inner) between' in
      let no : true ≡ false = sym some ∙ none in
      absurd (cc))
      (λ none. none)
      (cases_Bool (is_timed (time_at times row k)))

  -- a row's first and last time
  abbrev first_at : ℕ → Option ℕ
  first_at r = first_time (numbered_at times r)

  abbrev last_at : ℕ → Option ℕ
  last_at r = last_time (numbered_at times r)

  -- a test of the nearest timed row
  abbrev behind_test : ℕ → Bool
  behind_test e = is_nearest_before rows e (row p) && at_and rows e (λ y. is_earlier (first_at (row p)) (last_filled y))

  at_row : (r : ℕ) → r < length times → at_and rows r (λ y. is_earlier (first_at (row p)) (last_filled y)) ≡ is_earlier (first_at (row p)) (last_at r)
  at_row r lt = at_and-list_below (length times) (named_time times text) r (λ y. is_earlier (first_at (row p)) (last_filled y)) lt

  behind_is : any_below (length rows) behind_test ≡ is_earlier (first_at (row p)) (time_before times row p)
  unfolding is_nearest_before
  behind_is = same_test (any_below (length rows) behind_test) (is_earlier (first_at (row p)) (time_before times row p))
      (λ some.
      let found = any_below_tells behind_test (length rows) some in
      let at = place found.0 found.1 in
      let is : behind_test (row at.0) ≡ true = rw at.2 found.2 in
      let two = and_parts (nearest_test (row at.0)) (at_and rows (row at.0) (λ y. is_earlier (first_at (row p)) (last_filled y))) is in
      let outer = and_parts (comes_before rows (row at.0) (row p) && at_and rows (row at.0) has_time) (not (any_below (length rows) (between_test (row at.0)))) two.0 in
      let inner = and_parts (comes_before rows (row at.0) (row p)) (at_and rows (row at.0) has_time) outer.0 in
      let ahead = comes_first at.0 p at.1 below refl inner.0 in
      let last = some_of (last_at (row at.0)) (sym (timed_last (time_at times row at.0)) ∙ sym (timed_is at.0 at.1) ∙ inner.1) in
      let none = not_true (any_below (length rows) (between_test (row at.0))) outer.1 in
      let before = before_hit times row are p last.0 at.0 below ahead.1 ahead.0 last.1 (λ k from to. untimed_between at.0 k none ahead.0 from to) in
      let late : is_earlier (first_at (row p)) (Some last.0) ≡ true = subst (λ (time : Option ℕ). is_earlier (first_at (row p)) time ≡ true) last.1 (sym (at_row (row at.0) (within at.0 at.1)) ∙ two.1) in
      subst (λ (time : Option ℕ). is_earlier (first_at (row p)) time ≡ true) (sym before) late)
      (λ late. back (time_before times row p) refl late)
    where
      not_true : (b : Bool) → not b ≡ true → b ≡ false
      not_true true e = absurd (cc)
      not_true false e = refl

      back : (before : Option ℕ) → time_before times row p ≡ before → is_earlier (first_at (row p)) before ≡ true → any_below (length rows) behind_test ≡ true
      back None e late = let no : false ≡ true = sym (never (first_at (row p))) ∙ late in absurd (cc)
      back (Some t) e late =
          let near = before_told times row p t e in
          let q = near.place in
          let ahead = near.ahead in
          let small : q < length times = omega arith in
          let comes' = comes q p ahead below near.here refl in
          let timed' = timed_is q small ∙ timed_last (time_at times row q) ∙ ap is_some near.last in
          let nearest : nearest_test (row q) ≡ true = rw (comes', timed', none_between q ahead near.here near.later) refl in
          let late' : is_earlier (first_at (row p)) (last_at (row q)) ≡ true = subst (λ (time : Option ℕ). is_earlier (first_at (row p)) time ≡ true) (sym near.last) late in
          any_below_hit behind_test (length rows) (row q) (inside q small) (and_from (nearest_test (row q)) (at_and rows (row q) (λ y. is_earlier (first_at (row p)) (last_filled y))) nearest (at_row (row q) (within q small) ∙ late'))

  -- times decrease at a place
  pub decreases_is : do_times_decrease rows (row p) ≡ is_earlier (last_at (row p)) (first_at (row p)) || is_earlier (first_at (row p)) (time_before times row p)
  unfolding do_times_decrease
  decreases_is =
      at_and-list_below (length times) (named_time times text) (row p) (λ x. is_earlier (last_filled x) (first_filled x)
      || any_below (length rows) (λ near. is_nearest_before rows near (row p) && at_and rows near (λ y. is_earlier (first_filled x) (last_filled y)))) (within p below)
      ∙ ap (λ (b : Bool). is_earlier (last_at (row p)) (first_at (row p)) || b) behind_is

  -- the end of a trip lacks its time
  pub missing_is : is_end_time_missing rows (row p) ≡ not (is_timed (time_at times row p)) && (not (continues_trip times row p) || not (continues_trip times row (p + 1)))
  unfolding is_end_time_missing
  missing_is =
      ap (λ (b : Bool). b && (is_first rows (row p) || is_last rows (row p))) (at_and-list_below (length times) (named_time times text) (row p) (λ x. not (has_time x)) (within p below))
      ∙ ap (λ (b : Bool). not b && (is_first rows (row p) || is_last rows (row p))) (timed_alike times text (row p))
      ∙ rw (first_is, last_is) refl

  -- all that is wrong at a place
  pub faults_is : place_faults times row p ≡ faults_at rows (row p)
  unfolding place_faults faults_at
  faults_is = rw (repeated_is, missing_is, decreases_is) refl

-- what each place tells is what is wrong with each row
pub faults_from : (times : List TripTime) (row : ℕ → ℕ) (to : ℕ) (before : Option ℕ) (faults : List OrderFaults) → AreOrdered times row → to ≡ length times → AreTold times row to before faults → AreFaults times faults
faults_from times row to before faults are all told =
    record {
      count = told.count;
      value = λ text r lt one.
          let at = are.placed r lt in
          let lt' = at.1 in
          let one' : IsOneTrip times text (row at.0) = rw at.2 one in
          let same = told.told at.0 (omega arith) ∙ faults_is times row are text at.0 at.1 one' in
          rw at.2 at same;
    }
