-- What the second pass compares of two stop times: their trips, their sequences, their rows and their times.
use Rattle.std.proofs.Common.{◌≡◌, refl, sym, ◌∙◌, ap, ℕ, suc, ◌+◌, ◌*◌, ◌<◌, ◌≤◌, ◌⊎◌, inl, inr, true, false, List, length, arith}
use Rattle.std.specs.Prelude.{Option, Some, None, is_some, slice_get, ◌&&◌, ◌||◌, ◌==◌, not, nat_lt, bytes_eq}
use Rattle.std.specs.Option.{option_or}
use Rattle.std.proofs.lemmas.Bool.{and_parts, and_cases, and_from, or_parts, or_cases, ltb-true, ltb-false, lt-ltb, eqb-true, not-false, not_from_false, false_from_ne_true}
use Rattle.feed_files.specs.declared.names.ColumnName.TheVariants as column
use Rattle.plain_laws.specs.Plain.{any_below, at_and}
use Rattle.plain_laws.proofs.Laws.{any_below_tells, none_any, rest_fails, length-list_below, slice_get-list_below, bytes_eq-true, eq-bytes_eq}
use Rattle.feed_faults.specs.Records.{FileTable, row_count, field}
use Rattle.feed_faults.specs.FieldGrammars.{most_int}
use Rattle.feed_faults.specs.FieldValues.{int_or_zero}
use Rattle.feed_faults.specs.StopTimeRelations.{StopTime, stop_time_of, stop_times_of, has_time, first_filled, last_filled, is_earlier, same_place, comes_before, is_first, is_last, is_end_time_missing, is_nearest_before, do_times_decrease}
use Rattle.feed_soundness.proofs.CallOrder.{AtMost, AreRows, never_falls, rank_rises}

-- a time that isn't earlier
not_earlier : (a b : Option ℕ) → is_earlier b a ≡ false → AtMost a b
not_earlier a b e x is y ends = let test : is_earlier (Some y) (Some x) ≡ false = rw (is, ends) at e in ltb-false y x test

-- a timed row has a first and a last time
timed_first : (x : StopTime) → has_time x ≡ true → is_some (first_filled x) ≡ true
timed_first x e = step x.arrival x.departure e
  where
    step : (a b : Option ℕ) → is_some a || is_some b ≡ true → is_some (option_or a b) ≡ true
    step None b e = e
    step (Some a) b e = refl

timed_last : (x : StopTime) → has_time x ≡ true → is_some (last_filled x) ≡ true
timed_last x e = step x.arrival x.departure e
  where
    step : (a b : Option ℕ) → is_some a || is_some b ≡ true → is_some (option_or b a) ≡ true
    step a (Some b) e = refl
    step (Some a) None e = refl
    step None None e = absurd (cc)

pub last_timed : (x : StopTime) → is_some (last_filled x) ≡ true → has_time x ≡ true
last_timed x e = step x.arrival x.departure e
  where
    step : (a b : Option ℕ) → is_some (option_or b a) ≡ true → is_some a || is_some b ≡ true
    step (Some a) b e = refl
    step None None e = absurd (cc)
    step None (Some b) e = refl

module _ (table : FileTable) where
  -- the trip, the sequence and the times of a row
  abbrev pub trip_text : ℕ → List ℕ
  trip_text row = field table row column.TripId

  abbrev pub sequence_at : ℕ → ℕ
  sequence_at row = int_or_zero 0 most_int (field table row column.StopSequence)

  -- what is compared
  pub same_place_told : (i j : ℕ) → i < row_count table → j < row_count table → same_place (stop_times_of table) i j ≡ (bytes_eq (trip_text i) (trip_text j) && (sequence_at i == sequence_at j))
  unfolding same_place stop_times_of stop_time_of
  same_place_told i j lt within = rw (slice_get-list_below (row_count table) (stop_time_of table) i lt, slice_get-list_below (row_count table) (stop_time_of table) j within) refl

  pub comes_before_told : (i j : ℕ) → i < row_count table → j < row_count table → comes_before (stop_times_of table) i j ≡ (bytes_eq (trip_text i) (trip_text j) && (nat_lt (sequence_at i) (sequence_at j) || ((sequence_at i == sequence_at j) && nat_lt i j)))
  unfolding comes_before stop_times_of stop_time_of
  comes_before_told i j lt within = rw (slice_get-list_below (row_count table) (stop_time_of table) i lt, slice_get-list_below (row_count table) (stop_time_of table) j within) refl

  -- a row of the same trip with a lesser sequence comes before
  pub before_from_less : (i j : ℕ) → i < row_count table → j < row_count table → trip_text i ≡ trip_text j → sequence_at i < sequence_at j → comes_before (stop_times_of table) i j ≡ true
  before_from_less i j lt within same less =
      rw (comes_before_told i j lt within, eq-bytes_eq (trip_text i) (trip_text j) same, lt-ltb (sequence_at i) (sequence_at j) less) refl

  -- a row that comes before has the same trip, and a lesser sequence or the same one
  pub record IsBefore (i j : ℕ) : Type 0 where
    pub trip : trip_text i ≡ trip_text j
    pub order : (sequence_at i < sequence_at j) ⊎ ((sequence_at i ≡ sequence_at j) × (i < j))

  pub before_told : (i j : ℕ) → i < row_count table → j < row_count table → comes_before (stop_times_of table) i j ≡ true → IsBefore i j
  before_told i j lt within e =
      let both = and_parts (bytes_eq (trip_text i) (trip_text j)) (nat_lt (sequence_at i) (sequence_at j) || ((sequence_at i == sequence_at j) && nat_lt i j)) (sym (comes_before_told i j lt within) ∙ e) in
      record {
        trip = bytes_eq-true (trip_text i) (trip_text j) both.0;
        order = step (or_cases (nat_lt (sequence_at i) (sequence_at j)) ((sequence_at i == sequence_at j) && nat_lt i j) both.1);
      }
    where
      step : (nat_lt (sequence_at i) (sequence_at j) ≡ true) ⊎ (((sequence_at i == sequence_at j) && nat_lt i j) ≡ true) → (sequence_at i < sequence_at j) ⊎ ((sequence_at i ≡ sequence_at j) × (i < j))
      step (inl less) = inl (ltb-true (sequence_at i) (sequence_at j) less)
      step (inr later) =
          let both = and_parts (sequence_at i == sequence_at j) (nat_lt i j) later in
          inr (eqb-true (sequence_at i) (sequence_at j) both.0, ltb-true i j both.1)

  -- so rows have an order by one number
  abbrev rank : ℕ → ℕ
  rank i = sequence_at i * row_count table + i

  before_ranked : (i j : ℕ) → i < row_count table → j < row_count table → comes_before (stop_times_of table) i j ≡ true → rank i < rank j
  before_ranked i j lt within e = step ((before_told i j lt within e).order)
    where
      step : (sequence_at i < sequence_at j) ⊎ ((sequence_at i ≡ sequence_at j) × (i < j)) → rank i < rank j
      step (inl less) = rank_rises (row_count table) (sequence_at i) (sequence_at j) i j lt less
      step (inr later) = let same = ap (λ s. s * row_count table) later.0 in let less = later.1 in omega arith

  -- the stop times as they are looked up
  times_length : length (stop_times_of table) ≡ row_count table
  unfolding stop_times_of
  times_length = length-list_below (row_count table) (stop_time_of table)

  times_get : (i : ℕ) → i < row_count table → slice_get (stop_times_of table) i ≡ Some (stop_time_of table i)
  unfolding stop_times_of
  times_get i lt = slice_get-list_below (row_count table) (stop_time_of table) i lt

  timed_at : (i : ℕ) → i < row_count table → at_and (stop_times_of table) i has_time ≡ has_time (stop_time_of table i)
  timed_at i lt = rw (times_get i lt) refl

  -- where a row's times don't decrease, they rise within it
  rises_within : (i : ℕ) → i < row_count table → do_times_decrease (stop_times_of table) i ≡ false → AtMost (first_filled (stop_time_of table i)) (last_filled (stop_time_of table i))
  unfolding do_times_decrease
  rises_within i lt e =
      let x = stop_time_of table i in
      let falls = any_below (length (stop_times_of table)) (λ near. is_nearest_before (stop_times_of table) near i && at_and (stop_times_of table) near (λ y. is_earlier (first_filled x) (last_filled y))) in
      not_earlier (first_filled x) (last_filled x) (or_parts (is_earlier (last_filled x) (first_filled x)) falls (rw (times_get i lt) at e)).0

  -- and from the nearest timed row before it
  rises_between : (i j : ℕ) → i < row_count table → j < row_count table → do_times_decrease (stop_times_of table) j ≡ false → comes_before (stop_times_of table) i j ≡ true → at_and (stop_times_of table) i has_time ≡ true
      → any_below (row_count table) (λ o. comes_before (stop_times_of table) i o && comes_before (stop_times_of table) o j && at_and (stop_times_of table) o has_time) ≡ false → AtMost (last_filled (stop_time_of table i)) (first_filled (stop_time_of table j))
  unfolding do_times_decrease is_nearest_before
  rises_between i j lt within e earlier timed none =
      let times = stop_times_of table in
      let x = stop_time_of table j in
      let test = λ (near : ℕ). is_nearest_before times near j && at_and times near (λ y. is_earlier (first_filled x) (last_filled y)) in
      let falls = (or_parts (is_earlier (last_filled x) (first_filled x)) (any_below (length times) test) (rw (times_get j within) at e)).1 in
      let here = none_any test (length times) i falls (rw times_length lt) in
      let clear = not_from_false (any_below (length times) (λ o. comes_before times i o && comes_before times o j && at_and times o has_time)) (rw times_length none) in
      let is_nearest = and_from (comes_before times i j && at_and times i has_time) _ (and_from (comes_before times i j) (at_and times i has_time) earlier timed) clear in
      let rises = rest_fails (is_nearest_before times i j) (at_and times i (λ y. is_earlier (first_filled x) (last_filled y))) here is_nearest in
      not_earlier (last_filled (stop_time_of table i)) (first_filled x) (rw (times_get i lt) at rises)

  -- the rows are in their order
  rows_ordered : ((i : ℕ) → i < row_count table → do_times_decrease (stop_times_of table) i ≡ false)
      → AreRows (row_count table) (comes_before (stop_times_of table)) rank (λ i. first_filled (stop_time_of table i)) (λ i. last_filled (stop_time_of table i)) (λ i. at_and (stop_times_of table) i has_time)
  rows_ordered rising =
      record {
        ranked = before_ranked;
        firsts = λ i lt timed. timed_first (stop_time_of table i) (sym (timed_at i lt) ∙ timed);
        lasts = λ i lt timed. timed_last (stop_time_of table i) (sym (timed_at i lt) ∙ timed);
        within = λ i lt. rises_within i lt (rising i lt);
        nearest = λ i j lt within earlier timed none. rises_between i j lt within (rising j within) earlier timed none;
      }

  -- where no row's times decrease, they rise within each row
  pub times_within : ((i : ℕ) → i < row_count table → do_times_decrease (stop_times_of table) i ≡ false) → (i : ℕ) → i < row_count table → AtMost (first_filled (stop_time_of table i)) (last_filled (stop_time_of table i))
  times_within rising i lt = rises_within i lt (rising i lt)

  -- and from a row to each of greater sequence
  pub times_between : ((i : ℕ) → i < row_count table → do_times_decrease (stop_times_of table) i ≡ false) → (i j : ℕ) → i < row_count table → j < row_count table → trip_text i ≡ trip_text j → sequence_at i < sequence_at j → AtMost (last_filled (stop_time_of table i)) (first_filled (stop_time_of table j))
  times_between rising i j lt within same less x is =
      let timed = last_timed (stop_time_of table i) (rw is refl) in
      never_falls (row_count table) (comes_before (stop_times_of table)) rank (λ k. first_filled (stop_time_of table k)) (λ k. last_filled (stop_time_of table k)) (λ k. at_and (stop_times_of table) k has_time) (rows_ordered rising)
      (suc (rank j)) i j lt within (omega arith) (timed_at i lt ∙ timed) (before_from_less i j lt within same less) x is

  -- the first row of a trip, and the last of it
  pub first_row : (i : ℕ) → i < row_count table → ((k : ℕ) → k < row_count table → trip_text k ≡ trip_text i → sequence_at i ≤ sequence_at k) → ((k : ℕ) → k < i → trip_text k ≡ trip_text i → sequence_at k ≡ sequence_at i → ⊥) → is_first (stop_times_of table) i ≡ true
  unfolding is_first
  first_row i lt least apart = not_from_false (any_below (length (stop_times_of table)) (λ k. comes_before (stop_times_of table) k i)) (false_from_ne_true _ (λ some. none (any_below_tells (λ k. comes_before (stop_times_of table) k i) (length (stop_times_of table)) some)))
    where
      order : (k : ℕ) → k < row_count table → trip_text k ≡ trip_text i → (sequence_at k < sequence_at i) ⊎ ((sequence_at k ≡ sequence_at i) × (k < i)) → ⊥
      order k within same (inl less) = let low = least k within same in absurd (omega arith)
      order k within same (inr later) = apart k later.1 same later.0

      none : (k : ℕ) × (k < length (stop_times_of table)) × (comes_before (stop_times_of table) k i ≡ true) → ⊥
      none found =
          let within : found.0 < row_count table = rw times_length at found.1 in
          let told = before_told found.0 i within lt found.2 in
          order found.0 within told.trip told.order

  pub last_row : (i : ℕ) → i < row_count table → ((k : ℕ) → k < row_count table → trip_text k ≡ trip_text i → sequence_at k ≤ sequence_at i) → ((k : ℕ) → i < k → k < row_count table → trip_text k ≡ trip_text i → sequence_at k ≡ sequence_at i → ⊥) → is_last (stop_times_of table) i ≡ true
  unfolding is_last
  last_row i lt most apart = not_from_false (any_below (length (stop_times_of table)) (λ k. comes_before (stop_times_of table) i k)) (false_from_ne_true _ (λ some. none (any_below_tells (λ k. comes_before (stop_times_of table) i k) (length (stop_times_of table)) some)))
    where
      order : (k : ℕ) → k < row_count table → trip_text i ≡ trip_text k → (sequence_at i < sequence_at k) ⊎ ((sequence_at i ≡ sequence_at k) × (i < k)) → ⊥
      order k within same (inl less) = let high = most k within (sym same) in absurd (omega arith)
      order k within same (inr later) = apart k later.1 within (sym same) (sym later.0)

      none : (k : ℕ) × (k < length (stop_times_of table)) × (comes_before (stop_times_of table) i k ≡ true) → ⊥
      none found =
          let within : found.0 < row_count table = rw times_length at found.1 in
          let told = before_told i found.0 lt within found.2 in
          order found.0 within told.trip told.order

  -- a first or last row has a time
  pub end_timed : (i : ℕ) → i < row_count table → is_end_time_missing (stop_times_of table) i ≡ false → (is_first (stop_times_of table) i || is_last (stop_times_of table) i) ≡ true → has_time (stop_time_of table i) ≡ true
  unfolding is_end_time_missing
  end_timed i lt e ends = step (and_cases (not (has_time (stop_time_of table i))) (is_first (stop_times_of table) i || is_last (stop_times_of table) i) (rw (times_get i lt) at e))
    where
      step : (not (has_time (stop_time_of table i)) ≡ false) ⊎ ((is_first (stop_times_of table) i || is_last (stop_times_of table) i) ≡ false) → has_time (stop_time_of table i) ≡ true
      step (inl timed) = not-false (has_time (stop_time_of table i)) timed
      step (inr neither) = let both : true ≡ false = sym ends ∙ neither in absurd (cc)

  pub end_times : (i : ℕ) → i < row_count table → is_end_time_missing (stop_times_of table) i ≡ false → (is_first (stop_times_of table) i || is_last (stop_times_of table) i) ≡ true → (is_some (first_filled (stop_time_of table i)) ≡ true) × (is_some (last_filled (stop_time_of table i)) ≡ true)
  end_times i lt e ends = let timed = end_timed i lt e ends in (timed_first (stop_time_of table i) timed, timed_last (stop_time_of table i) timed)
