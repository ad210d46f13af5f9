-- The times of calls: none is greater than all times of the rows, and where the rows' times don't fall theirs don't.
use Rattle.std.proofs.Common.{◌≡◌, refl, sym, ◌∙◌, ap, subst, ℕ, ◌-◌, ◌*◌, ◌/◌, ◌<◌, ◌≤◌, ◌⊎◌, inl, inr, true, false, List, All, arith, mul-le-mul_right, div-mul-le_self}
use Rattle.std.specs.Prelude.{Option, Some, None, slice_get, IfSome}
use Rattle.std.proofs.Math.Nat.{div-le_of_le-mul}
use Rattle.std.proofs.lemmas.Nat.{le-div}
use Rattle.std.proofs.lemmas.Bool.{cases_lt, cases_eq}
use Rattle.std.proofs.lemmas.Option.{same_Some, none-some, option_and_then_some, get_or_from_slice_get, slice_get_within}
use Rattle.transit_base.specs.declared.numbers.TripId.{TripId}
use Rattle.feed_rows.specs.declared.rows.StopTimeRow.{StopTimeRow}
use Rattle.feed_rows.specs.declared.journeys.Call.{Call}
use Rattle.feed_rows.specs.FeedRows.{FeedRows}
use Rattle.feed_rows.specs.Calls.{last_time, first_time, time_between, calls_of, trip_stop_times, first_departure}
use Rattle.feed_rows.specs.TimedTrips.{first_at, last_at, is_timed_at, HasTimedEnds, DoTimesRise, AreTimesAtMost, DoTimesEndBy}
use Rattle.feed_laws.proofs.SequenceLaws.{trip_stop_times_all}
use Rattle.feed_laws.proofs.TimedLaws.{IsTimedBefore, IsTimedAfter, timed_before_hit, timed_after_hit, timed_at, last_timed, timed_where}
use Rattle.feed_laws.proofs.CallLaws.{HasOwnTimes, HasFilledTime, calls_of_row}

-- no time of a row is greater than this
abbrev IsRowWithin : ℕ → StopTimeRow → Type 0
IsRowWithin most r = IfSome r.arrival (λ t. t ≤ most) × IfSome r.departure (λ t. t ≤ most)

row_first : (most : ℕ) (row : StopTimeRow) (t : ℕ) → IsRowWithin most row → first_time row ≡ Some t → t ≤ most
row_first most row t within e = step row.arrival refl row.departure refl
  where
    step : (a : Option ℕ) → row.arrival ≡ a → (d : Option ℕ) → row.departure ≡ d → t ≤ most
    step (Some a) p d q = let is : Some a ≡ Some t = rw p at e in subst (λ n. n ≤ most) (same_Some a t is) (rw p at within.0)
    step None p (Some d) q = let is : Some d ≡ Some t = rw (p, q) at e in subst (λ n. n ≤ most) (same_Some d t is) (rw q at within.1)
    step None p None q = absurd (none-some t (rw (p, q) at e))

row_last : (most : ℕ) (row : StopTimeRow) (t : ℕ) → IsRowWithin most row → last_time row ≡ Some t → t ≤ most
row_last most row t within e = step row.arrival refl row.departure refl
  where
    step : (a : Option ℕ) → row.arrival ≡ a → (d : Option ℕ) → row.departure ≡ d → t ≤ most
    step a p (Some d) q = let is : Some d ≡ Some t = rw q at e in subst (λ n. n ≤ most) (same_Some d t is) (rw q at within.1)
    step (Some a) p None q = let is : Some a ≡ Some t = rw (q, p) at e in subst (λ n. n ≤ most) (same_Some a t is) (rw p at within.0)
    step None p None q = absurd (none-some t (rw (q, p) at e))

-- where the times of a feed are at most the greatest, those of a trip are
pub trip_times_most : (feed : FeedRows) (trip : TripId) (most : ℕ) → DoTimesEndBy feed most → AreTimesAtMost (trip_stop_times feed trip) most
trip_times_most feed trip most within =
    record {
      first = λ m t e. option_and_then_some first_time (slice_get (trip_stop_times feed trip) m) t e (λ row at is. row_first most row t (here m row at) is);
      last = λ m t e. option_and_then_some last_time (slice_get (trip_stop_times feed trip) m) t e (λ row at is. row_last most row t (here m row at) is);
    }
  where
    all : All (IsRowWithin most) (trip_stop_times feed trip)
    all = trip_stop_times_all (IsRowWithin most) feed trip within

    here : (m : ℕ) (row : StopTimeRow) → slice_get (trip_stop_times feed trip) m ≡ Some row → IsRowWithin most row
    here m row at = subst (IsRowWithin most) (get_or_from_slice_get (trip_stop_times feed trip) m row row at) (all m row (slice_get_within (trip_stop_times feed trip) m row at))

-- a part of a distance is at most the distance, and grows with the part
pub share_le : (part whole distance : ℕ) → part ≤ whole → (part * distance) / whole ≤ distance
share_le part whole distance le = div-le_of_le-mul whole {m = part * distance} {n = distance} (mul-le-mul_right distance le)

pub share_rises : (part more whole distance : ℕ) → 0 < whole → part ≤ more → (part * distance) / whole ≤ (more * distance) / whole
share_rises part more whole distance some le =
    let below : (part * distance) / whole * whole ≤ part * distance = div-mul-le_self (part * distance) whole in
    let above : part * distance ≤ more * distance = mul-le-mul_right distance le in
    le-div ((part * distance) / whole) (more * distance) whole some (omega (arith, below, above))

-- a time that is filled in is between the times at the ends
pub time_between_low : (p m q left reached : ℕ) → left ≤ time_between p m q left reached
time_between_low p m q left reached = let share : 0 ≤ ((m - p) * (reached - left)) / (q - p) = omega arith in omega (arith, share)

pub time_between_high : (p m q left reached : ℕ) → m ≤ q → left ≤ reached → time_between p m q left reached ≤ reached
time_between_high p m q left reached le rise = let share = share_le (m - p) (q - p) (reached - left) (omega arith) in omega (arith, share)

pub time_between_most : (p m q left reached most : ℕ) → m ≤ q → left ≤ most → reached ≤ most → time_between p m q left reached ≤ most
time_between_most p m q left reached most le a b = let share = share_le (m - p) (q - p) (reached - left) (omega arith) in omega (arith, share)

-- and later ones are not less
pub time_between_rises : (p m n q left reached : ℕ) → p < q → m ≤ n → time_between p m q left reached ≤ time_between p n q left reached
time_between_rises p m n q left reached lt le = let share = share_rises (m - p) (n - p) (q - p) (reached - left) (omega arith) (omega arith) in omega (arith, share)

-- a position with a time is timed
pub last_at_timed : (rows : List StopTimeRow) (m t : ℕ) → last_at rows m ≡ Some t → is_timed_at rows m ≡ true
last_at_timed = timed_where last_time last_timed

pub first_at_timed : (rows : List StopTimeRow) (m t : ℕ) → first_at rows m ≡ Some t → is_timed_at rows m ≡ true
first_at_timed = timed_where first_time (λ row timed. timed)

-- from row to row, times don't fall
module _ (rows : List StopTimeRow) (rise : DoTimesRise rows) where
  pub last_rises : (i j a b : ℕ) → i ≤ j → last_at rows i ≡ Some a → last_at rows j ≡ Some b → a ≤ b
  last_rises i j a b le left leaves = step (cases_eq i j)
    where
      step : (i ≡ j) ⊎ (i ≡ j → ⊥) → a ≤ b
      step (inl e) = let same : a ≡ b = same_Some a b (sym left ∙ ap (λ k. last_at rows k) e ∙ leaves) in omega arith
      step (inr apart) =
          let times = timed_at rows j (last_at_timed rows j b leaves) in
          let there = rise.run i j a times.0 (omega arith) left times.2 in
          let stays = rise.stay j times.0 b times.2 leaves in
          omega arith

  pub first_rises : (i j a b : ℕ) → i ≤ j → first_at rows i ≡ Some a → first_at rows j ≡ Some b → a ≤ b
  first_rises i j a b le reached reaches = step (cases_eq i j)
    where
      step : (i ≡ j) ⊎ (i ≡ j → ⊥) → a ≤ b
      step (inl e) = let same : a ≡ b = same_Some a b (sym reached ∙ ap (λ k. first_at rows k) e ∙ reaches) in omega arith
      step (inr apart) =
          let times = timed_at rows i (first_at_timed rows i a reached) in
          let stays = rise.stay i a times.1 reached times.3 in
          let there = rise.run i j times.1 b (omega arith) times.3 reaches in
          omega arith

  pub first_last : (i j a b : ℕ) → i ≤ j → first_at rows i ≡ Some a → last_at rows j ≡ Some b → a ≤ b
  first_last i j a b le reached leaves =
      let times = timed_at rows i (first_at_timed rows i a reached) in
      let stays = rise.stay i a times.1 reached times.3 in
      let there = last_rises i j times.1 b le times.3 leaves in
      omega arith

  -- a call is left no sooner than it is reached
  pub call_stays : (m : ℕ) (call : Call) → HasOwnTimes rows m call ⊎ HasFilledTime rows m call → call.arrival ≤ call.departure
  call_stays m call (inl own) = rise.stay m call.arrival call.departure own.first own.last
  call_stays m call (inr filled) = let a = filled.arrival in let d = filled.departure in omega (arith, a, d)

  -- a filled time is at least the time of the row before, and at most that of the row after
  filled_low : (m : ℕ) (call : Call) (filled : HasFilledTime rows m call) → filled.left ≤ call.arrival
  filled_low m call filled = rw filled.arrival (time_between_low filled.from m filled.to filled.left filled.reached)

  filled_high : (m : ℕ) (call : Call) (filled : HasFilledTime rows m call) → call.departure ≤ filled.reached
  filled_high m call filled =
      let gap = filled.gap in
      let low = gap.before.before in
      let high = gap.after.after in
      rw filled.departure (time_between_high filled.from m filled.to filled.left filled.reached (omega arith) (rise.run filled.from filled.to filled.left filled.reached (omega arith) filled.left_is filled.reached_is))

  -- two calls in one gap
  one_gap : (i j : ℕ) (a b : Call) → i < j → (x : HasFilledTime rows i a) → (y : HasFilledTime rows j b) → j < x.to → a.departure ≤ b.arrival
  one_gap i j a b lt x y inside =
      let gap = x.gap in
      let low = gap.before.before in
      let high = gap.after.after in
      let before : IsTimedBefore rows j x.from = record { before = omega arith; timed = gap.before.timed; between = λ k from to. back k from (cases_lt k i) (cases_eq k i) to } in
      let after : IsTimedAfter rows j x.to = record { after = inside; timed = gap.after.timed; between = λ k from to. gap.after.between k (omega arith) to } in
      let from : x.from ≡ y.from = same_Some _ _ (sym (timed_before_hit rows j x.from before) ∙ timed_before_hit rows j y.from y.gap.before) in
      let to : x.to ≡ y.to = same_Some _ _ (sym (timed_after_hit rows j x.to after) ∙ timed_after_hit rows j y.to y.gap.after) in
      let left : x.left ≡ y.left = same_Some _ _ (sym x.left_is ∙ ap (λ k. last_at rows k) from ∙ y.left_is) in
      let reached : x.reached ≡ y.reached = same_Some _ _ (sym x.reached_is ∙ ap (λ k. first_at rows k) to ∙ y.reached_is) in
      let rises = time_between_rises x.from i j x.to x.left x.reached (omega arith) (omega arith) in
      let there : b.arrival ≡ time_between x.from j x.to x.left x.reached = rw (from, to, left, reached) y.arrival in
      rw (x.departure, there) rises
    where
      back : (k : ℕ) → x.from < k → (k < i) ⊎ (i ≤ k) → (k ≡ i) ⊎ (k ≡ i → ⊥) → k < j → is_timed_at rows k ≡ false
      back k from (inl below) _ to = x.gap.before.between k from below
      back k from (inr past) (inl here) to = rw here x.gap.untimed
      back k from (inr past) (inr apart) to = x.gap.after.between k (omega arith) (omega arith)

  -- a timed position before another one is not after the nearest one
  before_near : (i j p : ℕ) → IsTimedBefore rows j p → i < j → is_timed_at rows i ≡ true → i ≤ p
  before_near i j p near lt timed = step (cases_lt p i)
    where
      step : (p < i) ⊎ (i ≤ p) → i ≤ p
      step (inl past) = let no : true ≡ false = sym timed ∙ near.between i past lt in absurd (cc)
      step (inr le) = le

  after_near : (i j q : ℕ) → IsTimedAfter rows i q → i < j → is_timed_at rows j ≡ true → q ≤ j
  after_near i j q near lt timed = step (cases_lt j q)
    where
      step : (j < q) ⊎ (q ≤ j) → q ≤ j
      step (inl inside) = let no : true ≡ false = sym timed ∙ near.between j lt inside in absurd (cc)
      step (inr le) = le

  -- a later call is reached no sooner than an earlier one is left
  pub calls_rise : (i j : ℕ) (a b : Call) → i < j → HasOwnTimes rows i a ⊎ HasFilledTime rows i a → HasOwnTimes rows j b ⊎ HasFilledTime rows j b → a.departure ≤ b.arrival
  calls_rise i j a b lt (inl x) (inl y) = rise.run i j a.departure b.arrival lt x.last y.first
  calls_rise i j a b lt (inl x) (inr y) =
      let near = before_near i j y.from y.gap.before lt (last_at_timed rows i a.departure x.last) in
      let rises = last_rises i y.from a.departure y.left near x.last y.left_is in
      let low = filled_low j b y in
      omega (arith, rises, low)
  calls_rise i j a b lt (inr x) (inl y) =
      let near = after_near i j x.to x.gap.after lt (first_at_timed rows j b.arrival y.first) in
      let rises = first_rises x.to j x.reached b.arrival near x.reached_is y.first in
      let high = filled_high i a x in
      omega (arith, rises, high)
  calls_rise i j a b lt (inr x) (inr y) = step (cases_lt j x.to)
    where
      past : (x.to ≡ j) ⊎ (x.to ≡ j → ⊥) → x.to ≤ j → x.to < j
      past (inl e) le = let no : true ≡ false = sym x.gap.after.timed ∙ ap (λ k. is_timed_at rows k) e ∙ y.gap.untimed in absurd (cc)
      past (inr apart) le = omega arith

      step : (j < x.to) ⊎ (x.to ≤ j) → a.departure ≤ b.arrival
      step (inl inside) = one_gap i j a b lt x y inside
      step (inr outside) =
          let before = past (cases_eq x.to j) outside in
          let near = before_near x.to j y.from y.gap.before before x.gap.after.timed in
          let rises = first_last x.to y.from x.reached y.left near x.reached_is y.left_is in
          let high = filled_high i a x in
          let low = filled_low j b y in
          omega (arith, rises, low, high)

-- no time of a call is greater than the times of the rows
pub call_most : (rows : List StopTimeRow) (most : ℕ) → AreTimesAtMost rows most → (m : ℕ) (call : Call) → HasOwnTimes rows m call ⊎ HasFilledTime rows m call → (call.arrival ≤ most) × (call.departure ≤ most)
call_most rows most bound m call (inl own) = (bound.first m call.arrival own.first, bound.last m call.departure own.last)
call_most rows most bound m call (inr filled) =
    let gap = filled.gap in
    let high = gap.after.after in
    let time = time_between_most filled.from m filled.to filled.left filled.reached most (omega arith) (bound.last filled.from filled.left filled.left_is) (bound.first filled.to filled.reached filled.reached_is) in
    (rw filled.arrival time, rw filled.departure time)

-- the calls of a trip: their times are at most the greatest of the rows
pub calls_of_most : (feed : FeedRows) (trip : TripId) (most m : ℕ) (call : Call) → HasTimedEnds (trip_stop_times feed trip) → AreTimesAtMost (trip_stop_times feed trip) most → slice_get (calls_of feed trip) m ≡ Some call
    → (call.arrival ≤ most) × (call.departure ≤ most)
calls_of_most feed trip most m call ends bound at =
    let row = calls_of_row feed trip m call ends at in
    call_most (trip_stop_times feed trip) most bound m call row.2.times

-- a call is left no sooner than it is reached
pub calls_of_stays : (feed : FeedRows) (trip : TripId) (m : ℕ) (call : Call) → HasTimedEnds (trip_stop_times feed trip) → DoTimesRise (trip_stop_times feed trip) → slice_get (calls_of feed trip) m ≡ Some call
    → call.arrival ≤ call.departure
calls_of_stays feed trip m call ends rise at =
    let row = calls_of_row feed trip m call ends at in
    call_stays (trip_stop_times feed trip) rise m call row.2.times

-- a later call is reached no sooner than an earlier one is left
pub calls_of_rise : (feed : FeedRows) (trip : TripId) (i j : ℕ) (a b : Call) → HasTimedEnds (trip_stop_times feed trip) → DoTimesRise (trip_stop_times feed trip) → i < j
    → slice_get (calls_of feed trip) i ≡ Some a → slice_get (calls_of feed trip) j ≡ Some b → a.departure ≤ b.arrival
calls_of_rise feed trip i j a b ends rise lt at_a at_b =
    let row_a = calls_of_row feed trip i a ends at_a in
    let row_b = calls_of_row feed trip j b ends at_b in
    calls_rise (trip_stop_times feed trip) rise i j a b lt row_a.2.times row_b.2.times

-- the first departure is at most the greatest time of the rows
pub first_departure_most : (feed : FeedRows) (trip : TripId) (most : ℕ) → HasTimedEnds (trip_stop_times feed trip) → AreTimesAtMost (trip_stop_times feed trip) most → first_departure feed trip ≤ most
first_departure_most feed trip most ends bound = step (slice_get (calls_of feed trip) 0) refl
  where
    step : (o : Option Call) → slice_get (calls_of feed trip) 0 ≡ o → first_departure feed trip ≤ most
    step None e = rw e (omega arith)
    step (Some call) e = rw e (calls_of_most feed trip most 0 call ends bound e).1

-- and no departure is sooner
pub first_departure_least : (feed : FeedRows) (trip : TripId) (m : ℕ) (call : Call) → HasTimedEnds (trip_stop_times feed trip) → DoTimesRise (trip_stop_times feed trip) → slice_get (calls_of feed trip) m ≡ Some call
    → first_departure feed trip ≤ call.departure
first_departure_least feed trip m call ends rise at = step (slice_get (calls_of feed trip) 0) refl (cases_eq m 0)
  where
    step : (o : Option Call) → slice_get (calls_of feed trip) 0 ≡ o → (m ≡ 0) ⊎ (m ≡ 0 → ⊥) → first_departure feed trip ≤ call.departure
    step None e _ = rw e (omega arith)
    step (Some first) e (inl here) =
        let same : first ≡ call = same_Some first call (sym e ∙ ap (λ k. slice_get (calls_of feed trip) k) (sym here) ∙ at) in
        let equal = ap (λ (c : Call). c.departure) same in
        rw e (omega (arith, equal))
    step (Some first) e (inr later) =
        let run = calls_of_rise feed trip 0 m first call ends rise (omega arith) e at in
        let stays = calls_of_stays feed trip m call ends rise at in
        rw e (omega (arith, run, stays))
