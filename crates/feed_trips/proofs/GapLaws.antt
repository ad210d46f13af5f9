-- The gap that a pass over a trip's rows carries.
use Rattle.std.proofs.Common.{◌≡◌, refl, sym, ◌∙◌, ap, ℕ, zero, suc, ◌+◌, ◌-◌, ◌<◌, ◌≤◌, ◌⊎◌, inl, inr, Bool, true, false, List, [], ◌∷◌, length, get_or, slice_set, Some, None, arith}
use Rattle.std.specs.Prelude.{Option, slice_get}
use Rattle.std.proofs.lemmas.Bool.{cases_eq, cases_lt}
use mathlib.Core.Bool.{true≢false}
use Rattle.feed_rows.specs.declared.rows.StopTimeRow.{StopTimeRow}
use Rattle.feed_rows.specs.CallPass.{TimedGap, gap_at, next_timed, time_in}
use Rattle.feed_rows.specs.Calls.{is_timed, timed_after, timed_before}
use Rattle.feed_rows.specs.TimedTrips.{is_timed_at}
use Rattle.feed_laws.proofs.TimedLaws.{IsTimedAfter, IsTimedBefore, is_timed_at_row, timed_after_tells, timed_before_tells, timed_within}
use Rattle.feed_laws.proofs.CallLaws.{gap_at_before, gap_at_untimed}
use Rattle.feed_trips.specs.declared.passes.Gap.{Gap}
use Rattle.feed_trips.specs.Gaps.{gap_of, IsCarried}

-- before the first timed row no gap has begun
none_begun : (rows : List StopTimeRow) (m : ℕ) → timed_before rows m ≡ None →
    gap_at rows m ≡ record { from = 0; left = 0; to = 0; reached = 0 }
none_begun rows zero none = refl
none_begun rows (suc m) none = step (is_timed_at rows m) refl (none_begun rows m)
  where
    step : (b : Bool) → is_timed_at rows m ≡ b →
        (timed_before rows m ≡ None → gap_at rows m ≡ record { from = 0; left = 0; to = 0; reached = 0 }) →
        gap_at rows (suc m) ≡ record { from = 0; left = 0; to = 0; reached = 0 }
    step true timed before = let found = rw timed at none in absurd (cc)
    step false untimed before = rw untimed (before (rw untimed at none))

-- the gap of a row without a time ends behind the row, if it takes some time, and with the rows at the latest
pub record IsOver (rows : List StopTimeRow) (m : ℕ) (gap : TimedGap) : Type 0 where
  pub low : gap.left < gap.reached → gap.from < m
  pub high : gap.left < gap.reached → m < gap.to
  pub ends : gap.to ≤ length rows

pub gap_over : (rows : List StopTimeRow) (m : ℕ) → m < length rows → is_timed_at rows m ≡ false →
    IsOver rows m (gap_at rows m)
gap_over rows m lt untimed = step (timed_before rows m) refl
  where
    past : (p q : ℕ) → IsTimedBefore rows m p → IsTimedAfter rows p q → (q < m) ⊎ (m ≤ q) → m < q
    past p q before after (inl less) =
        absurd (true≢false (sym after.timed ∙ before.between q after.after less))
    past p q before after (inr ge) = last (cases_eq m q)
      where
        last : (m ≡ q) ⊎ (m ≡ q → ⊥) → m < q
        last (inl same) = absurd (true≢false (sym after.timed ∙ ap (is_timed_at rows) (sym same) ∙ untimed))
        last (inr apart) = omega arith

    ends : (p : ℕ) → IsTimedBefore rows m p → (o : Option ℕ) → timed_after rows p ≡ o →
        (m < next_timed rows p) × (next_timed rows p ≤ length rows)
    ends p before None none = rw none (lt, omega arith)
    ends p before (Some q) found =
        let after = timed_after_tells rows p q found in
        let within = timed_within rows q after.timed in
        rw found (past p q before after (cases_lt q m), omega (arith, within))

    step : (o : Option ℕ) → timed_before rows m ≡ o → IsOver rows m (gap_at rows m)
    step None none =
        rw (none_begun rows m none)
        (record { low = λ less. absurd (omega arith); high = λ less. absurd (omega arith); ends = omega arith })
    step (Some p) found =
        let before = timed_before_tells rows m p found in
        let to = ends p before (timed_after rows p) refl in
        let low = before.before in
        rw (gap_at_before rows m p found) (record { low = λ less. low; high = λ less. to.0; ends = to.1 })

-- a row at its place has a time where the row there has one
pub row_timed : (rows : List StopTimeRow) (m : ℕ) (row : StopTimeRow) → m < length rows → row ≡ get_or rows m row →
    is_timed_at rows m ≡ is_timed row
row_timed rows m row lt is = is_timed_at_row rows m row lt ∙ ap is_timed (sym is)

-- behind a timed row a gap begins, and behind one without a time it goes on
pub carried_timed : (rows : List StopTimeRow) (m : ℕ) (gap : Gap) → is_timed_at rows m ≡ true → IsCarried rows (m + 1) gap
carried_timed rows m gap timed =
    let same : (m + 1) - 1 ≡ m = omega arith in
    record {
      first = λ none. absurd (omega arith);
      later = λ lt untimed. absurd (true≢false (sym timed ∙ rw same at untimed));
    }

pub carried_untimed : (rows : List StopTimeRow) (m : ℕ) (gap : Gap) → is_timed_at rows m ≡ false →
    gap_of gap ≡ gap_at rows m → IsCarried rows (m + 1) gap
carried_untimed rows m gap untimed is =
    let whole = is ∙ sym (gap_at_untimed rows m untimed) in
    record { first = λ none. absurd (omega arith); later = λ lt before. whole }

-- an item that is put, and the others
slice_get-set_same : (xs : List ℕ) (i a : ℕ) → i < length xs → slice_get (slice_set xs i a) i ≡ Some a
slice_get-set_same [] i a lt = absurd (omega arith)
slice_get-set_same (x ∷ xs) zero a lt = refl
slice_get-set_same (x ∷ xs) (suc i) a lt = slice_get-set_same xs i a (omega arith)

pub slice_get-set_other : (xs : List ℕ) (i j a : ℕ) → (j ≡ i → ⊥) → slice_get (slice_set xs i a) j ≡ slice_get xs j
slice_get-set_other [] i j a other = refl
slice_get-set_other (x ∷ xs) zero zero a other = absurd (other refl)
slice_get-set_other (x ∷ xs) zero (suc j) a other = refl
slice_get-set_other (x ∷ xs) (suc i) zero a other = refl
slice_get-set_other (x ∷ xs) (suc i) (suc j) a other = slice_get-set_other xs i j a (λ same. other (ap suc same))

-- of the rows before position m, each without a time has the time that is filled in beside it
abbrev pub AreFilledBelow : ℕ → List StopTimeRow → ℕ → List ℕ → Type 0
AreFilledBelow from rows m times =
    (k : ℕ) → k < m → is_timed_at rows k ≡ false → slice_get times (from + k) ≡ Some (time_in (gap_at rows k) k)

pub filled_more : (from : ℕ) (rows : List StopTimeRow) (m : ℕ) (times : List ℕ) (time : ℕ) → from + m < length times →
    time ≡ time_in (gap_at rows m) m → AreFilledBelow from rows m times →
    AreFilledBelow from rows (m + 1) (slice_set times (from + m) time)
filled_more from rows m times time inside is before k lt untimed = step (cases_eq k m)
  where
    step : (k ≡ m) ⊎ (k ≡ m → ⊥) →
        slice_get (slice_set times (from + m) time) (from + k) ≡ Some (time_in (gap_at rows k) k)
    step (inl here) = rw here (slice_get-set_same times (from + m) time inside ∙ ap Some is)
    step (inr other) =
        slice_get-set_other times (from + m) (from + k) time (λ same. other (omega (arith, same)))
        ∙ before k (omega (arith, lt, other)) untimed

-- a row with a time needs none
pub filled_past : (from : ℕ) (rows : List StopTimeRow) (m : ℕ) (times : List ℕ) → is_timed_at rows m ≡ true →
    AreFilledBelow from rows m times → AreFilledBelow from rows (m + 1) times
filled_past from rows m times timed before k lt untimed = step (cases_eq k m)
  where
    step : (k ≡ m) ⊎ (k ≡ m → ⊥) → slice_get times (from + k) ≡ Some (time_in (gap_at rows k) k)
    step (inl here) = absurd (true≢false (sym timed ∙ rw here at untimed))
    step (inr other) = before k (omega (arith, lt, other)) untimed
