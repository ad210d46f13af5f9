-- When timeframe groups hold on one civil day.
use Rattle.std.proofs.Common.{◌≡◌, refl, sym, ◌∙◌, ℕ, ◌+◌, ◌-◌, ◌<◌, ◌≤◌, ◌⊎◌, inl, inr, max, Bool, true, false, ◌&&◌, ◌||◌, ◌==◌, List, [], ◌∷◌, ◌++◌, length, get_or, take, All, Some, ℤ, arith}
use Rattle.std.specs.Prelude.{nat_le, nat_lt}
use Rattle.std.specs.List.{list_any, AllWithin}
use Rattle.std.specs.List.Sorted.{IsNonDecreasingBy}
use Rattle.std.proofs.lemmas.Bool.{cases_lt}
use Rattle.std.proofs.lemmas.Bool.Decides.{nat_tests}
use Rattle.std.proofs.lemmas.List.{take_more, length-take-le, get_or-take, get_or_default}
use Rattle.std.proofs.lemmas.List.Elements.{All-nil, All-push, All-pop, All-weaker, All-get_or}
use Rattle.std.proofs.lemmas.List.Folds.{list_any_none, list_any-append, list_any_at}
use Rattle.std.proofs.lemmas.List.Sorted.{IsNonDecreasingBy-push}
use Rattle.std.proofs.lemmas.Option.{slice_get_past}
use Rattle.feed_rows.specs.declared.rows.TimeframeRow.{TimeframeRow}
use Rattle.feed_rows.specs.FeedRows.{FeedRows}
use Rattle.feed_rows.specs.Legs.{is_within, holds_at}
use Rattle.feed_rows.specs.ServiceDays.{is_active}
use Rattle.fare_timeframes.specs.declared.days.Span.{Span}
use Rattle.transit_base.specs.declared.numbers.FrameId.{FrameId}
use Rattle.transit_base.specs.Moments.{civil_day, time_of_day}
use Rattle.plain_laws.proofs.Laws.{slice_get-push_before, slice_get-push_last}
use Rattle.fare_timeframes.specs.declared.days.FrameDay.{FrameDay}
use Rattle.fare_timeframes.specs.declared.Timeframes.{Timeframes}
use Rattle.fare_timeframes.specs.BuiltTimeframes.{AreTimeframesOf}
use Rattle.fare_timeframes.specs.FrameRows.{rows_at}
use Rattle.fare_timeframes.specs.FrameDays.{has_time, spans_at, spans_after, end_after, AreSteps, AreSpansOf, AreSpansUpTo, IsDayOf}

module _ (feed : FeedRows) (day : ℤ) where
  -- no rows have no spans
  pub spans_none : AreSpansUpTo feed day [] 0 []
  spans_none =
      record {
        are = record { steps = record { starts = λ i j d le lt. absurd (omega arith); ends = λ i j d le lt. absurd (omega arith) }; has = λ time. refl };
        starts = λ time all. All-nil (λ (span : Span). span.start ≤ time);
        ends = All-nil (λ (span : Span). span.end ≤ 0);
        last = λ time all lt. absurd (omega arith);
      }

  -- and with one row more that starts no earlier they have its span, where its service is active
  pub spans_more : (rows : List TimeframeRow) (row : TimeframeRow) (active : Bool) (end : ℕ) (spans : List Span) → All (λ r. r.start ≤ row.start) rows → active ≡ is_active feed row.service day
      → AreSpansUpTo feed day rows end spans → AreSpansUpTo feed day (rows ++ row ∷ []) (end_after active row end) (spans_after active row end spans)
  spans_more rows row false end spans up is before =
      record {
        are = record { steps = before.are.steps; has = λ time. before.are.has time ∙ same time };
        starts = λ time all. before.starts time (parts time all).0;
        ends = before.ends;
        last = λ time all lt. before.last time (parts time all).0 lt;
      }
    where
      parts : (time : ℕ) → All (λ r. r.start ≤ time) (rows ++ row ∷ []) → All (λ r. r.start ≤ time) rows × (row.start ≤ time)
      parts time all = All-pop (λ r. r.start ≤ time) (rows ++ row ∷ []) rows (Some row) refl all

      or_none : (a : Bool) → a ≡ (a || false)
      or_none true = refl
      or_none false = refl

      same : (time : ℕ) → list_any (is_within feed day time) rows ≡ list_any (is_within feed day time) (rows ++ row ∷ [])
      same time = rw (list_any-append (is_within feed day time) rows (row ∷ []), ← is) (or_none _)
  spans_more rows row true end spans up is before =
      record {
        are = record {
          steps = record {
            starts = IsNonDecreasingBy-push (λ (s : Span). s.start) spans span before.are.steps.starts
                (λ d some. All-get_or (λ (s : Span). s.start ≤ row.start) spans (length spans - 1) d (omega arith) (before.starts row.start up));
            ends = IsNonDecreasingBy-push (λ (s : Span). s.end) spans span before.are.steps.ends
                (λ d some. let last = All-get_or (λ (s : Span). s.end ≤ end) spans (length spans - 1) d (omega arith) before.ends in less _ last);
          };
          has = λ time. list_any-append (has_time time) spans (span ∷ []) ∙ both time ∙ sym (list_any-append (is_within feed day time) rows (row ∷ []));
        };
        starts = λ time all. All-push (λ (s : Span). s.start ≤ time) spans span (before.starts time (parts time all).0) (parts time all).1;
        ends = All-push (λ (s : Span). s.end ≤ latest) spans span (All-weaker (λ (s : Span). s.end ≤ end) (λ (s : Span). s.end ≤ latest) (λ s le. less s.end le) spans before.ends) (omega arith);
        last = λ time all lt. list_any-append (has_time time) spans (span ∷ []) ∙ here time (parts time all).1 lt (list_any (has_time time) spans);
      }
    where
      latest : ℕ
      latest = max row.end end

      span : Span
      span = record { start = row.start; end = latest }

      less : (n : ℕ) → n ≤ end → n ≤ latest
      less n le = grind (arith, le)

      parts : (time : ℕ) → All (λ r. r.start ≤ time) (rows ++ row ∷ []) → All (λ r. r.start ≤ time) rows × (row.start ≤ time)
      parts time all = All-pop (λ r. r.start ≤ time) (rows ++ row ∷ []) rows (Some row) refl all

      here : (time : ℕ) → row.start ≤ time → time < latest → (b : Bool) → (b || (has_time time span || false)) ≡ true
      here time start lt b = grind (arith, nat_tests, start, lt)

      test : ℕ → Bool
      test time = nat_le row.start time && nat_lt time row.end

      active : (time : ℕ) → is_within feed day time row ≡ test time
      active time = rw (← is) refl

      join : (a b p q : Bool) → a ≡ b → p ≡ q → (a || (p || false)) ≡ (b || (q || false))
      join a b p q e f = rw (e, f) refl

      full : (a b p q : Bool) → a ≡ b → a ≡ true → (a || (p || false)) ≡ (b || (q || false))
      full a b p q e f = rw (← e, f) refl

      -- the span has no time more than the row and those before it
      step : (time : ℕ) → (time < row.start) ⊎ (row.start ≤ time) → (time < row.end) ⊎ (row.end ≤ time) → (time < end) ⊎ (end ≤ time)
          → (list_any (has_time time) spans || (has_time time span || false)) ≡ (list_any (is_within feed day time) rows || (test time || false))
      step time (inl early) ends past = join _ _ (has_time time span) (test time) (before.are.has time) (grind (arith, nat_tests, early))
      step time (inr start) (inl lt) past = join _ _ (has_time time span) (test time) (before.are.has time) (grind (arith, nat_tests, start, lt))
      step time (inr start) (inr ended) (inl lt) =
          full _ _ (has_time time span) (test time) (before.are.has time)
          (before.last time (All-weaker (λ (r : TimeframeRow). r.start ≤ row.start) (λ (r : TimeframeRow). r.start ≤ time) (λ r le. omega arith) rows up) lt)
      step time (inr start) (inr ended) (inr past) = join _ _ (has_time time span) (test time) (before.are.has time) (grind (arith, nat_tests, start, ended, past))

      both : (time : ℕ) → (list_any (has_time time) spans || (has_time time span || false)) ≡ (list_any (is_within feed day time) rows || (is_within feed day time row || false))
      both time = rw (active time) (step time (cases_lt time row.start) (cases_lt time row.end) (cases_lt time end))

  -- a loop's next row
  pub spans_step : (rows : List TimeframeRow) (i : ℕ) (d : TimeframeRow) (active : Bool) (end latest : ℕ) (spans new : List Span) → i < length rows → IsNonDecreasingBy (λ (row : TimeframeRow). row.start) rows
      → active ≡ is_active feed (get_or rows i d).service day → AreSpansUpTo feed day (take i rows) end spans → latest ≡ end_after active (get_or rows i d) end → new ≡ spans_after active (get_or rows i d) end spans
      → AreSpansUpTo feed day (take (i + 1) rows) latest new
  spans_step rows i d active end latest spans new lt up is before last made =
      rw (take_more rows i d lt, last, made) (spans_more (take i rows) (get_or rows i d) active end spans earlier is before)
    where
      earlier : All (λ r. r.start ≤ (get_or rows i d).start) (take i rows)
      earlier k e within =
          let long = length-take-le i rows (omega arith) in
          let same = get_or-take i rows k e (omega arith) in
          let le = up k i e (omega arith) lt in
          rw (same, get_or_default rows i d e lt) le

-- a time lies in a span exactly where it lies before the end of the last that starts by it
pub time_in_last : (spans : List Span) (time started : ℕ) → AreSteps spans → started ≤ length spans → AllWithin (λ s. nat_le s.start time ≡ true) spans 0 started
    → AllWithin (λ s. nat_le s.start time ≡ false) spans started (length spans) → (b : Bool) → (started ≡ 0 → b ≡ false)
    → (0 < started → b ≡ nat_lt time (get_or spans (started - 1) (record { start = 0; end = 0 })).end) → b ≡ list_any (has_time time) spans
time_in_last spans time started steps bound by after false none is =
    sym (list_any_none (has_time time) spans (λ k d lt. step k d lt (cases_lt k started)))
  where
    step : (k : ℕ) (d : Span) → k < length spans → (k < started) ⊎ (started ≤ k) → has_time time (get_or spans k d) ≡ false
    step k d lt (inl early) =
        let up = steps.ends k (started - 1) d (omega arith) (omega arith) in
        let same = get_or_default spans (started - 1) d (record { start = 0; end = 0 }) (omega arith) in
        let last = is (omega arith) in
        let over : (get_or spans (started - 1) d).end ≤ time = rw same (grind (arith, nat_tests, last)) in
        grind (arith, nat_tests, up, over)
    step k d lt (inr late) = let unstarted = after k d late lt in rw unstarted refl
time_in_last spans time started steps bound by after true none is = step (cases_lt 0 started)
  where
    last : 0 < started → has_time time (get_or spans (started - 1) (record { start = 0; end = 0 })) ≡ true
    last some =
        let here = is some in
        let starts = by (started - 1) (record { start = 0; end = 0 }) (omega arith) (omega arith) in
        rw (starts, ← here) refl

    step : (0 < started) ⊎ (started ≤ 0) → true ≡ list_any (has_time time) spans
    step (inl some) = sym (list_any_at (has_time time) spans (started - 1) (record { start = 0; end = 0 }) (omega arith) (last some))
    step (inr few) = absurd (let e = none (omega arith) in cc)

-- the spans of each group, with those of one more
pub groups_more : (groups new : List (List Span)) (group : List Span) (n : ℕ) (Is : ℕ → List Span → Type 0) → new ≡ groups ++ group ∷ [] → length groups ≡ n
    → ((frame : ℕ) → frame < n → Is frame (spans_at groups frame)) → Is n group → (frame : ℕ) → frame < n + 1 → Is frame (spans_at new frame)
groups_more groups new group n Is made many before here frame lt = step (cases_lt frame n)
  where
    step : (frame < n) ⊎ (n ≤ frame) → Is frame (spans_at new frame)
    step (inl less) = rw (made, slice_get-push_before groups group frame (omega arith)) (before frame less)
    step (inr past) = let last : frame ≡ n = omega arith in rw (last, made, slice_get-push_last groups group n (sym many)) here

-- the timeframe groups hold so on a day, from the spans of each
pub day_of_groups : (feed : FeedRows) (timeframes : Timeframes) (kept : FrameDay) → AreTimeframesOf feed timeframes → length kept.spans ≡ length timeframes.rows
    → ((frame : ℕ) → frame < length timeframes.rows → AreSpansOf feed kept.day.0 (rows_at timeframes.rows frame) (spans_at kept.spans frame)) → IsDayOf feed kept
day_of_groups feed timeframes kept are many each =
    record {
      steps = λ frame. (spans frame).steps;
      has = λ frame time. (spans frame).has time ∙ are.has frame (is_within feed kept.day.0 time);
    }
  where
    spans : (frame : ℕ) → AreSpansOf feed kept.day.0 (rows_at timeframes.rows frame) (spans_at kept.spans frame)
    spans frame = step (cases_lt frame (length timeframes.rows))
      where
        step : (frame < length timeframes.rows) ⊎ (length timeframes.rows ≤ frame) → AreSpansOf feed kept.day.0 (rows_at timeframes.rows frame) (spans_at kept.spans frame)
        step (inl lt) = each frame lt
        step (inr past) = rw (slice_get_past timeframes.rows frame past, slice_get_past kept.spans frame (omega arith)) (spans_none feed kept.day.0).are

-- and so does a moment of the day
pub holds_from_day : (feed : FeedRows) (kept : FrameDay) → IsDayOf feed kept → (frame : FrameId) (moment : ℤ) → kept.day.0 ≡ civil_day moment
    → list_any (λ row. (row.frame.0 == frame.0) && is_within feed kept.day.0 (time_of_day moment) row) feed.timeframes ≡ holds_at feed frame moment
unfolding holds_at
holds_from_day feed kept are frame moment same = rw same refl
