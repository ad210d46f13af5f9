-- When timeframe groups hold on one civil day.
use Rattle.std.specs.Prelude.{◌≡◌, ℕ, ◌<◌, ◌≤◌, Bool, true, ◌&&◌, ◌==◌, nat_le, nat_lt, if◌then◌else◌, max, ℤ, List, [], ◌∷◌, ◌++◌, All, slice_get, unwrap_or}
use Rattle.std.specs.List.{list_any}
use Rattle.std.specs.List.Sorted.{IsNonDecreasingBy}
use Rattle.feed_rows.specs.declared.rows.TimeframeRow.{TimeframeRow}
use Rattle.feed_rows.specs.FeedRows.{FeedRows}
use Rattle.feed_rows.specs.Legs.{is_within}
use Rattle.fare_timeframes.specs.declared.days.FrameDay.{FrameDay}
use Rattle.fare_timeframes.specs.declared.days.Span.{Span}

-- the time lies in the span
abbrev pub has_time : ℕ → Span → Bool
has_time time span = nat_le span.start time && nat_lt time span.end

-- the spans of a timeframe group
abbrev pub spans_at : List (List Span) → ℕ → List Span
spans_at groups frame = unwrap_or (slice_get groups frame) []

-- the latest end, with this row
abbrev pub end_after : Bool → TimeframeRow → ℕ → ℕ
end_after active row end = if active then max row.end end else end

-- the spans, with that of this row
abbrev pub spans_after : Bool → TimeframeRow → ℕ → List Span → List Span
spans_after active row end spans =
    if active then spans ++ record { start = row.start; end = max row.end end } ∷ [] else spans

-- the spans stand by start and by end
pub record AreSteps (spans : List Span) : Type 0 where
  pub starts : IsNonDecreasingBy (λ (span : Span). span.start) spans
  pub ends : IsNonDecreasingBy (λ (span : Span). span.end) spans

-- a time lies in a span where one of the rows holds then on the day
pub record AreSpansOf (feed : FeedRows) (day : ℤ) (rows : List TimeframeRow) (spans : List Span) : Type 0 where
  pub steps : AreSteps spans
  pub has : (time : ℕ) → list_any (has_time time) spans ≡ list_any (is_within feed day time) rows

-- the same, with the latest end: from the last start on, each time before it lies in a span
pub record AreSpansUpTo (feed : FeedRows) (day : ℤ) (rows : List TimeframeRow) (end : ℕ) (spans : List Span) : Type 0 where
  pub are : AreSpansOf feed day rows spans
  pub starts : (time : ℕ) → All (λ row. row.start ≤ time) rows → All (λ span. span.start ≤ time) spans
  pub ends : All (λ span. span.end ≤ end) spans
  pub last : (time : ℕ) → All (λ row. row.start ≤ time) rows → time < end → list_any (has_time time) spans ≡ true

-- the timeframe groups hold so on the day
pub record IsDayOf (feed : FeedRows) (kept : FrameDay) : Type 0 where
  pub steps : (frame : ℕ) → AreSteps (spans_at kept.spans frame)
  pub has : (frame time : ℕ) → list_any (has_time time) (spans_at kept.spans frame) ≡ list_any (λ row. (row.frame.0 == frame) && is_within feed kept.day.0 time row) feed.timeframes
