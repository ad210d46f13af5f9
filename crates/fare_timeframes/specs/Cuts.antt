-- Times of day, moments and rides that fare rules see alike.
use Rattle.std.specs.Prelude.{◌≡◌, ◌≤◌, ℕ, List, Contains}
use Rattle.std.specs.List.Sorted.{IsNonDecreasingBy}
use Rattle.feed_rows.specs.declared.journeys.RideFacts.{RideFacts}
use Rattle.feed_rows.specs.declared.rows.TimeframeRow.{TimeframeRow}
use Rattle.feed_rows.specs.FeedRows.{FeedRows}
use Rattle.feed_rows.specs.Legs.{frames_at, stop_areas}

-- the times ascend, and each start and each end of a timeframe is among them
pub record AreCutsOf (feed : FeedRows) (cuts : List ℕ) : Type 0 where
  pub rises : IsNonDecreasingBy (λ (cut : ℕ). cut) cuts
  pub starts : (row : TimeframeRow) → Contains feed.timeframes row → Contains cuts row.start
  pub ends : (row : TimeframeRow) → Contains feed.timeframes row → Contains cuts row.end

-- no cut lies after the one time and by the other
pub record IsCutBefore (cuts : List ℕ) (time cut : ℕ) : Type 0 where
  pub within : cut ≤ time
  pub same : (other : ℕ) → Contains cuts other → other ≤ time → other ≤ cut

-- fare rules see the same of both rides
pub record AreLike (feed : FeedRows) (a b : RideFacts) : Type 0 where
  pub network : a.network ≡ b.network
  pub from_areas : stop_areas feed a.from ≡ stop_areas feed b.from
  pub to_areas : stop_areas feed a.to ≡ stop_areas feed b.to
  pub from_frames : frames_at feed a.departure ≡ frames_at feed b.departure
  pub to_frames : frames_at feed a.arrival ≡ frames_at feed b.arrival
