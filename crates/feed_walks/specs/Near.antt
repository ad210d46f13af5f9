-- The platforms near each platform. Each of these says that no platform is missing; one too many does no harm, as the walk
-- there is looked up.
use Rattle.std.specs.Prelude.{◌≡◌, ℕ, ◌-◌, ◌<◌, ◌==◌, Bool, true, false, not, List, length, AllPairs, Contains, Some, slice_index_or}
use Rattle.std.specs.Option.{option_map_or}
use Rattle.transit_base.specs.declared.numbers.StopId.{StopId}
use Rattle.feed_rows.specs.declared.rows.LinkRow.{LinkRow}
use Rattle.feed_rows.specs.FeedRows.{FeedRows}
use Rattle.feed_rows.specs.StopLinks.{stop_set, row_between, link}
use Rattle.feed_walks.specs.Rules.{group_at}

-- the stops ascend, and none of those before is missing
pub record IsInOrder (old new : List StopId) : Type 0 where
  pub ascends : AllPairs (λ (x y : StopId). x.0 < y.0) new
  pub keeps : (stop : StopId) → Contains old stop → Contains new stop

-- the row from the one stop to the other allows the change, or there is none and they are one
abbrev pub leads_to : FeedRows → StopId → StopId → Bool
leads_to feed from to = option_map_or (λ row. not row.forbidden) (row_between feed (Some from) (Some to)) (from.0 == to.0)

-- the row at a place forbids the change, or leads to the stop of the row before it
pub record DoesNotLead (rows : List LinkRow) (place : ℕ) : Type 0 where
  pub first : (d : LinkRow) → (slice_index_or rows place d).forbidden ≡ false → 0 < place
  pub again : (d : LinkRow) → (slice_index_or rows place d).forbidden ≡ false →
      (slice_index_or rows (place - 1) d).to.0 ≡ (slice_index_or rows place d).to.0

-- no platform is missing of a stop that this one leads to
abbrev pub Reaches : FeedRows → StopId → List StopId → Type 0
Reaches feed from reached = (via to : StopId) → leads_to feed from via ≡ true → Contains (stop_set feed via) to → Contains reached to

-- the same of each stop
abbrev pub AreReached : FeedRows → List (List StopId) → Type 0
AreReached feed reached = (i : ℕ) → i < length feed.stops → Reaches feed (record { 0 = i }) (group_at reached i)

-- the stops ascend, and none is missing that there is a walk to
pub record AreNear (feed : FeedRows) (from : StopId) (near : List StopId) : Type 0 where
  pub ascends : AllPairs (λ (x y : StopId). x.0 < y.0) near
  pub there : (to : StopId) (seconds : ℕ) → link feed from to ≡ Some seconds → Contains near to
