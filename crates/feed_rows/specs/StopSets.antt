-- The platforms that each stop stands for, gathered row by row: each row puts itself into its own set and into that of its
-- station. This is what a body carries, and no rule of its own: the platforms that a stop stands for are defined in
-- `StopLinks`, and `StopSetLaws` proves that the gathering gives them.
use Rattle.std.specs.Prelude.{ℕ, ◌==◌, if◌then◌else◌, List, [], ◌∷◌, ◌++◌, length, Option, Some, None, slice_get}
use Rattle.std.specs.Option.{option_map_or}
use Rattle.transit_base.specs.declared.numbers.StopId.{StopId}
use Rattle.feed_rows.specs.declared.rows.StopRow.{StopRow}
use Rattle.feed_rows.specs.Codes.{platform_type}
use Rattle.feed_rows.specs.FeedRows.{FeedRows}
use Rattle.feed_rows.specs.StopLinks.{stop_set}
use Rattle.plain_laws.specs.Plain.{list_below}

-- the platforms that each stop stands for, stop by stop in file order
unfoldable pub stop_sets : FeedRows → List (List StopId)
stop_sets feed = list_below (length feed.stops) (λ i. stop_set feed (record { 0 = i }))

-- row r, where it is row i
abbrev pub own_set : ℕ → ℕ → List StopId
own_set r i = if r == i then (record { 0 = r }) ∷ [] else []

-- row r, where its station is row i
abbrev pub station_set : Option StopId → ℕ → ℕ → List StopId
station_set (Some station) r i = if station.0 == i then (record { 0 = r }) ∷ [] else []
station_set None r i = []

-- row r, as often as it belongs to the set of row i
abbrev pub row_sets : StopRow → ℕ → ℕ → List StopId
row_sets row r i = if row.kind == platform_type then own_set r i ++ station_set row.parent r i else []

-- the same of the row with this number, if there is one
unfoldable pub row_sets_at : List StopRow → ℕ → ℕ → List StopId
row_sets_at stops r i = option_map_or (λ row. row_sets row r i) (slice_get stops r) []
