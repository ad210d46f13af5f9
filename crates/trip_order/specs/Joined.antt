-- Stretches of rows that stand together.
use Rattle.std.specs.Prelude.{◌≡◌, ℕ, ◌+◌, ◌-◌, ◌≤◌, List, length, All}
use Rattle.std.specs.List.{flat_map}
use Rattle.plain_laws.specs.Plain.{list_below}
use Rattle.feed_rows.specs.declared.rows.StopTimeRow.{StopTimeRow}
use Rattle.trip_order.specs.Order.{key_of}
use Rattle.trip_order.specs.declared.keys.PlaceKey.{PlaceKey}
use Rattle.trip_order.specs.declared.stretches.Stretch.{Stretch}

-- the keys of the rows of a stretch
abbrev pub keys_within : List StopTimeRow → Stretch → List PlaceKey
keys_within times stretch = list_below (stretch.to - stretch.from) (λ k. key_of times (stretch.from + k))

-- the stretch is one of these rows
pub record LiesWithin (times : List StopTimeRow) (stretch : Stretch) : Type 0 where
  pub forward : stretch.from ≤ stretch.to
  pub ends : stretch.to ≤ length times

-- the stretches are these rows up to a place, one stretch after another
pub record AreCut (times : List StopTimeRow) (stretches : List Stretch) (to : ℕ) : Type 0 where
  pub joined : flat_map (keys_within times) stretches ≡ list_below to (key_of times)
  pub within : All (LiesWithin times) stretches
