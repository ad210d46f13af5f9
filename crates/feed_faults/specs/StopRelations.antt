-- The parents of stops, among the rows of their file.
use Rattle.std.specs.Prelude.{ℕ, ◌&&◌, ◌==◌, nat_lt, Bool}
use Rattle.feed_files.specs.declared.names.ColumnName.TheVariants.{StopId, ParentStation}
use Rattle.feed_rows.specs.Codes.{platform_type, station_type}
use Rattle.plain_laws.specs.Plain.{filled_and}
use Rattle.feed_faults.specs.Records.{FileTable, field, is_filled}
use Rattle.feed_faults.specs.FieldValues.{stop_kind}
use Rattle.feed_faults.specs.RowKeys.{row_of}

-- a platform or a station names a parent; of other kinds the parent isn't looked at (profile)
unfoldable pub has_parent : FileTable → ℕ → Bool
has_parent stops row = nat_lt (stop_kind stops row) 2 && is_filled (field stops row ParentStation)

-- the parent of a row is a station; an id of several rows is that of the earliest
unfoldable pub is_at_station : FileTable → ℕ → Bool
is_at_station stops row = filled_and (row_of stops StopId (field stops row ParentStation)) (λ parent. stop_kind stops parent == station_type)

-- a parent is only for a platform, and is a station (stops.txt: parent_station)
abbrev pub is_parent_good : FileTable → ℕ → Bool
is_parent_good stops row = (stop_kind stops row == platform_type) && is_at_station stops row
