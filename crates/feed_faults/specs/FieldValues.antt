-- The values of a row's fields. A field that tells no such value counts as an empty one. These are values of files whose
-- fields are of their grammars; of others they say nothing.
use Rattle.std.specs.Prelude.{ℕ, List, Option, None, Some, unwrap_or, ℤ, pos, negsuc}
use Rattle.transit_base.specs.Limits.{day_seconds}
use Rattle.feed_files.specs.declared.names.ColumnName.TheVariants as column
use Rattle.feed_faults.specs.Records.{FileTable, field}
use Rattle.feed_rows.specs.TimeGrammar.{time_value}
use Rattle.feed_faults.specs.FieldGrammars.{int_value, date_value, amount_in}

-- a number from 0 on; 0 where there is none
abbrev pub nat_of : Option ℤ → ℕ
nat_of None = 0
nat_of (Some (pos n)) = n
nat_of (Some (negsuc n)) = 0

-- an integer from least to most; 0 where there is none
unfoldable pub int_or_zero : ℕ → ℕ → List ℕ → ℕ
int_or_zero least most text = nat_of (int_value (pos least) (pos most) text)

-- a time of at most so many seconds, or this one where there is none
unfoldable pub time_or : ℕ → ℕ → List ℕ → ℕ
time_or other most text = unwrap_or (time_value most text) other

-- the day of a date, or that of 1970-01-01
unfoldable pub day_or_zero : List ℕ → ℤ
day_or_zero text = unwrap_or (date_value text) (pos 0)

-- an amount in a currency; 0 where there is none
unfoldable pub amount_or_zero : List ℕ → List ℕ → ℤ
amount_or_zero currency text = unwrap_or (amount_in currency text) (pos 0)

-- the kind of a stop: its location_type, where an empty one is 0 (stops.txt)
abbrev pub stop_kind : FileTable → ℕ → ℕ
stop_kind stops row = int_or_zero 0 4 (field stops row column.LocationType)

-- the first second of a timeframe, where an empty one is that of the day (timeframes.txt: start_time)
abbrev pub frame_start : FileTable → ℕ → ℕ
frame_start frames row = time_or 0 day_seconds (field frames row column.StartTime)

-- the second before which a timeframe ends, where an empty one is the end of the day (timeframes.txt: end_time)
abbrev pub frame_end : FileTable → ℕ → ℕ
frame_end frames row = time_or day_seconds day_seconds (field frames row column.EndTime)
