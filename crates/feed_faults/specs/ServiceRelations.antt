-- The days of services and the starts of frequencies, among the rows of their file.
use Rattle.std.specs.Prelude.{ℕ, ◌&&◌, ◌==◌, Bool, int_lt}
use Rattle.transit_base.specs.Limits.{most_time}
use Rattle.feed_files.specs.declared.names.ColumnName.TheVariants.{ServiceId, StartDate, EndDate, Date, TripId, StartTime}
use Rattle.plain_laws.specs.Plain.{int_same}
use Rattle.feed_faults.specs.Records.{FileTable, field}
use Rattle.feed_faults.specs.FieldValues.{time_or, day_or_zero}
use Rattle.feed_faults.specs.RowKeys.{same_field}

-- the last day of a row lies before its first
unfoldable pub are_dates_reversed : FileTable → ℕ → Bool
are_dates_reversed calendar row = int_lt (day_or_zero (field calendar row EndDate)) (day_or_zero (field calendar row StartDate))

-- two exceptions are of one service and one day
unfoldable pub same_exception : FileTable → ℕ → ℕ → Bool
same_exception dates a b = same_field dates ServiceId a b && int_same (day_or_zero (field dates a Date)) (day_or_zero (field dates b Date))

-- two rows are of one trip and one start
unfoldable pub same_start : FileTable → ℕ → ℕ → Bool
same_start frequencies a b =
    same_field frequencies TripId a b && (time_or 0 most_time (field frequencies a StartTime) == time_or 0 most_time (field frequencies b StartTime))
