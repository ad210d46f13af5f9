-- Keys of several columns as numbers: two rows have one key of numbers exactly where they have one key.
use Rattle.std.specs.Prelude.{◌≡◌, ℕ, ℤ, false, pos}
use Rattle.transit_base.specs.Limits.{most_time}
use Rattle.feed_files.specs.declared.names.FileName.{FileName}
use Rattle.feed_files.specs.declared.names.FileName.TheVariants as file
use Rattle.feed_files.specs.declared.names.ColumnName.{ColumnName}
use Rattle.feed_files.specs.declared.names.ColumnName.TheVariants.{TripId, ServiceId, Date, StartTime, RiderCategoryId, FareMediaId, FareProductId}
use Rattle.feed_faults.specs.declared.checks.IdColumn.TheVariants.{Trip, RiderCategory, FareMedia}
use Rattle.feed_faults.specs.Records.{field}
use Rattle.feed_faults.specs.FeedTables.{FeedTables, table_in}
use Rattle.feed_faults.specs.FieldValues.{time_or, day_or_zero}
use Rattle.feed_faults.specs.AcceptedFeed.{row_number}
use Rattle.feed_faults.specs.RowChecks.{is_unknown_in}
use Rattle.feed_relations.specs.declared.keys.RowKey.{RowKey}

-- the number of the row of a file that a row of another, or of the same, names in a column
abbrev pub number_named : FeedTables → FileName → FileName → ColumnName → ℕ → ℕ
number_named t named name column row = row_number (table_in t named) column (field (table_in t name) row column)

abbrev pub key : ℕ → ℤ → ℕ → RowKey
key first second third = record { 0 = first; 1 = second; 2 = third }

-- the key of a row, by the numbers of the rows that it names; of a file without such keys, its own number
abbrev pub row_key : FeedTables → FileName → ℕ → RowKey
row_key t file.CalendarDates row =
    key (number_named t file.CalendarDates file.CalendarDates ServiceId row)
    (day_or_zero (field (table_in t file.CalendarDates) row Date)) 0
row_key t file.Frequencies row =
    key (number_named t file.Trips file.Frequencies TripId row)
    (pos (time_or 0 most_time (field (table_in t file.Frequencies) row StartTime))) 0
row_key t file.FareProducts row =
    key (number_named t file.FareProducts file.FareProducts FareProductId row)
    (pos (number_named t file.RiderCategories file.FareProducts RiderCategoryId row))
    (number_named t file.FareMedia file.FareProducts FareMediaId row)
row_key t name row = key row (pos 0) 0

-- what a row's key names in other files is there
abbrev pub IsKeyKnown : FeedTables → FileName → ℕ → Type 0
IsKeyKnown t file.Frequencies row = is_unknown_in t Trip (field (table_in t file.Frequencies) row TripId) ≡ false
IsKeyKnown t file.FareProducts row =
    (is_unknown_in t RiderCategory (field (table_in t file.FareProducts) row RiderCategoryId) ≡ false)
    × (is_unknown_in t FareMedia (field (table_in t file.FareProducts) row FareMediaId) ≡ false)
IsKeyKnown t name row = Unit {0}
