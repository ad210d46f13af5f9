-- What the rows of a feed are judged by.
use Rattle.std.specs.Prelude.{◌≡◌, ℕ, ◌<◌, ◌==◌, Bool, true, false, List, get_or}
use Rattle.feed_files.specs.declared.names.ColumnName.TheVariants.{TripId, StopId}
use Rattle.feed_files.specs.declared.names.FileName.TheVariants as file
use Rattle.feed_rows.specs.Codes.{platform_type}
use Rattle.plain_laws.specs.Plain.{list_below}
use Rattle.feed_faults.specs.Records.{FileTable, row_count, field, is_filled}
use Rattle.feed_faults.specs.FeedTables.{FeedTables, table_in}
use Rattle.feed_faults.specs.FieldValues.{stop_kind}
use Rattle.feed_faults.specs.RowKeys.{is_unknown}
use Rattle.feed_faults.specs.StopTimeRelations.{stop_times_of}
use Rattle.feed_tables.specs.IdColumns.{call_ids}
use Rattle.feed_tables.specs.ReadCalls.{read_call, read_calls}
use Rattle.feed_tables.specs.declared.calls.ReadCall.{ReadCall}
use Rattle.stop_order.specs.declared.times.OrderFaults.{OrderFaults}
use Rattle.stop_order.specs.declared.times.TripTime.{TripTime}
use Rattle.stop_order.specs.Numbered.{no_faults, faults_at}

-- each stop time names a trip and a stop
pub record AreCallsNamed (t : FeedTables) : Type 0 where
  pub trips : (row : ℕ) → row < row_count (table_in t file.StopTimes) → is_filled (field (table_in t file.StopTimes) row TripId) ≡ true
  pub stops : (row : ℕ) → row < row_count (table_in t file.StopTimes) → is_filled (field (table_in t file.StopTimes) row StopId) ≡ true

-- what was read of a stop time
abbrev pub call_at : FeedTables → ℕ → ReadCall
call_at t row = read_call (call_ids t) (field (table_in t file.StopTimes) row)

-- what is asked of it, where its order is
abbrev pub time_of_call : ReadCall → TripTime
time_of_call call = record { trip = call.trip; sequence = call.sequence; arrival = call.arrival; departure = call.departure }

-- the trip of a stop time is there
abbrev pub IsTripKnown : FeedTables → ℕ → Type 0
IsTripKnown t row = is_unknown (table_in t file.Trips) TripId (field (table_in t file.StopTimes) row TripId) ≡ false

-- what is wrong with each stop time whose trip is there
abbrev pub IsOrderJudged : FeedTables → List OrderFaults → Type 0
IsOrderJudged t order =
    (row : ℕ) → row < row_count (table_in t file.StopTimes) → IsTripKnown t row → get_or order row no_faults ≡ faults_at (stop_times_of (table_in t file.StopTimes)) row

-- which stops are platforms
unfoldable pub are_platforms : FileTable → List Bool
are_platforms stops = list_below (row_count stops) (λ row. stop_kind stops row == platform_type)

-- the rows by their ids, the stop times as they were read, the platforms, and what is wrong with each stop time whose trip is there
pub record AreJudged (t ids : FeedTables) (calls : List ReadCall) (platforms : List Bool) (order : List OrderFaults) : Type 0 where
  pub ids_are : ids ≡ t
  pub named : AreCallsNamed t
  pub calls_are : calls ≡ read_calls (call_ids t) (table_in t file.StopTimes)
  pub platforms_are : platforms ≡ are_platforms (table_in t file.Stops)
  pub order_is : IsOrderJudged t order
