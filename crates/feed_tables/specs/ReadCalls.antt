-- Stop times as they are read.
use Rattle.std.specs.Prelude.{◌≡◌, ℕ, ◌⊎◌, List, Option, None, Some, option_map}
use Rattle.plain_laws.specs.Plain.{list_below}
use Rattle.transit_base.specs.declared.numbers.StopId.{StopId}
use Rattle.transit_base.specs.declared.numbers.TripId.{TripId}
use Rattle.feed_files.specs.declared.names.ColumnName.TheVariants as column
use Rattle.feed_rows.specs.declared.rows.StopTimeRow.{StopTimeRow}
use Rattle.feed_faults.specs.Records.{FileTable, Fields, row_count, field}
use Rattle.feed_faults.specs.RowKeys.{row_of}
use Rattle.feed_faults.specs.AcceptedFeed.{row_number, stop_time_by}
use Rattle.feed_tables.specs.IndexedColumns.{IndexedColumn}
use Rattle.feed_tables.specs.declared.calls.ReadCall.{ReadCall}
use Rattle.feed_tables.specs.declared.ids.CallIds.{CallIds}

-- the trip and the stop of a number
abbrev pub trip_of : ℕ → TripId
trip_of row = record { 0 = row }

abbrev pub stop_of : ℕ → StopId
stop_of row = record { 0 = row }

-- a row, whose trip and stop are there
abbrev pub call_of : StopTimeRow → ReadCall
call_of row =
    record {
      trip = Some row.trip;
      stop = Some row.stop;
      sequence = row.sequence;
      arrival = row.arrival;
      departure = row.departure;
      pickup = row.pickup;
      drop_off = row.drop_off;
    }

-- the trip or the stop isn't there
abbrev pub IsStray : ReadCall → Type 0
IsStray call = (call.trip ≡ None) ⊎ (call.stop ≡ None)

-- the earliest row with an id of a column
abbrev pub row_in : IndexedColumn → List ℕ → Option ℕ
row_in column id = row_of column.table column.name id

-- what the fields of a stop time give
unfoldable pub read_call : CallIds → Fields → ReadCall
read_call ids at =
    record (call_of (stop_time_by (row_number ids.trips.table ids.trips.name) (row_number ids.stops.table ids.stops.name) at)) {
      trip = option_map trip_of (row_in ids.trips (at column.TripId));
      stop = option_map stop_of (row_in ids.stops (at column.StopId));
    }

-- what the rows of a table of stop times give
abbrev pub read_calls : CallIds → FileTable → List ReadCall
read_calls ids table = list_below (row_count table) (λ row. read_call ids (field table row))
