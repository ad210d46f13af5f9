-- Stop times as they are read.
use Rattle.std.proofs.Common.{◌≡◌, refl, sym, ap, ◌∙◌, ℕ, zero, suc, ◌+◌, ◌++◌, List, [], ◌∷◌, length, map, Any, Option, Some, None, arith}
use Rattle.std.specs.Prelude.{option_map, unwrap_or}
use Rattle.std.proofs.lemmas.List.{length-append, get_or-append-add, map-append}
use Rattle.plain_laws.specs.Plain.{list_below}
use Rattle.plain_laws.proofs.Laws.{list_below-same}
use Rattle.feed_files.specs.declared.names.ColumnName.TheVariants as column
use Rattle.feed_files.specs.declared.names.FileName.TheVariants as file
use Rattle.feed_rows.specs.declared.rows.StopTimeRow.{StopTimeRow}
use Rattle.feed_faults.specs.Records.{Fields, row_count, field}
use Rattle.feed_faults.specs.FeedTables.{FeedTables, table_in}
use Rattle.feed_faults.specs.AcceptedFeed.{row_number, stop_time_by, typed_rows, stop_time_row}
use Rattle.feed_tables.specs.IdColumns.{call_ids}
use Rattle.feed_tables.specs.declared.calls.ReadCall.{ReadCall}
use Rattle.feed_tables.specs.ReadCalls.{trip_of, stop_of, call_of, IsStray, row_in, read_call, read_calls}

-- one among the last is one among all
pub stray_behind : (before rest : List ReadCall) → Any IsStray rest → Any IsStray (before ++ rest)
stray_behind before rest some =
    let size = length-append before rest in
    let lt = some.2 in
    (length before + some.0, some.1, omega arith, get_or-append-add before rest some.0 some.1 ∙ some.3, some.4)

-- the row that was read, with these numbers for what isn't there
abbrev numbered : ℕ → ℕ → ReadCall → StopTimeRow
numbered trips stops call =
    record {
      trip = unwrap_or call.trip (trip_of trips);
      stop = unwrap_or call.stop (stop_of stops);
      sequence = call.sequence;
      arrival = call.arrival;
      departure = call.departure;
      pickup = call.pickup;
      drop_off = call.drop_off;
    }

-- a row keeps its numbers, whatever stands for others
row_kept : (trips stops : ℕ) (rows : List StopTimeRow) → map (numbered trips stops) (map call_of rows) ≡ rows
row_kept trips stops [] = refl
row_kept trips stops (row ∷ rows) = ap (λ others. row ∷ others) (row_kept trips stops rows)

map_below : {A B : Type 0} (n : ℕ) (f : ℕ → A) (g : A → B) → map g (list_below n f) ≡ list_below n (λ k. g (f k))
map_below zero f g = refl
map_below (suc n) f g = map-append g (list_below n f) (f n ∷ []) ∙ ap (λ xs. xs ++ g (f n) ∷ []) (map_below n f g)

-- the number of what is there or not
number_or : {X : Type 0} (of : ℕ → X) (found : Option ℕ) (past : ℕ) → unwrap_or (option_map of found) (of past) ≡ of (unwrap_or found past)
number_or of None past = refl
number_or of (Some row) past = refl

module _ (t : FeedTables) where
  abbrev trips : ℕ
  trips = row_count (table_in t file.Trips)

  abbrev stops : ℕ
  stops = row_count (table_in t file.Stops)

  abbrev calls : List ReadCall
  calls = read_calls (call_ids t) (table_in t file.StopTimes)

  numbered_call : (at : Fields) → numbered trips stops (read_call (call_ids t) at) ≡ stop_time_by (row_number (table_in t file.Trips) column.TripId) (row_number (table_in t file.Stops) column.StopId) at
  unfolding read_call
  numbered_call at = rw (number_or trip_of (row_in (call_ids t).trips (at column.TripId)) trips, number_or stop_of (row_in (call_ids t).stops (at column.StopId)) stops) refl

  -- stop times that were read, with the number after the last for what isn't there, are the rows of the definitions
  numbered_calls : map (numbered trips stops) calls ≡ typed_rows (table_in t file.StopTimes) (stop_time_row t)
  unfolding stop_time_row
  numbered_calls =
      map_below (row_count (table_in t file.StopTimes)) (λ row. read_call (call_ids t) (field (table_in t file.StopTimes) row)) (numbered trips stops)
      ∙ list_below-same (row_count (table_in t file.StopTimes)) _ (stop_time_row t) (λ row lt. numbered_call (field (table_in t file.StopTimes) row))

  -- and so are rows by which all were read
  pub rows_of_calls : (rows : List StopTimeRow) → map call_of rows ≡ calls → rows ≡ typed_rows (table_in t file.StopTimes) (stop_time_row t)
  rows_of_calls rows e = sym (row_kept trips stops rows) ∙ ap (map (numbered trips stops)) e ∙ numbered_calls
