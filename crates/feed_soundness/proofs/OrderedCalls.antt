-- The stop times of accepted tables beside one another: no sequence stands twice in a trip, ends are timed, no time falls.
use Rattle.std.proofs.Common.{◌≡◌, refl, sym, ◌∙◌, ap, ℕ, ◌<◌, ◌≤◌, false, All, arith}
use Rattle.std.specs.Prelude.{IsSome}
use Rattle.std.specs.Option.{ForSome}
use Rattle.std.proofs.lemmas.Bool.{and_from, eq-eqb, or_left, or_right}
use Rattle.feed_files.specs.declared.names.FileName.TheVariants as file
use Rattle.feed_files.specs.declared.names.ColumnName.TheVariants as column
use Rattle.feed_rows.specs.Calls.{first_time, last_time}
use Rattle.feed_rows.specs.SoundTimetable.{EndsBy, IsFirstCall, IsLastCall, AreOrderedCalls}
use Rattle.feed_faults.specs.Records.{FileTable, row_count}
use Rattle.feed_faults.specs.FeedTables.{FeedTables, table_in}
use Rattle.feed_faults.specs.StopTimeRelations.{stop_time_of, stop_times_of, is_first, is_last, do_times_decrease}
use Rattle.feed_faults.specs.AcceptedFeed.{row_number, stop_time_row, rows_of_tables}
use Rattle.feed_soundness.specs.AcceptedTables.{AreFormed, AreRelated}
use Rattle.plain_laws.proofs.Laws.{All-list_below, AllPairs-list_below, list_below-each, eq-bytes_eq}
use Rattle.feed_soundness.proofs.KeyLaws.{same_number, never_both}
use Rattle.feed_soundness.proofs.IdColumns.{new_keys}
use Rattle.feed_soundness.proofs.References.{call_trip_known}
use Rattle.feed_soundness.proofs.CallTables.{trip_text, sequence_at, same_place_told, times_within, times_between, first_row, last_row, end_times}

abbrev stop_times : FeedTables → FileTable
stop_times t = table_in t file.StopTimes

module _ (t : FeedTables) (formed : AreFormed t) (related : AreRelated t) where
  rising : (row : ℕ) → row < row_count (stop_times t) → do_times_decrease (stop_times_of (stop_times t)) row ≡ false
  rising row lt = related file.StopTimes row 5 _ lt refl

  -- rows of one trip by its number are of one trip by its id, and the other way round
  same_trip : (i j : ℕ) → i < row_count (stop_times t) → j < row_count (stop_times t)
      → (stop_time_row t i).trip.0 ≡ (stop_time_row t j).trip.0 → trip_text (stop_times t) i ≡ trip_text (stop_times t) j
  unfolding stop_time_row
  same_trip i j lt within same =
      same_number _ _ _ _ (call_trip_known t formed related i lt) (call_trip_known t formed related j within) same

  same_trip_number : (i j : ℕ) → trip_text (stop_times t) i ≡ trip_text (stop_times t) j
      → (stop_time_row t i).trip.0 ≡ (stop_time_row t j).trip.0
  unfolding stop_time_row
  same_trip_number i j same = ap (row_number (table_in t file.Trips) column.TripId) same

  -- no two rows have one sequence of one trip
  sequences_apart : (i j : ℕ) → i < j → j < row_count (stop_times t) → trip_text (stop_times t) i ≡ trip_text (stop_times t) j
      → sequence_at (stop_times t) i ≡ sequence_at (stop_times t) j → ⊥
  sequences_apart i j lt within trips sequences =
      let first : i < row_count (stop_times t) = omega arith in
      never_both (same_place_told (stop_times t) j i within first ∙ and_from _ _ (eq-bytes_eq _ _ (sym trips)) (eq-eqb _ _ (sym sequences)))
      (new_keys t related file.StopTimes 3 _ _ refl i j lt within)

  calls_apart : (i j : ℕ) → i < j → j < row_count (stop_times t) → (stop_time_row t i).trip.0 ≡ (stop_time_row t j).trip.0
      → (stop_time_row t i).sequence ≡ (stop_time_row t j).sequence → ⊥
  unfolding stop_time_row
  calls_apart i j lt within trips sequences = sequences_apart i j lt within (same_trip i j (omega arith) within trips) sequences

  -- the first and the last row of a trip have a time
  first_told : (i : ℕ) → i < row_count (stop_times t) → IsFirstCall (rows_of_tables t) (stop_time_row t i)
      → IsSome (first_time (stop_time_row t i))
  unfolding rows_of_tables stop_time_row stop_time_of
  first_told i lt is =
      let table = stop_times t in
      let told = list_below-each (λ other. other.trip.0 ≡ (stop_time_row t i).trip.0 → (stop_time_row t i).sequence ≤ other.sequence) (row_count table) (stop_time_row t) is in
      let first = first_row table i lt (λ k within same. told k within (same_trip_number k i same))
      (λ k less same sequences. sequences_apart k i less lt same sequences) in
      (end_times table i lt (related file.StopTimes i 4 _ lt refl)
      (or_left (is_first (stop_times_of table) i) (is_last (stop_times_of table) i) first)).0

  last_told : (i : ℕ) → i < row_count (stop_times t) → IsLastCall (rows_of_tables t) (stop_time_row t i)
      → IsSome (last_time (stop_time_row t i))
  unfolding rows_of_tables stop_time_row stop_time_of
  last_told i lt is =
      let table = stop_times t in
      let told = list_below-each (λ other. other.trip.0 ≡ (stop_time_row t i).trip.0 → other.sequence ≤ (stop_time_row t i).sequence) (row_count table) (stop_time_row t) is in
      let last = last_row table i lt (λ k within same. told k within (same_trip_number k i same))
      (λ k less within same sequences. sequences_apart i k less within (sym same) (sym sequences)) in
      (end_times table i lt (related file.StopTimes i 4 _ lt refl)
      (or_right (is_first (stop_times_of table) i) (is_last (stop_times_of table) i) last)).1

  -- no time falls in a row, nor from a row to a later one of its trip
  within_told : (i : ℕ) → i < row_count (stop_times t)
      → ForSome (first_time (stop_time_row t i)) (λ a. ForSome (last_time (stop_time_row t i)) (λ b. a ≤ b))
  unfolding stop_time_row stop_time_of
  within_told i lt = times_within (stop_times t) rising i lt

  between_told : (i j : ℕ) → i < row_count (stop_times t) → j < row_count (stop_times t)
      → (stop_time_row t i).trip.0 ≡ (stop_time_row t j).trip.0 → (stop_time_row t i).sequence < (stop_time_row t j).sequence
      → EndsBy (stop_time_row t i) (stop_time_row t j)
  unfolding stop_time_row stop_time_of
  between_told i j lt within trips less = times_between (stop_times t) rising i j lt within (same_trip i j lt within trips) less

  -- stop_times.txt
  pub calls_sound : AreOrderedCalls (rows_of_tables t)
  unfolding rows_of_tables
  calls_sound =
      let rows = row_count (stop_times t) in
      let row = stop_time_row t in
      record {
        no_doubles = AllPairs-list_below (λ c d. c.trip.0 ≡ d.trip.0 → c.sequence ≡ d.sequence → ⊥) rows row calls_apart;
        firsts = All-list_below (λ c. IsFirstCall (rows_of_tables t) c → IsSome (first_time c)) rows row first_told;
        lasts = All-list_below (λ c. IsLastCall (rows_of_tables t) c → IsSome (last_time c)) rows row last_told;
        within_rows = All-list_below (λ c. ForSome (first_time c) (λ a. ForSome (last_time c) (λ b. a ≤ b))) rows row within_told;
        between_rows =
            All-list_below (λ c. All (λ d. c.trip.0 ≡ d.trip.0 → c.sequence < d.sequence → EndsBy c d) (rows_of_tables t).stop_times) rows row
            (λ i lt. All-list_below (λ d. (row i).trip.0 ≡ d.trip.0 → (row i).sequence < d.sequence → EndsBy (row i) d) rows row (λ j within. between_told i j lt within));
      }
