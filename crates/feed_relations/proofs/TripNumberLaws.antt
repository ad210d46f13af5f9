-- Stop times as they were read; and trips by their numbers: the rows of a trip that is there are those with its number.
use Rattle.std.proofs.Common.{◌≡◌, refl, sym, ◌∙◌, ap, subst, ℕ, ◌<◌, ⊎_elim, Bool, true, false, List, [], ◌∷◌, length, get_or, map, arith}
use Rattle.std.specs.Prelude.{◌==◌, bytes_eq, is_none, option_map, Option, Some, None}
use Rattle.std.proofs.lemmas.Slice.Eq.{bytes_eq-Decides}
use Rattle.feed_rows.specs.declared.rows.StopTimeRow.{StopTimeRow}
use Rattle.feed_files.specs.declared.names.FileName.TheVariants as file
use Rattle.feed_files.specs.declared.names.ColumnName.{ColumnName}
use Rattle.feed_files.specs.declared.names.ColumnName.TheVariants as column
use Rattle.transit_base.specs.declared.numbers.StopId.{StopId}
use Rattle.feed_rows.specs.Codes.{platform_type}
use Rattle.plain_laws.specs.Plain.{list_below, filled_and}
use Rattle.plain_laws.proofs.Laws.{find_below_tells, length-list_below, list_below-same, get_or-list_below, same_test}
use Rattle.feed_faults.specs.Records.{FileTable, row_count, field, is_filled}
use Rattle.feed_faults.specs.FeedTables.{FeedTables, table_in}
use Rattle.feed_faults.specs.FieldValues.{stop_kind}
use Rattle.feed_faults.specs.RowKeys.{row_of, is_unknown}
use Rattle.feed_faults.specs.StopTimeRelations.{stop_time_of, stop_times_of, is_at_platform}
use Rattle.feed_tables.specs.IdColumns.{call_ids}
use Rattle.feed_tables.specs.ReadCalls.{trip_of, stop_of, call_of, read_call, read_calls}
use Rattle.feed_tables.specs.declared.calls.ReadCall.{ReadCall}
use Rattle.stop_order.specs.declared.times.OrderFaults.{OrderFaults}
use Rattle.stop_order.specs.declared.times.TripTime.{TripTime}
use Rattle.stop_order.specs.Numbered.{no_time, numbered_at, time_of_row, named_time, named_times, is_one_trip, IsOneTrip, no_faults, faults_at}
use Rattle.feed_relations.specs.JudgedBy.{AreCallsNamed, IsOrderJudged, IsTripKnown, are_platforms, call_at, time_of_call}
use Rattle.std.proofs.lemmas.Bool.{cases_Bool, eqb-true, eq-eqb}
use Rattle.std.proofs.lemmas.List.{length-map, get_or-map}

-- what the row with an id tells
pub row_tells : (table : FileTable) (name : ColumnName) (id : List ℕ) (row : ℕ) → row_of table name id ≡ Some row → (row < row_count table) × (id ≡ field table row name)
unfolding row_of
row_tells table name id row e =
    let first = find_below_tells (λ r. bytes_eq id (field table r name)) (row_count table) row e in
    (first.within, (bytes_eq-Decides id (field table row name)).0 first.passes)

-- a filled id isn't there where no row has it
pub missing_is : {X : Type 0} (of : ℕ → X) (table : FileTable) (name : ColumnName) (id : List ℕ) → is_filled id ≡ true → is_none (option_map of (row_of table name id)) ≡ is_unknown table name id
missing_is of table name id filled = step (row_of table name id) refl
  where
    step : (o : Option ℕ) → row_of table name id ≡ o → is_none (option_map of (row_of table name id)) ≡ is_unknown table name id
    step (Some row) e = rw (filled, e) refl
    step None e = rw (filled, e) refl

-- of two ids, one of which is there, the rows that have them are one where the ids are
one_text : (table : FileTable) (name : ColumnName) (a b : List ℕ) → is_filled b ≡ true → is_unknown table name b ≡ false → bytes_eq a b ≡ is_one_trip (option_map trip_of (row_of table name a)) (option_map trip_of (row_of table name b))
one_text table name a b filled known = step (row_of table name a) refl (row_of table name b) refl
  where
    rows_same : bytes_eq a b ≡ true → row_of table name a ≡ row_of table name b
    rows_same e = ap (row_of table name) ((bytes_eq-Decides a b).0 e)

    step : (o : Option ℕ) → row_of table name a ≡ o → (p : Option ℕ) → row_of table name b ≡ p → bytes_eq a b ≡ is_one_trip (option_map trip_of o) (option_map trip_of p)
    step (Some r) ea (Some s) eb =
        same_test (bytes_eq a b) (r == s)
        (λ e. let same : Some r ≡ Some s = sym ea ∙ rows_same e ∙ eb in eq-eqb r s (grind (arith, same)))
        (λ e. (bytes_eq-Decides a b).1 ((row_tells table name a r ea).1 ∙ ap (λ k. field table k name) (eqb-true r s e) ∙ sym (row_tells table name b s eb).1))
    step None ea (Some s) eb = ⊎_elim
        (λ (e : bytes_eq a b ≡ true). let same : None ≡ Some s = sym ea ∙ rows_same e ∙ eb in absurd (cc))
        (λ (e : bytes_eq a b ≡ false). e)
        (cases_Bool (bytes_eq a b))
    step o ea None eb = absurd (let no' : true ≡ false = rw (filled, eb) at known in cc)

-- the stop times that were read
pub length_calls : (t : FeedTables) (calls : List ReadCall) → calls ≡ read_calls (call_ids t) (table_in t file.StopTimes) → length calls ≡ row_count (table_in t file.StopTimes)
length_calls t calls e = ap length e ∙ length-list_below (row_count (table_in t file.StopTimes)) (call_at t)

pub call_is : (t : FeedTables) (calls : List ReadCall) (row : ℕ) (d : ReadCall) → calls ≡ read_calls (call_ids t) (table_in t file.StopTimes) → row < row_count (table_in t file.StopTimes) → get_or calls row d ≡ call_at t row
call_is t calls row d e lt = ap (λ xs. get_or xs row d) e ∙ get_or-list_below (row_count (table_in t file.StopTimes)) (call_at t) row d lt

-- whether a stop is there and a platform
unfoldable pub platform_of : List Bool → Option StopId → Bool
platform_of platforms (Some stop) = get_or platforms stop.0 false
platform_of platforms None = false

-- a stop time is at a platform where its stop is one
pub platform_is : (t : FeedTables) (row : ℕ) (platforms : List Bool) → platforms ≡ are_platforms (table_in t file.Stops)
    → platform_of platforms (call_at t row).stop ≡ is_at_platform (table_in t file.Stops) (table_in t file.StopTimes) row
unfolding are_platforms is_at_platform read_call platform_of
platform_is t row platforms e = rw e (step (row_of stops column.StopId id) refl)
  where
    stops : FileTable
    stops = table_in t file.Stops

    id : List ℕ
    id = field (table_in t file.StopTimes) row column.StopId

    kinds : ℕ → Bool
    kinds stop = stop_kind stops stop == platform_type

    step : (o : Option ℕ) → row_of stops column.StopId id ≡ o → platform_of (list_below (row_count stops) kinds) (option_map stop_of (row_of stops column.StopId id)) ≡ filled_and (row_of stops column.StopId id) kinds
    step (Some stop) is = rw is (get_or-list_below (row_count stops) kinds stop false (row_tells stops column.StopId id stop is).0)
    step None is = rw is refl

-- what is wrong with each row, under every text of trips by which a row's trip has the rows that it has
abbrev IsToldOf : List TripTime → List OrderFaults → Type 0
IsToldOf times faults =
    (text : ℕ → List ℕ) (row : ℕ) → row < length times → IsOneTrip times text row → get_or faults row no_faults ≡ faults_at (named_times times text) row

module _ (t : FeedTables) (calls : List ReadCall) (read : calls ≡ read_calls (call_ids t) (table_in t file.StopTimes)) where
  abbrev text : ℕ → List ℕ
  text row = field (table_in t file.StopTimes) row column.TripId

  abbrev times : List TripTime
  times = map time_of_call calls

  -- there are as many as rows of stop_times.txt
  pub length_times : length times ≡ row_count (table_in t file.StopTimes)
  length_times = length-map calls time_of_call ∙ length_calls t calls read

  time_is : (row : ℕ) → row < row_count (table_in t file.StopTimes) → numbered_at times row ≡ time_of_call (call_at t row)
  time_is row lt =
      let none = call_at t row in
      let long = length_calls t calls read in
      get_or-map time_of_call calls row none no_time (omega arith) ∙ ap time_of_call (call_is t calls row none read lt)

  trip_is : (row : ℕ) → row < row_count (table_in t file.StopTimes) → (numbered_at times row).trip ≡ option_map trip_of (row_of (table_in t file.Trips) column.TripId (text row))
  unfolding read_call
  trip_is row lt = ap (λ (x : TripTime). x.trip) (time_is row lt)

  -- the rows of a trip that is there are those with its number
  one_trip : AreCallsNamed t → (row : ℕ) → row < row_count (table_in t file.StopTimes) → IsTripKnown t row → IsOneTrip times text row
  one_trip named row lt known other below =
      let within : other < row_count (table_in t file.StopTimes) = let long = length_times in omega arith in
      one_text (table_in t file.Trips) column.TripId (text other) (text row) (named.trips row lt) known
      ∙ rw (sym (trip_is other within), sym (trip_is row lt)) refl

  -- the stop times with the texts of their trips are those of the file
  named_is : named_times times text ≡ stop_times_of (table_in t file.StopTimes)
  unfolding stop_times_of stop_time_of read_call
  named_is =
      ap (λ n. list_below n (named_time times text)) length_times
      ∙ list_below-same (row_count (table_in t file.StopTimes)) (named_time times text) (stop_time_of (table_in t file.StopTimes)) (λ row lt. rw (time_is row lt) refl)

  -- rows by which all were read are the same
  pub times_of_rows : (rows : List StopTimeRow) → map call_of rows ≡ calls → map time_of_row rows ≡ times
  times_of_rows rows all = same rows ∙ ap (map time_of_call) all
    where
      same : (rows : List StopTimeRow) → map time_of_row rows ≡ map time_of_call (map call_of rows)
      same [] = refl
      same (row ∷ rows) = ap (λ others. time_of_row row ∷ others) (same rows)

  -- what is said of each row with every text is said of the file's rows whose trip is there
  judged : AreCallsNamed t → (faults : List OrderFaults) → IsToldOf times faults → IsOrderJudged t faults
  judged named faults said row lt known =
      said text row (let long = length_times in omega arith) (one_trip named row lt known) ∙ ap (λ times. faults_at times row) named_is

  pub judged_by : AreCallsNamed t → (list : List TripTime) → list ≡ times → (faults : List OrderFaults) → IsToldOf list faults → IsOrderJudged t faults
  judged_by named list is faults said = judged named faults (subst (λ ts. IsToldOf ts faults) is said)
