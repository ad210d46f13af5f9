-- The rows of stop times, one record after another.
use Rattle.std.proofs.Common.{◌≡◌, refl, sym, ap, ◌∙◌, ℕ, zero, suc, ◌+◌, ◌<◌, ◌≤◌, ◌++◌, List, [], ◌∷◌, length, get_or, true, false, nat_lt, Option, Some, None, add-one, arith}
use Rattle.std.specs.Prelude.{Bool, is_some, option_map, not, ◌==◌}
use Rattle.std.specs.Option.{option_or, option_map_or}
use Rattle.std.proofs.lemmas.Bool.Decides.{nat_tests}
use Rattle.std.proofs.lemmas.List.{length-append, get_or-append-add}
use Rattle.std.proofs.lemmas.Option.{none-some}
use Rattle.std.proofs.Math.ListN.{get_or-append}
use Rattle.transit_base.specs.Limits.{most_time}
use Rattle.transit_base.specs.declared.numbers.StopId.{StopId}
use Rattle.transit_base.specs.declared.numbers.TripId.{TripId}
use Rattle.feed_rows.specs.Limits.{most_rows}
use Rattle.feed_rows.specs.TimeGrammar.{time_value}
use Rattle.feed_files.specs.declared.names.ColumnName.TheVariants as column
use Rattle.feed_files.specs.declared.names.FileName.TheVariants as file
use Rattle.feed_files.specs.declared.faults.FaultKind.TheVariants as kind
use Rattle.feed_files.specs.declared.faults.FeedFault.{FeedFault}
use Rattle.plain_laws.specs.Plain.{list_below, first_below}
use Rattle.plain_laws.proofs.Laws.{list_below-same, option_or-assoc}
use Rattle.feed_faults.specs.declared.columns.ColumnRule.{ColumnRule}
use Rattle.feed_faults.specs.declared.columns.Grammar.TheVariants.{Id}
use Rattle.feed_faults.specs.FieldGrammars.{is_id, most_int}
use Rattle.feed_faults.specs.FieldValues.{int_or_zero}
use Rattle.feed_faults.specs.Records.{FileTable, Fields, table_of_bytes, header, row_count, column_of, field, is_long}
use Rattle.feed_faults.specs.FaultPlaces.{file_fault}
use Rattle.feed_faults.specs.FormFaults.{header_fault, field_misfit, fault_of_field, doubled_column, missing_column, is_twice, form_fault_of_row, form_fault_of_rows, form_fault_of_table}
use Rattle.feed_tables.specs.declared.ids.CallIds.{CallIds}
use Rattle.feed_tables.specs.ReadCalls.{trip_of, stop_of, row_in, read_call, read_calls}
use Rattle.feed_calls.specs.CallRows.{call_fault, calls_fault, fields_behind}
use Rattle.feed_text.specs.Reader.{StandsBehind, IsTableOf}
use Rattle.feed_text.specs.declared.records.Records.{Records}
use Rattle.feed_text.proofs.ReaderLaws.{text_begins}
use Rattle.feed_calls.specs.CallRows.{AreCallsOf, IsFaultOf}
use Rattle.feed_calls.specs.CallRows.{HasCalls}
use Rattle.feed_calls.specs.declared.calls.CallRows.{CallRows}

no_id : is_id [] ≡ true → ⊥
unfolding is_id
no_id e = absurd (cc)

-- a field that is an id has no fault in a column of ids
pub found_sound : (row : ℕ) (at : Fields) (rule : ColumnRule) (id : List ℕ) → rule.grammar ≡ Id → id ≡ at rule.name → is_id id ≡ true
    → fault_of_field file.StopTimes row at rule ≡ None
unfolding field_misfit
found_sound row at rule [] grammar same sound = absurd (no_id sound)
found_sound row at rule (b ∷ rest) grammar same sound = rw (← same, grammar, sound) refl

-- the stop time that a record makes, by what its fields tell
pub made_call : (ids : CallIds) (at : Fields) (trip : Option TripId) (stop : Option StopId) (sequence : ℕ) (arrival departure : Option ℕ) (pickup drop_off : Bool)
    → trip ≡ option_map trip_of (row_in ids.trips (at column.TripId)) → stop ≡ option_map stop_of (row_in ids.stops (at column.StopId))
    → sequence ≡ int_or_zero 0 most_int (at column.StopSequence)
    → arrival ≡ time_value most_time (at column.ArrivalTime) → departure ≡ time_value most_time (at column.DepartureTime)
    → pickup ≡ not (int_or_zero 0 3 (at column.PickupType) == 1) → drop_off ≡ not (int_or_zero 0 3 (at column.DropOffType) == 1)
    → record { trip = trip; stop = stop; sequence = sequence; arrival = arrival; departure = departure; pickup = pickup; drop_off = drop_off } ≡ read_call ids at
unfolding read_call
made_call ids at trip stop sequence arrival departure pickup drop_off trip_is stop_is sequence_is arrival_is departure_is pickup_is drop_off_is =
    rw (trip_is, stop_is, sequence_is, arrival_is, departure_is, pickup_is, drop_off_is) refl

-- one record more
module _ (rs : List (List (List ℕ))) (r : List (List ℕ)) where
  longer : length (rs ++ r ∷ []) ≡ suc (length rs)
  longer = length-append rs (r ∷ []) ∙ add-one (length rs)

  earlier : (k : ℕ) → k < length rs → get_or (rs ++ r ∷ []) k [] ≡ get_or rs k []
  earlier k lt = get_or-append rs (r ∷ []) [] k lt

  last : get_or (rs ++ r ∷ []) (length rs) [] ≡ r
  last = let e : length rs ≡ length rs + 0 = omega arith in ap (λ k. get_or (rs ++ r ∷ []) k []) e ∙ get_or-append-add rs (r ∷ []) 0 []

  first_same : {X : Type 0} (f g : ℕ → Option X) (n : ℕ) → ((k : ℕ) → k < n → f k ≡ g k) → first_below n f ≡ first_below n g
  first_same f g zero same = refl
  first_same f g (suc n) same = rw (first_same f g n (λ k lt. same k (omega (arith, lt))), same n (omega arith)) refl

  first_more : {X : Type 0} (f : ℕ → List (List ℕ) → Option X)
      → first_below (length (rs ++ r ∷ [])) (λ k. f k (get_or (rs ++ r ∷ []) k [])) ≡ option_or (first_below (length rs) (λ k. f k (get_or rs k []))) (f (length rs) r)
  first_more f = rw (longer, last, first_same (λ k. f k (get_or (rs ++ r ∷ []) k [])) (λ k. f k (get_or rs k [])) (length rs) (λ k lt. ap (f k) (earlier k lt))) refl

  list_more : {X : Type 0} (f : List (List ℕ) → X)
      → list_below (length (rs ++ r ∷ [])) (λ k. f (get_or (rs ++ r ∷ []) k [])) ≡ list_below (length rs) (λ k. f (get_or rs k [])) ++ f r ∷ []
  list_more f = rw (longer, last, list_below-same (length rs) (λ k. f (get_or (rs ++ r ∷ []) k [])) (λ k. f (get_or rs k [])) (λ k lt. ap f (earlier k lt))) refl

or_none : {X : Type 0} (a b : Option X) → a ≡ None → option_or a b ≡ b
or_none a b e = rw e refl

or_some : {X : Type 0} (a b : Option X) → is_some a ≡ true → option_or a b ≡ a
or_some None b e = absurd (cc)
or_some (Some x) b e = refl

no_some : {X : Type 0} (a : Option X) → is_some a ≡ false → a ≡ None
no_some None e = refl
no_some (Some x) e = absurd (cc)

-- the first fault of the header and of records behind it
abbrev faults : List (List ℕ) → List (List (List ℕ)) → Option FeedFault
faults head rs = option_or (header_fault file.StopTimes (head ∷ [])) (first_below (length rs) (λ k. call_fault head k (get_or rs k [])))

faults_more : (head : List (List ℕ)) (rs : List (List (List ℕ))) (r : List (List ℕ)) → faults head (rs ++ r ∷ []) ≡ option_or (faults head rs) (call_fault head (length rs) r)
faults_more head rs r =
    ap (option_or (header_fault file.StopTimes (head ∷ []))) (first_more rs r (call_fault head))
    ∙ sym (option_or-assoc (header_fault file.StopTimes (head ∷ [])) (first_below (length rs) (λ k. call_fault head k (get_or rs k []))) (call_fault head (length rs) r))

module _ (ids : CallIds) (head : List (List ℕ)) (rs : List (List (List ℕ))) (r : List (List ℕ)) (before now : CallRows) (has : HasCalls ids head rs before)
    (same_header : now.header ≡ before.header) (seen : now.read.table ≡ before.read.table ++ r ∷ []) where
  still_header : header now.header ≡ head
  still_header = rw same_header has.header_is

  more_seen : now.read.table ≡ head ∷ (rs ++ r ∷ [])
  more_seen = rw (seen, has.table_is) refl

  -- where a fault was found before, it is the first
  pub keeps_fault : is_some before.fault ≡ true → now.fault ≡ before.fault → HasCalls ids head (rs ++ r ∷ []) now
  keeps_fault some same = record {
    header_is = still_header;
    table_is = more_seen;
    fault_is = rw (same, faults_more head rs r, ← has.fault_is, or_some before.fault (call_fault head (length rs) r) some) refl;
    calls_are = λ none. absurd (let wrong : true ≡ false = sym some ∙ ap is_some (sym same ∙ none) in cc);
  }

  -- else that of the record, if it has one
  pub finds_fault : (fault : FeedFault) → is_some before.fault ≡ false → call_fault head (length rs) r ≡ Some fault → now.fault ≡ Some fault → HasCalls ids head (rs ++ r ∷ []) now
  finds_fault fault none own is = record {
    header_is = still_header;
    table_is = more_seen;
    fault_is = rw (is, faults_more head rs r, ← has.fault_is, or_none before.fault (call_fault head (length rs) r) (no_some before.fault none)) (sym own);
    calls_are = λ gone. absurd (none-some fault (sym gone ∙ is));
  }

  -- and else its row is one more
  pub adds_row : is_some before.fault ≡ false → call_fault head (length rs) r ≡ None → now.fault ≡ before.fault → now.read.calls ≡ before.read.calls ++ read_call ids (fields_behind head r) ∷ [] → HasCalls ids head (rs ++ r ∷ []) now
  adds_row none own same rows = record {
    header_is = still_header;
    table_is = more_seen;
    fault_is = rw (same, faults_more head rs r, ← has.fault_is, no_some before.fault none) (sym own);
    calls_are = λ gone. rw (rows, has.calls_are (no_some before.fault none), list_more rs r (λ x. read_call ids (fields_behind head x))) refl;
  }

-- the table of a header and records
module _ (ids : CallIds) (head : List (List ℕ)) (rs : List (List (List ℕ))) where
  count : row_count (head ∷ rs) ≡ length rs
  count = omega arith

  row_is : (k : ℕ) → field (head ∷ rs) k ≡ fields_behind head (get_or rs k [])
  unfolding field column_of
  row_is k = ap (λ m name. option_map_or (λ c. get_or (get_or (head ∷ rs) m []) c []) (column_of (head ∷ rs) name) []) (add-one k)

  long_is : (k : ℕ) → is_long (head ∷ rs) k ≡ is_long (head ∷ get_or rs k [] ∷ []) 0
  unfolding is_long
  long_is k = rw (add-one k) refl

  fault_at : (k : ℕ) → form_fault_of_row file.StopTimes (head ∷ rs) k ≡ call_fault head k (get_or rs k [])
  unfolding form_fault_of_row
  fault_at k = rw (row_is k, long_is k) refl

  pub rows_of_table : read_calls ids (head ∷ rs) ≡ list_below (length rs) (λ k. read_call ids (fields_behind head (get_or rs k [])))
  rows_of_table =
      ap (λ n. list_below n (λ k. read_call ids (field (head ∷ rs) k))) count
      ∙ list_below-same (length rs) (λ k. read_call ids (field (head ∷ rs) k)) (λ k. read_call ids (fields_behind head (get_or rs k []))) (λ k lt. ap (read_call ids) (row_is k))

  header_same : header_fault file.StopTimes (head ∷ rs) ≡ header_fault file.StopTimes (head ∷ [])
  unfolding header_fault doubled_column missing_column is_twice column_of
  header_same = refl

  -- the first fault of a table that isn't too long
  pub faults_of_table : length rs ≤ most_rows → calls_fault (head ∷ rs) ≡ faults head rs
  unfolding form_fault_of_table form_fault_of_rows
  faults_of_table few =
      let some : nat_lt 0 (suc (length rs)) ≡ true = grind (arith, nat_tests) in
      let short : nat_lt most_rows (length rs) ≡ false = grind (arith, nat_tests, few) in
      rw (some, count, short, header_same, first_same [] [] (form_fault_of_row file.StopTimes (head ∷ rs)) (λ k. call_fault head k (get_or rs k [])) (length rs) (λ k lt. fault_at k)) refl

-- the fault of a table that is too long
pub too_long : (table : FileTable) → most_rows + 2 ≤ length table → calls_fault table ≡ Some (file_fault file.StopTimes kind.TooManyRows)
unfolding form_fault_of_table
too_long table le =
    let some : nat_lt 0 (length table) ≡ true = grind (arith, nat_tests, le) in
    let long : nat_lt most_rows (row_count table) ≡ true = grind (arith, nat_tests, le) in
    rw (some, long) refl

-- that of one without a record
pub no_record : calls_fault [] ≡ Some (file_fault file.StopTimes kind.MissingFile)
unfolding form_fault_of_table form_fault_of_rows
no_record = refl

-- what is answered at the end
module _ (ids : CallIds) (head : List (List ℕ)) (rs : List (List (List ℕ))) (calls : CallRows) (has : HasCalls ids head rs calls) (few : length rs ≤ most_rows)
    (start : Option (List ℕ)) (all : IsTableOf start (head ∷ rs)) where
  pub are_calls : calls.fault ≡ None → AreCallsOf start ids calls.read
  are_calls none = record {
    text = all.text;
    is_of = all.is_of;
    sound = rw (← all.is_table) (faults_of_table ids head rs few ∙ sym has.fault_is ∙ none);
    table_is = has.table_is ∙ all.is_table;
    calls_are = has.calls_are none ∙ sym (rows_of_table ids head rs) ∙ ap (read_calls ids) all.is_table;
  }

  pub is_fault : (fault : FeedFault) → calls.fault ≡ Some fault → IsFaultOf start fault
  is_fault fault is = record {
    text = all.text;
    is_of = all.is_of;
    is_first = rw (← all.is_table) (faults_of_table ids head rs few ∙ sym has.fault_is ∙ is);
  }

pub is_missing : (start : Option (List ℕ)) → IsTableOf start [] → IsFaultOf start (file_fault file.StopTimes kind.MissingFile)
is_missing start all = record { text = all.text; is_of = all.is_of; is_first = rw (← all.is_table) no_record }

pub too_many : {R : Type 0} (rem : R → Option (List ℕ)) (start : Option (List ℕ)) (table : FileTable) (records : Records R)
    → StandsBehind rem start table records → most_rows + 2 ≤ length table → IsFaultOf start (file_fault file.StopTimes kind.TooManyRows)
too_many rem start table records stands long =
    let begins = text_begins rem records start table stands in
    record { text = begins.0; is_of = begins.1; is_first = too_long (table_of_bytes begins.0) (omega (arith, long, begins.2)) }
