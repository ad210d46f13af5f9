-- Where the files are related, each stop time's trip and stop are there.
use Rattle.std.proofs.Common.{◌≡◌, sym, ap, ◌∙◌, ℕ, ◌<◌, List, length, get_or, Any, ⊎_elim, Option, Some, None, arith}
use Rattle.std.specs.Prelude.{option_map}
use Rattle.plain_laws.proofs.Laws.{length-list_below, get_or-list_below}
use Rattle.feed_files.specs.declared.names.FileName.TheVariants as file
use Rattle.feed_faults.specs.Records.{FileTable, row_count, field}
use Rattle.feed_faults.specs.FeedTables.{FeedTables, table_in}
use Rattle.feed_soundness.specs.AcceptedTables.{AreFormed, AreRelated}
use Rattle.feed_soundness.proofs.References.{call_trip_known, call_stop_known}
use Rattle.feed_tables.specs.IdColumns.{call_ids}
use Rattle.feed_tables.specs.ReadCalls.{trip_of, stop_of, IsStray, read_call, read_calls}
use Rattle.feed_tables.specs.declared.calls.ReadCall.{ReadCall}

-- what was read by the ids of tables, of which one is that of stop times
pub calls_of : (t kept : FeedTables) (table : FileTable) (calls : List ReadCall) → t ≡ kept → table_in kept file.StopTimes ≡ table → calls ≡ read_calls (call_ids kept) table
    → calls ≡ read_calls (call_ids t) (table_in t file.StopTimes)
calls_of t kept table calls same at e =
    e ∙ ap (read_calls (call_ids kept)) (sym at) ∙ ap (λ tables. read_calls (call_ids tables) (table_in tables file.StopTimes)) (sym same)

-- what is there isn't missing
is_there : {X : Type 0} (of : ℕ → X) (found : Option ℕ) (row : ℕ) → found ≡ Some row → option_map of found ≡ None → ⊥
is_there of found row is none = let no : Some (of row) ≡ None = rw is at none in absurd (cc)

pub no_stray : (t : FeedTables) → AreFormed t → AreRelated t → (calls : List ReadCall) → calls ≡ read_calls (call_ids t) (table_in t file.StopTimes) → Any IsStray calls → ⊥
unfolding read_call
no_stray t formed related calls e some =
    let read = λ (row : ℕ). read_call (call_ids t) (field (table_in t file.StopTimes) row) in
    let long = ap length e ∙ length-list_below (row_count (table_in t file.StopTimes)) read in
    let lt = some.2 in
    let within : some.0 < row_count (table_in t file.StopTimes) = omega arith in
    let is : some.1 ≡ read some.0 = sym some.3 ∙ ap (λ xs. get_or xs some.0 some.1) e ∙ get_or-list_below (row_count (table_in t file.StopTimes)) read some.0 some.1 within in
    ⊎_elim
    (λ trip. is_there trip_of _ _ (call_trip_known t formed related some.0 within).found (sym (ap (λ (call : ReadCall). call.trip) is) ∙ trip))
    (λ stop. is_there stop_of _ _ (call_stop_known t formed related some.0 within).found (sym (ap (λ (call : ReadCall). call.stop) is) ∙ stop))
    some.4
