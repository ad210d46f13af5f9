use Rattle.std.proofs.Common.{◌≡◌, ◌∙◌, ◌<◌, Some, None, true, false, ap, sym, refl, subst, ℕ, arith}
use Rattle.plain_laws.specs.Plain.{first_below, list_below}
use Rattle.plain_laws.proofs.Laws.{first_below_found, first_below_next, list_below_more}
use Rattle.feed_faults.specs.Records.{field, row_count, is_long}
use Rattle.feed_faults.specs.FormFaults.{fault_of_fields, form_fault_of_row, form_fault_of_rows}
use Rattle.feed_text.specs.DataRows.{RowOfTable}
use Rattle.feed_text.specs.FieldNumbers.{numbers_of}
use Rattle.feed_tables.proofs.rows.read_rows.Goals as goal

pub returns-then-is_long-clause-fault : goal.returns-then-is_long-clause-fault
unfolding form_fault_of_rows form_fault_of_row
returns-then-is_long-clause-fault c =
    let lt : c.loop-row.row < row_count c.args.table.now = omega (arith, c.loop-row-test.true, c.rows-row-end.ensures.count) in
    let long : is_long c.args.table.now c.loop-row.row ≡ true = sym c.is_long.ensures ∙ c.if-is_long.true in
    let here : form_fault_of_row c.args.file c.args.table.now c.loop-row.row ≡ Some c.row_fault.result = rw (long, c.row_fault.ensures) refl in
    first_below_found (form_fault_of_row c.args.file c.args.table.now) (row_count c.args.table.now) c.loop-row.row c.row_fault.result lt c.loop-row.invariant.none here

pub returns-in-Some-clause-fault : goal.returns-in-Some-clause-fault
unfolding form_fault_of_rows form_fault_of_row
returns-in-Some-clause-fault c =
    let lt : c.loop-row.row < row_count c.args.table.now = omega (arith, c.loop-row-test.true, c.rows-row-end.ensures.count) in
    let long : is_long c.args.table.now c.loop-row.row ≡ false = sym c.is_long.ensures ∙ c.if-is_long.false in
    let told : fault_of_fields c.args.file c.loop-row.row (field c.args.table.now c.loop-row.row) ≡ Some c.in-Some.fault =
    sym (sym c.in-Some.is ∙ c.in_ok-fault.ensures.fault ∙ ap (λ (r : RowOfTable). fault_of_fields c.args.file c.loop-row.row (field r.table r.row)) c.row.ensures.is)
    in
    let here : form_fault_of_row c.args.file c.args.table.now c.loop-row.row ≡ Some c.in-Some.fault = rw (long, told) refl in
    first_below_found (form_fault_of_row c.args.file c.args.table.now) (row_count c.args.table.now) c.loop-row.row c.in-Some.fault lt c.loop-row.invariant.none here

pub loop-row-preserved : goal.loop-row-preserved
unfolding form_fault_of_row
loop-row-preserved c =
    let long : is_long c.args.table.now c.loop-row.row ≡ false = sym c.is_long.ensures ∙ c.if-is_long.false in
    let told : fault_of_fields c.args.file c.loop-row.row (field c.args.table.now c.loop-row.row) ≡ None =
    sym (sym c.in_default.is ∙ c.in_ok-fault.ensures.fault ∙ ap (λ (r : RowOfTable). fault_of_fields c.args.file c.loop-row.row (field r.table r.row)) c.row.ensures.is)
    in
    let here : form_fault_of_row c.args.file c.args.table.now c.loop-row.row ≡ None = rw (long, told) refl in
    let numbers = c.in_ok-fault.ensures.numbers c.in_default.is ∙ ap (λ (r : RowOfTable). numbers_of c.args.file (field r.table r.row)) c.row.ensures.is in
    record {
      none = first_below_next (form_fault_of_row c.args.file c.args.table.now) c.loop-row.row c.loop-row.invariant.none here;
      rows = list_below_more c.loop-row.row (λ row. numbers_of c.args.file (field c.args.table.now row)) c.loop-row.rows _ _ c.loop-row.invariant.rows c.in_ok-push.ensures.ok (c.deref.ensures.value ∙ numbers);
    }

pub returns-clause-sound : goal.returns-clause-sound
unfolding form_fault_of_rows
returns-clause-sound c =
    let all : c.loop-row.row ≡ row_count c.args.table.now = omega (arith, c.rows-row-end.ensures.count, c.loop-row.auto.row-end) in
    subst (λ (n : ℕ). first_below n (form_fault_of_row c.args.file c.args.table.now) ≡ None) all c.loop-row.invariant.none

pub returns-clause-numbers : goal.returns-clause-numbers
returns-clause-numbers c =
    let all : c.loop-row.row ≡ row_count c.args.table.now = omega (arith, c.rows-row-end.ensures.count, c.loop-row.auto.row-end) in
    c.loop-row.invariant.rows ∙ ap (λ n. list_below n (λ row. numbers_of c.args.file (field c.args.table.now row))) all
