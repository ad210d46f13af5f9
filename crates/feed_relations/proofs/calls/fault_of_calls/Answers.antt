use Rattle.std.proofs.Common.{◌≡◌, ◌∙◌, ◌<◌, Some, None, sym, ap, subst, ℕ, arith}
use Rattle.plain_laws.specs.Plain.{first_below}
use Rattle.plain_laws.proofs.Laws.{first_below_found, first_below_next}
use Rattle.feed_files.specs.declared.names.FileName.TheVariants as file
use Rattle.feed_faults.specs.Records.{row_count}
use Rattle.feed_faults.specs.FeedTables.{FeedTables, table_in}
use Rattle.feed_faults.specs.RowChecks.{relation_fault_of_row}
use Rattle.feed_relations.proofs.calls.fault_of_calls.Goals as goal

pub returns-in-Some-failing_check : goal.returns-in-Some-failing_check
returns-in-Some-failing_check g c =
    let rows : c.rows-row-end.result ≡ row_count (table_in c.args.feed.now file.StopTimes) = c.rows-row-end.ensures.count ∙ ap (λ (t : FeedTables). row_count (table_in t file.StopTimes)) c.tables.ensures in
    let lt : c.loop-row.row < row_count (table_in c.args.feed.now file.StopTimes) = omega (arith, c.loop-row-test.true, rows) in
    let here : relation_fault_of_row c.args.feed.now file.StopTimes c.loop-row.row ≡ Some c.field_fault.result = sym (rw c.in-Some-failing_check.is at c.failing_check.ensures) ∙ ap Some (sym c.field_fault.ensures) in
    sym (first_below_found (relation_fault_of_row c.args.feed.now file.StopTimes) _ c.loop-row.row _ lt c.loop-row.invariant here)

pub loop-row-preserved : goal.loop-row-preserved
loop-row-preserved g c =
    first_below_next (relation_fault_of_row c.args.feed.now file.StopTimes) c.loop-row.row c.loop-row.invariant (sym (rw c.in_default-failing_check.is at c.failing_check.ensures))

pub returns : goal.returns
returns g c =
    let rows : c.rows-row-end.result ≡ row_count (table_in c.args.feed.now file.StopTimes) = c.rows-row-end.ensures.count ∙ ap (λ (t : FeedTables). row_count (table_in t file.StopTimes)) c.tables.ensures in
    let all : c.loop-row.row ≡ row_count (table_in c.args.feed.now file.StopTimes) = omega (arith, c.loop-row-test.false, c.loop-row.auto.row-end, rows) in
    sym (subst (λ (n : ℕ). first_below n (relation_fault_of_row c.args.feed.now file.StopTimes) ≡ None) all c.loop-row.invariant)
