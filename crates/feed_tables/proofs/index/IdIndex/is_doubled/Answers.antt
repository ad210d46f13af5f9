use Rattle.std.proofs.Common.{◌≡◌, sym, ◌∙◌, ap, subst, ◌<◌, length, Some, None, arith}
use Rattle.feed_faults.specs.Records.{row_count, field}
use Rattle.feed_faults.specs.RowKeys.{is_doubled}
use Rattle.feed_tables.specs.IndexedColumns.{IndexedColumn}
use Rattle.feed_tables.proofs.IdLaws.{is_doubled_from_row, none_doubled}
use Rattle.feed_tables.proofs.index.IdIndex.is_doubled.Goals as goal

pub returns-in-Some : goal.returns-in-Some
returns-in-Some c =
    is_doubled_from_row _ _ _ _ (Some c.in-Some.first) c.requires (c.field.ensures ∙ ap (λ (index : IndexedColumn). field index.table c.args.row index.name) c.self.view_is) c.in-Some.ensures.row

pub returns-in-None : goal.returns-in-None
returns-in-None c =
    is_doubled_from_row _ _ _ _ None c.requires (c.field.ensures ∙ ap (λ (index : IndexedColumn). field index.table c.args.row index.name) c.self.view_is) c.in-None.ensures.row

pub returns-then-len-rows : goal.returns-then-len-rows
returns-then-len-rows c =
    let count = c.rows.ensures.count in
    let many : length c.self.inside.rows.items ≡ row_count c.self.inside.table.now = omega (arith, count, c.if-len-rows.true) in
    let within : c.args.row < row_count c.self.inside.table.now = subst (λ (index : IndexedColumn). c.args.row < row_count index.table) (sym c.self.view_is) c.requires in
    sym (none_doubled c.self.inside.table.now c.self.inside.name c.self.inside.rows.items c.self.invariant.0 many c.args.row within)
    ∙ ap (λ (index : IndexedColumn). is_doubled index.table index.name c.args.row) c.self.view_is
