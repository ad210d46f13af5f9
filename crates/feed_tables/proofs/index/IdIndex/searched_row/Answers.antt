use Rattle.std.proofs.Common.{rules, ap, ◌∙◌, sym, Some}
use Rattle.std.proofs.lemmas.List.Sorted.{answers_always}
use Rattle.feed_faults.specs.RowKeys.{row_of}
use Rattle.feed_tables.specs.declared.id_rows.IdRow.{IdRow}
use Rattle.feed_tables.specs.IndexedColumns.{IndexedColumn}
use Rattle.feed_tables.proofs.IdLaws.{found_row, no_row}
use Rattle.feed_tables.proofs.index.IdIndex.searched_row.Goals as goal

pub returns-in-Ok : goal.returns-in-Ok
returns-in-Ok c =
    let at = rw c.deref.ensures.value at c.in-Ok.ensures.position (λ (entry : IdRow). (entry.key, entry.id)) (answers_always _ _ _ (λ f a r g h. search rules)) in
    let within = rw c.deref.ensures.value at c.in-Ok.ensures.bound in
    ap (λ (entry : IdRow). Some entry.row) c.index.ensures
    ∙ sym (found_row _ _ _ c.self.invariant.0 _ _ c.requires c.in-Ok.place c.index.result.now within (at c.index.result.now))
    ∙ ap (λ (index : IndexedColumn). row_of index.table index.name c.args.id.now) c.self.view_is

pub returns-in-Err : goal.returns-in-Err
returns-in-Err c =
    let told = rw c.deref.ensures.value at c.in-Err.ensures.position (λ (entry : IdRow). (entry.key, entry.id)) (answers_always _ _ _ (λ f a r g h. search rules)) in
    no_row _ _ _ c.self.invariant.0 _ _ c.requires _ told ∙ ap (λ (index : IndexedColumn). row_of index.table index.name c.args.id.now) c.self.view_is
