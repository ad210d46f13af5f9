use Rattle.std.proofs.Common.{◌≡◌, refl, rules, arith}
use Rattle.std.proofs.lemmas.Fn.{dedup_same}
use Rattle.std.proofs.lemmas.List.Sorted.{answers_always}
use Rattle.feed_faults.specs.Records.{row_count}
use Rattle.feed_tables.specs.declared.id_rows.IdRow.{IdRow}
use Rattle.feed_tables.proofs.IdLaws.{row_more, are_id_rows, same}
use Rattle.feed_tables.proofs.id_rows.id_rows.Goals as goal

pub loop-row-preserved : goal.loop-row-preserved
loop-row-preserved c =
    rw c.in_ok-push.ensures.items (row_more _ _ _ _ _ c.loop-row.invariant (omega (arith, c.rows-row-end.ensures, c.loop-row-test.true)) refl c.field-id.ensures c.key_of.ensures)

pub returns : goal.returns
returns c =
    let at_end : c.loop-row.row ≡ row_count c.args.table.now = omega (arith, c.rows-row-end.ensures, c.loop-row-test.false, c.loop-row.auto.row-end) in
    let first = rw at_end at c.loop-row.invariant in
    let sort = c.sort_unstable_by_key.ensures in
    let before = c.sort_unstable_by_key.new.self.ok.0 in
    let after = c.dedup_by_key.new.self.ok.0 in
    are_id_rows _ _ _ _ first sort.permutation (sort.sorted (λ (entry : IdRow). (entry.key, entry.id, entry.row)) (answers_always _ _ _ (λ f a r g h. search rules))) _
    (dedup_same _ same _ (λ x y b f' x' y' k. search rules) _ _ c.dedup_by_key.ensures.filtered) (omega (arith, c.dedup_by_key.ensures.bound, before, after)) (omega (arith, c.rows-row-end.ensures))
