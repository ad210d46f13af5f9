use Rattle.std.proofs.Common.{List, sym, ap, ◌∙◌}
use Rattle.std.specs.Prelude.{Some, option_map, slice_get}
use Rattle.std.proofs.lemmas.Option.{slice_get-map, slice_get-get_or}
use Rattle.feed_rows.specs.RoundTables.{Final as KeptFinal}
use Rattle.round_table.specs.Finals.{final_of}
use Rattle.round_table.specs.Tables.{table_by}
use Rattle.round_table.proofs.EntryLaws.{entries_more, entry_given}
use Rattle.round_table.proofs.table.RoundTable.entries.Goals as goal

pub entry-requires : goal.entry-requires
entry-requires c =
    entry_given (table_by c.args.self.now) c.loop-number.number _ c.requires
    (sym (ap (λ (fs : List KeptFinal). slice_get fs c.loop-number.number) c.finals-finals.ensures) ∙ slice_get-map final_of c.finals-finals.result.now c.loop-number.number
    ∙ ap (option_map final_of) (slice_get-get_or c.finals-finals.result.now c.loop-number.number _ c.loop-number-test.true))

pub loop-number-preserved : goal.loop-number-preserved
loop-number-preserved c =
    entries_more (table_by c.args.self.now) c.finals-finals.result.now c.loop-number.number _ c.loop-number.entries.items c.in_ok-entry.field-0
    c.loop-number-test.true c.loop-number.invariant c.in_ok-entry.ensures ∙ ap Some (sym c.in_ok-push.ensures.items)
