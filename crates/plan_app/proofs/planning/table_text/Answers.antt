use Rattle.std.proofs.Common.{◌∙◌, ap, ℕ, List, ◌++◌, ◌∷◌, []}
use Rattle.std.specs.Prelude.{is_some}
use Rattle.commands.specs.CommandTexts.{stats_line}
use Rattle.feed_rows.specs.EntryText.{lines_of_entries}
use Rattle.round_table.specs.Tables.{table_by}
use Rattle.plan_app.proofs.MadeLaws.{table_lines}
use Rattle.plan_app.proofs.planning.table_text.Goals as goal

pub entries-requires : goal.entries-requires
entries-requires c = ap is_some c.in_ok-table.ensures.sound.exact.1

pub returns : goal.returns
returns c =
    table_lines c.args.timetable.now c.args.query.now (table_by c.in_ok-table.table) _ _ _ c.in_ok-table.ensures.sound
    c.in_ok-table.ensures.closed c.in_ok-table.ensures.offers c.in_ok-entries.ensures c.size.ensures
    (c.in_ok-push_stats.ensures ∙ ap (λ (text : List (List ℕ)). text ++ stats_line c.size.result ∷ [])
    (c.in_ok-text.ensures ∙ ap (lines_of_entries c.args.timetable.now) c.deref.ensures.value))
