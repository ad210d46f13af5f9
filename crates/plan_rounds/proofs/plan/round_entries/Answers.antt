use Rattle.std.specs.Prelude.{refl}
use Rattle.std.proofs.lemmas.Result.{IfOk-weaker}
use Rattle.feed_rows.specs.Journeys.{asked}
use Rattle.round_table.specs.Tables.{table_by}
use Rattle.plan_rounds.proofs.PlannedLaws.{covers_both, entries_are}
use Rattle.plan_rounds.proofs.plan.round_entries.Goals as goal

pub returns-clause-exact : goal.returns-clause-exact
returns-clause-exact c =
    let task = asked c.args.timetable.now c.args.query.now in
    let known = c.in_ok-table.known.items in
    let found = c.in_ok-found.found.items in
    let planned = c.in_ok-table.ensures in
    IfOk-weaker c.best_of.result _ _ (λ entries both. both.0)
    (c.best_of.ensures task.feed task.query planned.right
    (entries_are task.feed task.query found (table_by c.in_ok-table.table) planned.exact.real.entries c.in_ok-found.ensures)
    (covers_both task.feed task.query known found (table_by c.in_ok-table.table) (planned.exact.finds refl) c.in_ok-found.ensures))

pub returns-clause-covers : goal.returns-clause-covers
returns-clause-covers c =
    let task = asked c.args.timetable.now c.args.query.now in
    let known = c.in_ok-table.known.items in
    let found = c.in_ok-found.found.items in
    let planned = c.in_ok-table.ensures in
    IfOk-weaker c.best_of.result _ _ (λ entries both. both.1)
    (c.best_of.ensures task.feed task.query planned.right
    (entries_are task.feed task.query found (table_by c.in_ok-table.table) planned.exact.real.entries c.in_ok-found.ensures)
    (covers_both task.feed task.query known found (table_by c.in_ok-table.table) (planned.exact.finds refl) c.in_ok-found.ensures))
