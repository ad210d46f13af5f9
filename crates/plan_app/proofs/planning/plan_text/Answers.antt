use Rattle.std.proofs.Common.{sym, subst}
use Rattle.std.specs.Prelude.{IfOk}
use Rattle.command_answers.specs.Due.{DoTask}
use Rattle.plan_app.specs.Made.{plan_task}
use Rattle.plan_app.proofs.planning.plan_text.Goals as goal

pub returns-then-triples : goal.returns-then-triples
returns-then-triples c =
    subst (λ triples. IfOk c.gen_text.result (DoTask (plan_task triples c.args.timetable.now c.args.stats c.args.query.now)))
    (sym c.if-triples.true)
    c.gen_text.ensures
