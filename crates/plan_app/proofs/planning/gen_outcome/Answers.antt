use Rattle.std.proofs.Common.{◌∙◌, subst}
use Rattle.std.specs.Prelude.{IfOk}
use Rattle.commands.specs.Queries.{query_of}
use Rattle.command_answers.specs.Due.{Task, task_by}
use Rattle.command_answers.specs.Outcomes.{IsOutcome}
use Rattle.plan_app.proofs.planning.gen_outcome.Goals as goal

pub returns : goal.returns
returns c =
    subst (λ request. IfOk c.plan_over.result (IsOutcome (task_by (Task.Generates c.args.feed.now) (query_of c.args.feed.now request))))
    (c.generated_plan.ensures.value c.args.words.now.lines (c.as_str.ensures.value ∙ c.in_ok-last.ensures))
    c.plan_over.ensures
