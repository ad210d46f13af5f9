use Rattle.std.proofs.Common.{subst}
use Rattle.std.specs.Prelude.{IfOk}
use Rattle.commands.specs.PriceQueries.{price_query_of}
use Rattle.command_answers.specs.Due.{Task, task_by}
use Rattle.command_answers.specs.Outcomes.{IsOutcome}
use Rattle.plan_words.specs.Request.{price_request}
use Rattle.plan_app.proofs.planning.price_over.Goals as goal

pub returns-in-Ok : goal.returns-in-Ok
returns-in-Ok c =
    subst (λ feed. IfOk c.price_outcome.result (IsOutcome (task_by (Task.Prices feed) (price_query_of feed (price_request c.args.words.now))))) c.in-Ok.ensures c.price_outcome.ensures
