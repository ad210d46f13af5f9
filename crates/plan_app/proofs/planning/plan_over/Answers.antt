use Rattle.std.proofs.Common.{subst}
use Rattle.std.specs.Prelude.{IfOk}
use Rattle.command_answers.specs.Outcomes.{IsOutcome}
use Rattle.plan_app.specs.Made.{planned}
use Rattle.plan_words.specs.Request.{request_of}
use Rattle.plan_app.proofs.planning.plan_over.Goals as goal

pub returns-in-Ok : goal.returns-in-Ok
returns-in-Ok c =
    subst (λ feed. IfOk c.plan_outcome.result (IsOutcome (planned c.args.triples feed (request_of c.args.plan.now)))) c.in-Ok.ensures c.plan_outcome.ensures
