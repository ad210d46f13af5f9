use Rattle.std.proofs.Common.{subst}
use Rattle.std.specs.Prelude.{IfOk}
use Rattle.feed_rows.specs.Journeys.{Asked}
use Rattle.plan_rounds.specs.Planned.{IsPlanned}
use Rattle.plan_rounds.proofs.plan.planned_by.Goals as goal

pub returns : goal.returns
returns c =
    subst (λ (a : Asked). IfOk c.planned_over.result (λ planned. IsPlanned a c.args.whole planned.0 planned.1.items)) c.of-rides.ensures
    c.planned_over.ensures
