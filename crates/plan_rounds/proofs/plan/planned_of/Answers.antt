use Rattle.std.proofs.Common.{subst}
use Rattle.std.specs.Prelude.{IfOk}
use Rattle.feed_rows.specs.Journeys.{asked}
use Rattle.plan_rides.specs.Scopes.{HeldFor}
use Rattle.plan_rounds.specs.Planned.{IsPlanned}
use Rattle.plan_rounds.proofs.plan.planned_of.Goals as goal

pub returns-in-Ok : goal.returns-in-Ok
returns-in-Ok c =
    subst (λ (r : HeldFor). IfOk c.planned_by.result (λ planned. IsPlanned (asked r.feed c.args.query.now) c.args.whole planned.0 planned.1.items))
    c.in-Ok.ensures c.planned_by.ensures
