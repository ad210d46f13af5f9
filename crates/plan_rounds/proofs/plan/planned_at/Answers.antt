use Rattle.std.proofs.Common.{subst, sym}
use Rattle.plan_rides.specs.InTime.{IsUsualQuery}
use Rattle.plan_rounds.proofs.plan.planned_at.Goals as goal

pub deadline-requires : goal.deadline-requires
deadline-requires c = record { usual = subst IsUsualQuery (sym c.query-query.ensures.is) c.query-query.ensures.usual }
