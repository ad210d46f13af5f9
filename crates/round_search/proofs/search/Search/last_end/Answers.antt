use Rattle.std.proofs.Common.{subst, sym}
use Rattle.plan_rides.specs.InTime.{IsUsualQuery}
use Rattle.round_search.proofs.search.Search.last_end.Goals as goal

pub deadline-requires : goal.deadline-requires
deadline-requires g c = record { usual = subst IsUsualQuery (sym c.query.ensures.is) c.query.ensures.usual }
