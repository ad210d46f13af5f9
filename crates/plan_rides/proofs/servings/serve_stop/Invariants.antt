use Rattle.plan_rides.proofs.ServedLaws.{ListsTimed}
use Rattle.plan_rides.proofs.servings.serve_stop.Given as goal

abbrev pub invariant-loop-k : goal.invariant-loop-k
invariant-loop-k l = ListsTimed l.patterns.feed l.span l.patterns.patterns l.stop.0 l.servings l.k l.served.items
