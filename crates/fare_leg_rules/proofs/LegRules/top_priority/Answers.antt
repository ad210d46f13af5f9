use Rattle.fare_leg_rules.proofs.OrderLaws.{own_has, top_among}
use Rattle.fare_leg_rules.proofs.LegRules.top_priority.Goals as goal

pub returns : goal.returns
returns c = λ feed are.
    let rules = c.args.self.now in
    let leg = c.args.leg.now in
    let first = c.top_candidate-top.result in
    let common = rw c.deref.ensures.value at c.top_candidate-top.ensures in
    let own = rw c.own.ensures at c.top_candidate.ensures in
    top_among feed rules are leg first c.top_candidate.result (common are.common.rises) (own (own_has feed rules are leg).rises)
