use Rattle.plan_rounds.proofs.PlannedLaws.{adds_nothing, adds_one}
use Rattle.plan_rounds.proofs.plan.offer_entries.Goals as goal

pub loop-entry-init : goal.loop-entry-init
loop-entry-init c = adds_nothing c.args.front.now

pub loop-entry-preserved : goal.loop-entry-preserved
loop-entry-preserved c =
    adds_one c.loop-entry.yielded c.args.front.now c.loop-entry.front c.offer.new.self c.in-Some.entry c.loop-entry.invariant
    c.in_ok-offer.ensures.covered c.in_ok-offer.ensures.still c.in_ok-offer.ensures.from
