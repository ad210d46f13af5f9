use Rattle.plan_words.specs.Request.{request_of}
use Rattle.plan_app.proofs.MadeLaws.{plan_due}
use Rattle.plan_app.proofs.planning.plan_outcome.Goals as goal

pub returns : goal.returns
returns c =
    plan_due c.args.triples _ (request_of c.args.plan.now) _ _ _ _ c.in-Ok.ensures.value c.answered.ensures.told c.answered.ensures.text c.in_ok-text.ensures
