use Rattle.std.proofs.Common.{sym, ap, option_map, arith}
use Rattle.feed_walks.specs.declared.steps.Step.{Step}
use Rattle.feed_walks.proofs.PlaceLaws.{find_hit, find_miss}
use Rattle.feed_walks.proofs.steps.seconds_to.Goals as goal
use Rattle.feed_walks.proofs.steps.seconds_to.Goals.{else-place-steps-via-then-place-steps+else-steps-place, else-place-steps-via-else-place-steps}

pub returns-then-steps-place : goal.returns-then-steps-place
returns-then-steps-place c = λ rises. let is = c.place_of-place.ensures rises in ap (option_map (λ step. step.seconds.0)) (sym (find_hit (λ (step : Step). step.to.0) c.args.to.0 _ _ _ is.before c.if-place-steps.true c.if-steps-place.true))

pub returns-else-place-steps : goal.returns-else-place-steps
returns-else-place-steps c = λ rises.
    let is = c.place_of-place.ensures rises in
    ap (option_map (λ (step : Step). step.seconds.0)) (sym (find_miss (λ (step : Step). step.to.0) c.args.to.0 _ _ _ rises is (λ lt same. elim c.else-place-steps.branch [
      | else-place-steps-via-then-place-steps+else-steps-place w ↦ w.if-steps-place.false same
      | else-place-steps-via-else-place-steps w ↦ omega arith
    ])))
