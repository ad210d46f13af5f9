-- One move more.
use Rattle.std.proofs.Common.{◌∙◌, take_all}
use Rattle.fare_automaton.proofs.AddedLaws.{taken_more}
use Rattle.fare_automaton.proofs.steps.move_list.Goals as goal

pub loop-step-init : goal.loop-step-init
loop-step-init c = c.empty-list.ensures

pub loop-step-preserved : goal.loop-step-preserved
loop-step-preserved c =
    taken_more c.args.moves.now c.loop-step.step-index _ _ _ c.loop-step-test.true c.loop-step.invariant c.in_ok-push.ensures.ok

pub returns : goal.returns
returns c = c.loop-step.invariant ∙ take_all c.loop-step.step-index c.args.moves.now c.loop-step-test.false
