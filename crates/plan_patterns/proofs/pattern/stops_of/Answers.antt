use Rattle.plan_patterns.specs.declared.halts.Halt.{Halt}
use Rattle.plan_patterns.proofs.ColumnLaws.{made_all, made_next}
use Rattle.plan_patterns.proofs.pattern.stops_of.Goals as goal

pub loop-halt-preserved : goal.loop-halt-preserved
loop-halt-preserved c =
    made_next (λ (p : Halt). p.stop) c.args.halts.now c.loop-halt.halt-index _ c.loop-halt.stops.items _
    c.loop-halt-test.true c.loop-halt.invariant c.in_ok-push.ensures.items

pub loop-halt-init : goal.loop-halt-init
loop-halt-init c = c.in_ok-stops.ensures.items

pub returns : goal.returns
returns c =
    made_all (λ (p : Halt). p.stop) c.args.halts.now c.loop-halt.halt-index c.loop-halt.stops.items c.loop-halt-test.false
    c.loop-halt.invariant
