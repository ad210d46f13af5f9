use Rattle.plan_patterns.specs.declared.cuts.RunWithHalts.{RunWithHalts}
use Rattle.plan_patterns.proofs.ColumnLaws.{made_all, made_next}
use Rattle.plan_patterns.proofs.cuts.runs_of.Goals as goal

pub loop-entry-preserved : goal.loop-entry-preserved
loop-entry-preserved c =
    made_next (λ (entry : RunWithHalts). entry.run) c.args.entries.now c.loop-entry.entry-index _ c.loop-entry.runs.items _
    c.loop-entry-test.true c.loop-entry.invariant c.in_ok-push.ensures.items

pub loop-entry-init : goal.loop-entry-init
loop-entry-init c = c.in_ok-runs.ensures.items

pub returns : goal.returns
returns c =
    made_all (λ (entry : RunWithHalts). entry.run) c.args.entries.now c.loop-entry.entry-index c.loop-entry.runs.items
    c.loop-entry-test.false c.loop-entry.invariant
