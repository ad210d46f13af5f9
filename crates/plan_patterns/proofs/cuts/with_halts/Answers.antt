use Rattle.std.proofs.Common.{rules}
use Rattle.plan_patterns.proofs.CutLaws.{entries_more}
use Rattle.plan_patterns.proofs.cuts.with_halts.Goals as goal

pub loop-number-preserved : goal.loop-number-preserved
loop-number-preserved c = entries_more _ _ _ _ _ _ c.loop-number-test.true c.loop-number.invariant c.group.ensures (search rules) c.in_ok-push.ensures.items
