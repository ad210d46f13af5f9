use Rattle.plan_rides.proofs.MarkLaws.{marks_start, marks_own, marks_walk, marks_near}
use Rattle.plan_rides.proofs.sought.mark_from.Goals as goal

pub loop-k-init : goal.loop-k-init
loop-k-init c = marks_start _ _ _ _ c.mark.ensures

pub loop-k-preserved : goal.loop-k-preserved
loop-k-preserved c = marks_walk _ _ _ _ _ _ _ c.loop-k-test.true c.loop-k.invariant c.mark-in-loop-k.ensures

pub returns-clause-adds : goal.returns-clause-adds
returns-clause-adds c = marks_own _ _ _ _ _ c.loop-k.invariant

pub returns-clause-all : goal.returns-clause-all
returns-clause-all c = λ query. marks_near c.args.timetable.now query c.args.first _ _ _ _ c.walks_from-walks.ensures c.loop-k-test.false c.requires c.loop-k.invariant
