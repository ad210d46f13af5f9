use Rattle.plan_patterns.proofs.ColumnLaws.{first_more}
use Rattle.plan_patterns.proofs.pattern.boardings_at.Goals as goal

pub loop-number-preserved : goal.loop-number-preserved
loop-number-preserved c =
    first_more c.args.timetable.now c.args.runs.now c.args.position c.loop-number.number c.loop-number.boardings.items _ c.boarding_of.result
    c.loop-number.invariant c.boarding_of.ensures.is c.boarding_of.ensures.number c.in_ok-push.ensures.items
