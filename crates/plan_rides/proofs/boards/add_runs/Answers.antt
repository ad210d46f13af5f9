use Rattle.plan_rides.proofs.BoardLaws.{runs_all, runs_more, runs_none, runs_own}
use Rattle.plan_rides.proofs.boards.add_runs.Goals as goal
use Rattle.plan_rides.proofs.boards.add_runs.Goals.{then-begins_trip, else-begins_trip}

pub loop-k-init : goal.loop-k-init
loop-k-init c = runs_none _ _ _ _ _

pub loop-k-preserved : goal.loop-k-preserved
loop-k-preserved c =
    elim c.if-begins_trip.branch [
      | then-begins_trip w ↦
          rw w.boards-is
          (runs_more c.args.timetable.now c.args.window c.args.spans.now c.args.runs.now c.loop-k.k _ _ _ _
          c.loop-k-test.true c.loop-k.invariant w.add_trip.ensures)
      | else-begins_trip w ↦
          rw w.boards-is
          (runs_own c.args.timetable.now c.args.window c.args.spans.now c.args.runs.now c.loop-k.k _ _
          (c.begins_trip.ensures w.if-begins_trip.false) c.loop-k.invariant)
    ]

pub returns : goal.returns
returns c = runs_all _ _ _ _ _ _ _ c.loop-k-test.false c.loop-k.invariant
