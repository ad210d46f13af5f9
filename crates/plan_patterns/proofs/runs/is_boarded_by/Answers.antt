use Rattle.plan_patterns.proofs.ColumnLaws.{timed_at}
use Rattle.plan_patterns.proofs.runs.is_boarded_by.Goals as goal

pub boards_in_time-requires-clause-time : goal.boards_in_time-requires-clause-time
boards_in_time-requires-clause-time c = (timed_at c.args.calls.now c.args.at c.at.result c.requires.times c.at.ensures).1
