use Rattle.plan_patterns.proofs.ColumnLaws.{timed_at}
use Rattle.plan_patterns.proofs.runs.ends_at.Goals as goal

pub alights_in_time-requires-clause-time : goal.alights_in_time-requires-clause-time
alights_in_time-requires-clause-time c = (timed_at c.args.calls.now c.args.at c.at.result c.requires.times c.at.ensures).0
