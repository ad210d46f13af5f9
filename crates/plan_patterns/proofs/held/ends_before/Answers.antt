use Rattle.std.proofs.Common.{◌-◌}
use Rattle.plan_patterns.proofs.ColumnLaws.{timed_at}
use Rattle.plan_patterns.proofs.held.ends_before.Goals as goal

pub moment-requires-clause-time : goal.moment-requires-clause-time
moment-requires-clause-time c = (timed_at c.args.calls.now (c.len.result - 1) c.at-last.result c.requires.times c.at-last.ensures).0
