use Rattle.std.proofs.Common.{arith}
use Rattle.plan_patterns.proofs.ColumnLaws.{calls_at_all, pattern_is}
use Rattle.plan_patterns.proofs.pattern.Pattern.of.Goals as goal

pub all_departures-requires-clause-runs : goal.all_departures-requires-clause-runs
all_departures-requires-clause-runs c = calls_at_all c.args.timetable.now c.args.halts.now c.args.runs.now c.requires.runs

pub returns-clause-built : goal.returns-clause-built
returns-clause-built c =
    pattern_is c.args.timetable.now c.args.halts.now c.args.runs.now _ c.in_ok-from_slice.ensures.items c.in_ok-from_slice-2.ensures.items
    (omega (arith, c.if-halts.false)) c.requires.runs c.in_ok-stops_of.ensures c.in_ok-all_departures.ensures

pub all_departures-requires-clause-few : goal.all_departures-requires-clause-few
all_departures-requires-clause-few c = omega (arith, c.if-halts.false)

pub returns-clause-halts : goal.returns-clause-halts
returns-clause-halts c = c.in_ok-from_slice.ensures.items

pub returns-clause-runs : goal.returns-clause-runs
returns-clause-runs c = c.in_ok-from_slice-2.ensures.items
