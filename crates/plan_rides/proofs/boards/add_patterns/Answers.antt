use Rattle.std.proofs.Common.{◌∙◌, subst, sym, arith}
use Rattle.std.specs.Prelude.{All}
use Rattle.plan_rides.specs.Departures.{IsRunOf}
use Rattle.plan_rides.proofs.BoardLaws.{patterns_all, patterns_more, patterns_none}
use Rattle.plan_rides.proofs.boards.add_patterns.Goals as goal

pub loop-pattern-init : goal.loop-pattern-init
loop-pattern-init c = patterns_none _ _ _ _ _

pub add_runs-requires-clause-runs : goal.add_runs-requires-clause-runs
add_runs-requires-clause-runs c =
    subst (All (IsRunOf c.args.timetable.now)) (sym c.runs.ensures) (c.requires.runs c.loop-pattern.pattern)

pub add_runs-requires-clause-boards : goal.add_runs-requires-clause-boards
add_runs-requires-clause-boards c = c.loop-pattern.invariant.many ∙ c.requires.boards

pub loop-pattern-preserved : goal.loop-pattern-preserved
loop-pattern-preserved c =
    let runs = c.runs.result.now in
    patterns_more _ _ _ _ _ runs _ _ _ c.runs.ensures c.loop-pattern.invariant c.add_runs.ensures

pub returns : goal.returns
returns c =
    let past = c.loop-pattern-test.false in
    let count = c.count-pattern-end.ensures in
    patterns_all _ _ _ _ _ _ _ (omega (arith, past, count)) c.loop-pattern.invariant
