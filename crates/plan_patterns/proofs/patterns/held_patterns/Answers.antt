use Rattle.std.proofs.Common.{sym, subst}
use Rattle.std.proofs.lemmas.Result.{IfOk-weaker}
use Rattle.plan_patterns.specs.Runs.{AreHeld}
use Rattle.plan_patterns.proofs.GroupingLaws.{grouped}
use Rattle.plan_patterns.proofs.patterns.held_patterns.Goals as goal

pub returns-clause-built : goal.returns-clause-built
returns-clause-built c = IfOk-weaker c.patterns_of.result _ _ (λ patterns are. are.cut.built) c.patterns_of.ensures

pub returns-clause-held : goal.returns-clause-held
returns-clause-held c =
    let held = subst (AreHeld c.args.timetable.now c.args.span.now c.args.trips.now) (sym c.deref.ensures.value) c.in_ok-held.ensures in
    IfOk-weaker c.patterns_of.result _ _
    (λ patterns are. grouped c.args.timetable.now c.args.span.now c.args.trips.now c.deref.result.now are.in_order patterns.items held are.moved are.cut) c.patterns_of.ensures
