use Rattle.std.proofs.Common.{subst, take_all, List}
use Rattle.std.proofs.lemmas.List.{take_more}
use Rattle.transit_base.specs.declared.numbers.RuleId.{RuleId}
use Rattle.fare_audit.specs.Found.{MarksAll}
use Rattle.fare_audit.proofs.SetLaws.{marks_more, marks_none, marks_past}
use Rattle.fare_audit.proofs.judge.mark.Goals.{then-rule-used, else-rule-used}
use Rattle.fare_audit.proofs.judge.mark.Goals as goal

pub loop-rule-init : goal.loop-rule-init
loop-rule-init c = marks_none c.args.used.now

pub loop-rule-preserved : goal.loop-rule-preserved
loop-rule-preserved c =
    let i = c.loop-rule.rule-index in
    let none : RuleId = record { 0 = 0 } in
    rw (take_more c.args.rules.now i none c.loop-rule-test.true) (elim c.if-rule-used.branch [
      | then-rule-used w ↦ rw w.used-is (marks_more _ _ c.args.used.now c.loop-rule.used c.loop-rule.invariant w.if-rule-used.true)
      | else-rule-used w ↦ rw w.used-is (marks_past _ _ c.args.used.now c.loop-rule.used c.loop-rule.invariant w.if-rule-used.false)
    ])

pub returns-clause-marks : goal.returns-clause-marks
returns-clause-marks c =
    let P : List RuleId → Type 0 = λ rs. MarksAll rs c.args.used.now c.loop-rule.used in
    subst P (take_all c.loop-rule.rule-index c.args.rules.now c.loop-rule-test.false) c.loop-rule.invariant
