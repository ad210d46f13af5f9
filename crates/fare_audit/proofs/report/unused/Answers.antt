use Rattle.std.proofs.Common.{◌∙◌, ap, ℕ, ◌++◌, ◌∷◌, []}
use Rattle.transit_base.specs.declared.numbers.RuleId.{RuleId}
use Rattle.fare_audit.proofs.SetLaws.{marked_is}
use Rattle.fare_audit.proofs.ReportLaws.{unused_less, unused_more}
use Rattle.fare_audit.proofs.report.unused.Goals.{then-not-used-number+in_ok-rule_at+in_ok-push, else-not-used-number}
use Rattle.fare_audit.proofs.report.unused.Goals as goal

rule_id : ℕ → RuleId
rule_id n = record { 0 = n }

pub loop-number-preserved : goal.loop-number-preserved
unfolding rule_id
loop-number-preserved c =
    let used = c.args.used.now in
    let n = c.loop-number.number in
    let rules = c.loop-number.rules.items in
    elim c.if-not-used-number.branch [
      | then-not-used-number+in_ok-rule_at+in_ok-push w ↦ rw (w.rules-is, w.in_ok-push.ensures.items) (ap (λ (k : ℕ). rules ++ rule_id k ∷ []) w.in_ok-rule_at.ensures ∙ unused_more used rules n (marked_is used n ∙ w.if-not-used-number.true) c.loop-number.invariant)
      | else-not-used-number w ↦ rw w.rules-is (unused_less used rules n (marked_is used n ∙ w.if-not-used-number.false) c.loop-number.invariant)
    ]
