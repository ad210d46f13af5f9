use Rattle.std.proofs.Common.{◌∙◌, sym, ap, subst, ◌+◌}
use Rattle.feed_rows.specs.ServiceDays.{is_active}
use Rattle.fare_audit.specs.Days.{AreActiveDays}
use Rattle.fare_audit.proofs.DayLaws.{active_less, active_more, active_none}
use Rattle.fare_audit.proofs.days.active_days.Goals.{then-active+in_ok-push, else-active}
use Rattle.fare_audit.proofs.days.active_days.Goals as goal

pub loop-number-init : goal.loop-number-init
loop-number-init c = λ feed are. rw c.new-days.ensures.items (active_none feed c.args.first.0 c.args.service)

pub loop-number-preserved : goal.loop-number-preserved
loop-number-preserved c =
    λ feed are.
    let n = c.loop-number.number in
    let on = ap (is_active feed c.args.service) (sym c.day_after.ensures) ∙ sym (c.active.ensures feed are) in
    elim c.if-active.branch [
      | then-active+in_ok-push w ↦ rw w.days-is (subst (AreActiveDays feed c.args.first.0 (n + 1) c.args.service) (sym w.in_ok-push.ensures.items) (active_more feed c.args.first.0 c.args.service n c.loop-number.days.items (c.loop-number.invariant feed are) (on ∙ w.if-active.true)))
      | else-active w ↦ rw w.days-is (active_less feed c.args.first.0 c.args.service n c.loop-number.days.items (c.loop-number.invariant feed are) (on ∙ w.if-active.false))
    ]
