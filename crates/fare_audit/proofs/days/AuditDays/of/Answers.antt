use Rattle.std.proofs.Common.{subst, sym}
use Rattle.fare_audit.specs.declared.days.Reach.{Reach}
use Rattle.fare_audit.specs.declared.days.Reach.TheVariants.{OneDay, TwoDays, Longer}
use Rattle.fare_audit.specs.Days.{AreDaysLike}
use Rattle.fare_audit.proofs.days.AuditDays.of.Goals as goal

pub returns-in-OneDay : goal.returns-in-OneDay
returns-in-OneDay c =
    λ feed first count are lt.
    let days = subst (AreDaysLike feed first count c.args.service OneDay) (sym c.get.ensures) (are.one_day c.args.service.0 lt) in
    let P : Reach → Type 0 = λ r. AreDaysLike feed first count c.args.service r c.get.result.now in
    subst P (sym c.in-OneDay.is) days

pub returns-in-TwoDays : goal.returns-in-TwoDays
returns-in-TwoDays c =
    λ feed first count are lt.
    let days = subst (AreDaysLike feed first count c.args.service TwoDays) (sym c.get-in-TwoDays.ensures) (are.two_days c.args.service.0 lt) in
    let P : Reach → Type 0 = λ r. AreDaysLike feed first count c.args.service r c.get-in-TwoDays.result.now in
    subst P (sym c.in-TwoDays.is) days

pub returns-in-Longer : goal.returns-in-Longer
returns-in-Longer c =
    λ feed first count are lt.
    let days = subst (AreDaysLike feed first count c.args.service Longer) (sym c.get-in-Longer.ensures) (are.all c.args.service.0 lt) in
    let P : Reach → Type 0 = λ r. AreDaysLike feed first count c.args.service r c.get-in-Longer.result.now in
    subst P (sym c.in-Longer.is) days
