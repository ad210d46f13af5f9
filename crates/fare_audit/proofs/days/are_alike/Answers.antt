use Rattle.std.proofs.Common.{ap, ℕ, pos, ◌+ℤ◌, subst, sym}
use Rattle.fare_audit.specs.declared.days.Reach.{Reach}
use Rattle.fare_audit.specs.Days.{AreAlike}
use Rattle.std.proofs.lemmas.Bool.{eqb-true}
use Rattle.fare_audit.proofs.DayLaws.{alike_two}
use Rattle.fare_audit.proofs.days.are_alike.Goals as goal

pub returns-in-OneDay : goal.returns-in-OneDay
returns-in-OneDay c = λ same feed first are.
    let P : Reach → Type 0 = λ r. AreAlike feed r (first +ℤ pos c.args.a) (first +ℤ pos c.args.b) in
    subst P (sym c.in-OneDay.is) (c.is_same_kind.ensures same feed first are)

pub returns-then-is_same_kind : goal.returns-then-is_same_kind
returns-then-is_same_kind c =
    λ same feed first are.
    let P : Reach → Type 0 = λ r. AreAlike feed r (first +ℤ pos c.args.a) (first +ℤ pos c.args.b) in
    subst P (sym c.in-TwoDays.is) (alike_two feed first c.args.a c.args.b (c.is_same_kind-in-TwoDays.ensures c.if-is_same_kind.true feed first are)
    (c.is_same_kind-then-is_same_kind.ensures same feed first are))

pub returns-in-Longer : goal.returns-in-Longer
returns-in-Longer c = λ same feed first are.
    let P : Reach → Type 0 = λ r. AreAlike feed r (first +ℤ pos c.args.a) (first +ℤ pos c.args.b) in
    subst P (sym c.in-Longer.is) (ap (λ (n : ℕ). first +ℤ pos n) (eqb-true c.args.a c.args.b same))
