use Rattle.std.proofs.Common.{rules, pos, ◌+ℤ◌, ℤ, subst, ◌≤ℤ◌, ◌<ℤ◌}
use Rattle.std.proofs.lemmas.Int.{to_z-of_z}
use mir.Syntax.{w64}
use mir.Val.{SFits, of_z, to_z}
use Rattle.fare_audit.proofs.SignedLaws.{told_sum}
use Rattle.fare_audit.proofs.walk.ends_before.Goals as goal

pub returns-then-is_between : goal.returns-then-is_between
returns-then-is_between c =
    λ same.
    let shift = c.args.shift in
    let call = c.args.call.now in
    let f1 : SFits w64 (shift +ℤ pos call.arrival) = search rules in
    let f2 : SFits w64 (shift +ℤ pos call.departure) = search rules in
    let g1 : SFits w64 (pos call.arrival) = search rules in
    let g2 : SFits w64 (pos call.departure) = search rules in
    let a = told_sum shift c.from.result call.arrival c.from.ensures c.ranges.shift g1 f1 in
    let d = told_sum shift c.from-then-is_between.result call.departure c.from-then-is_between.ensures c.ranges.shift g2 f2 in
    let e = to_z-of_z w64 c.args.end c.ranges.end in
    let P : ℤ → ℤ → Type 0 = λ z m. (pos 0 ≤ℤ z) × (z <ℤ m) in (
      subst (λ m. P (shift +ℤ pos call.arrival) m) e (subst (λ z. P z (to_z w64 (of_z w64 c.args.end))) a (c.is_between.ensures c.if-is_between.true)),
      subst (λ m. P (shift +ℤ pos call.departure) m) e (subst (λ z. P z (to_z w64 (of_z w64 c.args.end))) d (c.is_between-then-is_between.ensures same)),
    )
