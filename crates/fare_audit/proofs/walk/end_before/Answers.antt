use Rattle.std.proofs.Common.{All, ℤ, subst, take_all, arith}
use mir.Syntax.{w64}
use mir.Val.{of_z, to_z}
use Rattle.std.proofs.lemmas.Int.{to_z-of_z}
use Rattle.fare_audit.specs.Days.{EndsBefore}
use Rattle.fare_audit.proofs.RunLaws.{all_more}
use Rattle.fare_audit.proofs.walk.end_before.Goals as goal

pub loop-position-preserved : goal.loop-position-preserved
loop-position-preserved c =
    all_more (EndsBefore (to_z w64 (of_z w64 c.args.shift)) (to_z w64 (of_z w64 c.args.end))) c.args.calls.now c.loop-position.position c.at.result
    c.at.ensures c.loop-position.invariant (c.ends_before.ensures c.if-not-ends_before.false)

pub returns : goal.returns
returns c = λ same.
    let calls = c.args.calls.now in
    let shift = c.args.shift in
    let end = c.args.end in
    let P : ℤ → ℤ → Type 0 = λ s e. All (EndsBefore s e) calls in
    let all = subst (All (EndsBefore (to_z w64 (of_z w64 shift)) (to_z w64 (of_z w64 end)))) (take_all c.loop-position.position calls (omega arith)) c.loop-position.invariant in
    subst (λ s. P s end) (to_z-of_z w64 shift c.ranges.shift) (subst (P (to_z w64 (of_z w64 shift))) (to_z-of_z w64 end c.ranges.end) all)
