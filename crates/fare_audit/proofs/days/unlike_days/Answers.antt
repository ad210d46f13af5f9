use Rattle.std.proofs.Common.{subst, get_or, ℕ, List, take_all, take, ◌+◌, Contains, pos, ◌+ℤ◌}
use Rattle.std.proofs.lemmas.List.{take_more}
use Rattle.fare_audit.specs.Days.{AreAlike, ArePicked}
use Rattle.fare_audit.proofs.DayLaws.{picked_before, picked_more, picked_none}
use Rattle.fare_audit.proofs.days.unlike_days.Goals.{then-not-has_like+in_ok-push, else-not-has_like}
use Rattle.fare_audit.proofs.days.unlike_days.Goals as goal

pub loop-day-init : goal.loop-day-init
loop-day-init c = λ feed first are. rw c.new-picked.ensures.items (picked_none feed first c.args.reach)

pub loop-day-preserved : goal.loop-day-preserved
loop-day-preserved c =
    λ feed first are.
    let i = c.loop-day.day-index in
    let days = c.args.days.now in
    let before = c.loop-day.invariant feed first are in
    rw (take_more days i 0 c.loop-day-test.true) (elim c.if-not-has_like.branch [
      | then-not-has_like+in_ok-push w ↦ rw (w.picked-is, w.in_ok-push.ensures.items) (picked_more feed first c.args.reach (take i days) c.loop-day.picked.items (get_or days i 0) before)
      | else-not-has_like w ↦ rw w.picked-is (picked_before feed first c.args.reach (take i days) c.loop-day.picked.items (get_or days i 0) before (let P : List ℕ → Type 0 = λ ps. (k : ℕ) × Contains ps k × AreAlike feed c.args.reach (first +ℤ pos k) (first +ℤ pos (get_or days i 0)) in subst P c.deref.ensures.value (c.has_like.ensures w.if-not-has_like.false feed first are)))
    ])

pub returns : goal.returns
returns c =
    λ feed first are.
    subst (λ (ds : List ℕ). ArePicked feed first c.args.reach ds c.loop-day.picked.items) (take_all c.loop-day.day-index c.args.days.now c.loop-day-test.false) (c.loop-day.invariant feed first are)
