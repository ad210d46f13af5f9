use Rattle.std.proofs.Common.{◌≡◌, ◌∙◌, refl, sym, length, arith, true, false}
use Rattle.plan_patterns.specs.Servings.{servings_in, grouped_serving, is_pickup}
use Rattle.plan_patterns.proofs.HeldLaws.{picks_more}
use Rattle.plan_patterns.proofs.serving.add_pattern.Goals as goal
use Rattle.plan_patterns.proofs.serving.add_pattern.Goals.{then-is_pickup+in_ok-push, else-is_pickup}

pub loop-position-preserved : goal.loop-position-preserved
loop-position-preserved c =
    elim c.if-is_pickup.branch [
      | then-is_pickup+in_ok-push w ↦ rw w.servings-is (picks_more _ (is_pickup c.args.halts.now) (grouped_serving c.args.halts.now c.args.pattern) _ _ _ _ true c.loop-position.invariant w.grouped_serving.ensures (sym w.if-is_pickup.true ∙ c.is_pickup.ensures) w.in_ok-push.ensures.items)
      | else-is_pickup w ↦ rw w.servings-is (picks_more _ (is_pickup c.args.halts.now) (grouped_serving c.args.halts.now c.args.pattern) _ _ _ (grouped_serving c.args.halts.now c.args.pattern c.loop-position.position) false c.loop-position.invariant refl (sym w.if-is_pickup.false ∙ c.is_pickup.ensures) refl)
    ]

pub returns : goal.returns
unfolding servings_in
returns c =
    let few = c.requires in
    let all : c.loop-position.position ≡ length c.args.halts.now = omega arith in
    rw (← all) c.loop-position.invariant
