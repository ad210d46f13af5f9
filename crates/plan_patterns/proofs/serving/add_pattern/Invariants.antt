use Rattle.std.specs.Prelude.{◌≡◌, ◌++◌}
use Rattle.plan_patterns.specs.Servings.{servings_before}
use Rattle.plan_patterns.proofs.serving.add_pattern.Given as goal

abbrev pub invariant-loop-position : goal.invariant-loop-position
invariant-loop-position l = l.servings.items ≡ l.fn.servings.items ++ servings_before l.halts l.pattern l.position
