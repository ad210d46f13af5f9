use Rattle.std.specs.Prelude.{◌≡◌}
use Rattle.plan_patterns.specs.Servings.{servings_of_first, halts_in}
use Rattle.plan_patterns.proofs.serving.servings_of.Given as goal

abbrev pub invariant-loop-number : goal.invariant-loop-number
invariant-loop-number l = l.servings.items ≡ servings_of_first (halts_in l.patterns) l.number
