use Rattle.std.specs.Prelude.{◌≡◌, map, take}
use Rattle.plan_patterns.specs.declared.halts.Halt.{Halt}
use Rattle.plan_patterns.proofs.pattern.stops_of.Given as goal

abbrev pub invariant-loop-halt : goal.invariant-loop-halt
invariant-loop-halt l = l.stops.items ≡ map (λ (p : Halt). p.stop) (take l.halt-index l.halts)
