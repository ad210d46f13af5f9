use Rattle.std.specs.Prelude.{◌≡◌, map, take}
use Rattle.plan_patterns.specs.Halts.{halt_of}
use Rattle.plan_patterns.proofs.halts.halts_of.Given as goal

abbrev pub invariant-loop-position : goal.invariant-loop-position
invariant-loop-position l = l.halts.items ≡ map halt_of (take l.position l.calls)
