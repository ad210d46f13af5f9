use Rattle.std.specs.Prelude.{◌≡◌, map, take}
use Rattle.plan_patterns.specs.Halts.{run_halts}
use Rattle.plan_patterns.proofs.halts.all_halts.Given as goal

abbrev pub invariant-loop-number : goal.invariant-loop-number
invariant-loop-number l = l.halts ≡ map (run_halts l.timetable) (take l.number l.runs)
