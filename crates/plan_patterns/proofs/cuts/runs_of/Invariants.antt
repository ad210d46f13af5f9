use Rattle.std.specs.Prelude.{◌≡◌, map, take}
use Rattle.plan_patterns.specs.declared.cuts.RunWithHalts.{RunWithHalts}
use Rattle.plan_patterns.proofs.cuts.runs_of.Given as goal

abbrev pub invariant-loop-entry : goal.invariant-loop-entry
invariant-loop-entry l = l.runs.items ≡ map (λ (entry : RunWithHalts). entry.run) (take l.entry-index l.entries)
