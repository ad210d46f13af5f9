use Rattle.std.specs.Prelude.{take}
use Rattle.plan_patterns.specs.Cuts.{AreWithHalts}
use Rattle.plan_patterns.proofs.cuts.with_halts.Given as goal

abbrev pub invariant-loop-number : goal.invariant-loop-number
invariant-loop-number l = AreWithHalts (take l.number l.halts) (take l.number l.runs) l.entries.items
