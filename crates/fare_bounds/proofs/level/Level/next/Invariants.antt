-- The level is made by the rows so far.
use Rattle.fare_bounds.proofs.LevelLaws.{IsMade}
use Rattle.fare_bounds.proofs.level.Level.next.Given as goal

abbrev pub invariant-loop-row : goal.invariant-loop-row
invariant-loop-row l = IsMade l.late l.amounts l.self l.least.apart l.row-items l.level l.row-index
