-- The moves so far.
use Rattle.std.proofs.Common.{◌≡◌, take}
use Rattle.fare_automaton.proofs.steps.move_list.Given as goal

abbrev pub invariant-loop-step : goal.invariant-loop-step
invariant-loop-step l = l.list ≡ take l.step-index l.moves
