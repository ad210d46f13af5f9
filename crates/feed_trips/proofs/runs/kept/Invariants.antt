use Rattle.std.proofs.Common.{◌≡◌, take}
use Rattle.feed_trips.proofs.runs.kept.Given as goal

abbrev pub invariant-loop-i : goal.invariant-loop-i
invariant-loop-i l = l.shifts ≡ take l.i l.numbers
