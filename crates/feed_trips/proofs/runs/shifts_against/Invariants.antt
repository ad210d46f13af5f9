use Rattle.std.proofs.Common.{◌≡◌, take}
use Rattle.feed_trips.specs.Runs.{shifts_against}
use Rattle.feed_trips.proofs.runs.shifts_against.Given as goal

abbrev pub invariant-loop-row : goal.invariant-loop-row
invariant-loop-row l = l.shifts.items ≡ shifts_against l.first (take l.row-index l.rows)
