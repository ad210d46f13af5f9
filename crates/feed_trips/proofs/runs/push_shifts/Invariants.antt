use Rattle.std.proofs.Common.{◌≡◌, ◌+◌, ◌*◌, ◌++◌, map, pos, ◌-ℤ◌}
use Rattle.plain_laws.specs.Plain.{list_below}
use Rattle.feed_trips.proofs.runs.push_shifts.Given as goal

abbrev pub invariant-loop-run : goal.invariant-loop-run
invariant-loop-run l = l.shifts.items ≡ l.initial.shifts.items ++ map (λ start. pos start -ℤ pos l.first) (list_below l.run (λ x. l.row.start + x * l.row.headway))
