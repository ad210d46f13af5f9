use Rattle.std.proofs.Common.{◌≡◌, ◌==◌, None}
use Rattle.plain_laws.specs.Plain.{at_and, find_below}
use Rattle.feed_timetable.proofs.timetable.Timetable.call_position.Given as goal

abbrev pub invariant-loop-position : goal.invariant-loop-position
invariant-loop-position l = find_below l.position (λ i. at_and l.calls i (λ call. call.sequence == l.sequence)) ≡ None
