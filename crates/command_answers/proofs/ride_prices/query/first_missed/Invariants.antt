use Rattle.std.proofs.Common.{◌≡◌, ◌-◌, not, None}
use Rattle.feed_rows.specs.Journeys.{catches_next}
use Rattle.plain_laws.specs.Plain.{find_below}
use Rattle.command_answers.specs.NamedRides.{rides_of}
use Rattle.command_answers.proofs.ride_prices.query.first_missed.Given as goal

abbrev pub invariant-loop-i : goal.invariant-loop-i
invariant-loop-i l = find_below (l.i - 1) (λ k. not (catches_next l.timetable (rides_of l.rides) k)) ≡ None
