use Rattle.std.proofs.Common.{◌≡◌}
use Rattle.feed_rows.specs.ServiceDays.{is_active}
use Rattle.plain_laws.specs.Plain.{list_below}
use Rattle.feed_timetable.proofs.timetable.Timetable.services_on.Given as goal

abbrev pub invariant-loop-service : goal.invariant-loop-service
invariant-loop-service l = l.active.items ≡ list_below l.service (λ s. is_active l.self (record { 0 = s }) l.day.0)
