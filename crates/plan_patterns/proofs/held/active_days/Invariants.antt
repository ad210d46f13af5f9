use Rattle.std.specs.Prelude.{◌≡◌}
use Rattle.plain_laws.specs.Plain.{list_below}
use Rattle.feed_timetable.specs.ServicesOn.{services_on}
use Rattle.plan_patterns.specs.HeldRuns.{day_after_first, first_day}
use Rattle.plan_patterns.proofs.held.active_days.Given as goal

abbrev pub invariant-loop-days : goal.invariant-loop-days
invariant-loop-days l = l.active ≡ list_below l.days (λ days. services_on l.timetable (day_after_first (first_day l.span) days).0)
