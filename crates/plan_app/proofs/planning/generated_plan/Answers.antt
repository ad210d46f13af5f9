use Rattle.std.specs.Fmt.{digits}
use Rattle.jiff_core.specs.Calendar.{days_of_years, days_of_months, day_count, days_from_civil}
use Rattle.plan_app.proofs.planning.generated_plan.Goals as goal

pub returns-clause-value : goal.returns-clause-value
unfolding digits days_from_civil day_count days_of_years days_of_months
returns-clause-value c = λ lines last. rw (last, c.at.ensures)
