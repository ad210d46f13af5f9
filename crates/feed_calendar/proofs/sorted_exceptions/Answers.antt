use Rattle.std.proofs.Common.{rules}
use Rattle.std.proofs.lemmas.List.Sorted.{answers_always}
use Rattle.feed_calendar.specs.CalendarRows.{service_day_key}
use Rattle.feed_calendar.proofs.sorted_exceptions.Goals as goal

pub returns-clause-sorted : goal.returns-clause-sorted
returns-clause-sorted c = c.sort_unstable_by_key.ensures.sorted service_day_key (answers_always _ _ _ (λ f a r g h. search rules))
