-- Which services are active on a day, listed by their numbers.
use Rattle.std.specs.Prelude.{Bool, List, length, ℤ}
use Rattle.feed_rows.specs.FeedRows.{FeedRows}
use Rattle.feed_rows.specs.ServiceDays.{is_active}
use Rattle.plain_laws.specs.Plain.{list_below}

abbrev pub services_on : FeedRows → ℤ → List Bool
services_on feed day = list_below (length feed.service_names) (λ s. is_active feed (record { 0 = s }) day)
