-- The rows of calendar.txt by service, and the exceptions by service and day.
use Rattle.std.specs.Prelude.{ℕ, Bool, ◌==◌, ◌&&◌, ℤ, List, [], slice_get, unwrap_or}
use Rattle.std.specs.List.Sorted.{IsSortedByKey}
use Rattle.std.specs.Ordering.{nat_cmp, int_cmp, ordering_then}
use Rattle.transit_base.specs.declared.numbers.ServiceId.{ServiceId}
use Rattle.feed_rows.specs.declared.rows.ServiceRow.{ServiceRow}
use Rattle.feed_rows.specs.declared.rows.ExceptionRow.{ExceptionRow}
use Rattle.item_groups.specs.declared.groups.Grouped.{Grouped}
use Rattle.plain_laws.specs.Plain.{int_same}

-- a row with its service
abbrev pub by_service : ServiceRow → Grouped ServiceRow
by_service row = record { group = row.service.0; item = row }

-- the rows of a service
abbrev pub rows_of_service : List (List ServiceRow) → ℕ → List ServiceRow
rows_of_service rows service = unwrap_or (slice_get rows service) []

-- the exception is of the service, on the day
abbrev pub is_on : ServiceId → ℤ → ExceptionRow → Bool
is_on service day row = (row.service.0 == service.0) && int_same row.day.0 day

-- by what exceptions are sorted
abbrev pub service_day_key : ExceptionRow → ℕ × ℤ
service_day_key row = (row.service.0, row.day.0)

-- the exceptions stand by service, and those of a service by day
abbrev pub AreInOrder : List ExceptionRow → Type 0
AreInOrder rows = IsSortedByKey service_day_key (λ x y. ordering_then (nat_cmp x.0 y.0) (int_cmp x.1 y.1)) rows
