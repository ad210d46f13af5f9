-- Days of dates as numbers, and the checks of the second pass that compare days.
use Rattle.std.proofs.Common.{◌≡◌, ℕ, List, [], ◌∷◌, None, refl, arith}
use Rattle.std.specs.Prelude.{codes, pos}
use Rattle.jiff_core.specs.Calendar.{days_from_civil}
use Rattle.jiff_core.proofs.CalendarLemmas.{day_count-epoch}
use Rattle.jiff_core.proofs.MarchLemmas.{day_count-early, day_count-late}
use Rattle.transit_base.specs.Dates.{day_number}
use Rattle.feed_files.specs.declared.names.FileName.TheVariants as file
use Rattle.feed_files.specs.declared.names.ColumnName.TheVariants as column
use Rattle.feed_files.specs.declared.faults.FaultKind.TheVariants as kind
use Rattle.feed_faults.specs.Records.{FileTable}
use Rattle.feed_faults.specs.FeedTables.{FeedTables}
use Rattle.feed_faults.specs.FirstFault.{first_relation_fault}
use Rattle.feed_faults.specs.OnLiterals.{relations_on_literals}
use Rattle.feed_faults.proofs.Expected.{fault}

-- the days of some dates
january_1 : day_number 2025 1 1 ≡ pos 20089
unfolding days_from_civil
january_1 = rw (day_count-early (pos 2025) 12024 1 1 refl (omega arith) (omega arith) (omega arith), day_count-epoch) refl

june_1 : day_number 2025 6 1 ≡ pos 20240
unfolding days_from_civil
june_1 = rw (day_count-late (pos 2025) 12025 6 1 refl (omega arith) (omega arith) (omega arith), day_count-epoch) refl

june_2 : day_number 2025 6 2 ≡ pos 20241
unfolding days_from_civil
june_2 = rw (day_count-late (pos 2025) 12025 6 2 refl (omega arith) (omega arith) (omega arith), day_count-epoch) refl

december_31 : day_number 2025 12 31 ≡ pos 20453
unfolding days_from_civil
december_31 = rw (day_count-late (pos 2025) 12025 12 31 refl (omega arith) (omega arith) (omega arith), day_count-epoch) refl

-- a feed of these calendars alone, which no trip uses
calendars : FileTable → FileTable → FeedTables
calendars calendar dates = [] ∷ [] ∷ [] ∷ [] ∷ calendar ∷ dates ∷ []

-- the calendar of a service with these dates
abbrev service_days : List ℕ → List ℕ → FileTable
service_days first last = (codes "service_id" ∷ codes "start_date" ∷ codes "end_date" ∷ []) ∷ (codes "W" ∷ first ∷ last ∷ []) ∷ []

-- days in order, one day alone, and days that are reversed
in_order : first_relation_fault (calendars (service_days (codes "20250101") (codes "20251231")) []) ≡ None
unfolding relations_on_literals calendars
in_order = rw (january_1, december_31) refl

one_day : first_relation_fault (calendars (service_days (codes "20250602") (codes "20250602")) []) ≡ None
unfolding relations_on_literals calendars
one_day = rw june_2 refl

reversed : first_relation_fault (calendars (service_days (codes "20250602") (codes "20250601")) []) ≡ fault kind.DatesReversed file.Calendar 1 column.EndDate
unfolding relations_on_literals calendars
reversed = rw (june_1, june_2) refl

-- exceptions of a service
abbrev exceptions : List ℕ → List ℕ → FileTable
exceptions first second =
    (codes "service_id" ∷ codes "date" ∷ codes "exception_type" ∷ []) ∷ (codes "W" ∷ first ∷ codes "1" ∷ []) ∷ (codes "V" ∷ second ∷ codes "1" ∷ []) ∷ (codes "W" ∷ second ∷ codes "2" ∷ []) ∷ []

-- two days, and one day twice
two_days : first_relation_fault (calendars [] (exceptions (codes "20250601") (codes "20250602"))) ≡ None
unfolding relations_on_literals calendars
two_days = rw (june_1, june_2) refl

day_twice : first_relation_fault (calendars [] (exceptions (codes "20250602") (codes "20250602"))) ≡ fault kind.DoubledKey file.CalendarDates 3 column.Date
unfolding relations_on_literals calendars
day_twice = rw june_2 refl
