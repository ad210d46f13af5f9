-- The calls and the frequency rows of a feed, trip by trip.
use Rattle.std.specs.Prelude.{◌≡◌, ◌<◌, ◌≤◌, ◌⊎◌, List, length}
use Rattle.feed_rows.specs.declared.journeys.Call.{Call}
use Rattle.feed_rows.specs.declared.rows.FrequencyRow.{FrequencyRow}
use Rattle.feed_rows.specs.declared.rows.StopTimeRow.{StopTimeRow}
use Rattle.feed_rows.specs.FeedRows.{FeedRows}
use Rattle.feed_rows.specs.Calls.{calls_of}
use Rattle.feed_rows.specs.Shifts.{trip_frequencies}
use Rattle.plain_laws.specs.Plain.{list_below}

-- a row doesn't come after another: by trip, and within a trip by sequence
abbrev pub IsInOrder : StopTimeRow → StopTimeRow → Type 0
IsInOrder a b = (a.trip.0 < b.trip.0) ⊎ ((a.trip.0 ≡ b.trip.0) × (a.sequence ≤ b.sequence))

-- the calls of each trip
abbrev pub trip_calls : FeedRows → List (List Call)
trip_calls feed = list_below (length feed.trips) (λ t. calls_of feed (record { 0 = t }))

-- the frequency rows of each trip, in file order
abbrev pub trip_runs : FeedRows → List (List FrequencyRow)
trip_runs feed = list_below (length feed.trips) (λ t. trip_frequencies feed (record { 0 = t }))
