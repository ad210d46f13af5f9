use Rattle.std.proofs.Common.{◌≡◌, None}
use Rattle.plain_laws.specs.Plain.{find_below}
use Rattle.feed_rows.specs.RowsById.{has_trip_id}
use Rattle.feed_trips.proofs.ids.trip_with.Given as goal

abbrev pub invariant-loop-row : goal.invariant-loop-row
invariant-loop-row l = find_below l.row (has_trip_id l.feed l.id) ≡ None
