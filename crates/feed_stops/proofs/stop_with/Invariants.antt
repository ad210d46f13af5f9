use Rattle.std.proofs.Common.{◌≡◌, None}
use Rattle.plain_laws.specs.Plain.{find_below}
use Rattle.feed_rows.specs.RowsById.{has_stop_id}
use Rattle.feed_stops.proofs.stop_with.Given as goal

abbrev pub invariant-loop-row : goal.invariant-loop-row
invariant-loop-row l = find_below l.row (has_stop_id l.feed l.id) ≡ None
