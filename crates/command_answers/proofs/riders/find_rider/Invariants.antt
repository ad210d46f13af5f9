use Rattle.std.proofs.Common.{◌≡◌, None}
use Rattle.plain_laws.specs.Plain.{find_below}
use Rattle.feed_rows.specs.RowsById.{has_rider_id}
use Rattle.command_answers.proofs.riders.find_rider.Given as goal

abbrev pub invariant-loop-number : goal.invariant-loop-number
invariant-loop-number l = find_below l.number (has_rider_id l.feed l.id) ≡ None
