use Rattle.std.proofs.Common.{◌≡◌, None}
use Rattle.plain_laws.specs.Plain.{find_below}
use Rattle.feed_rows.specs.RowsById.{is_default_rider}
use Rattle.command_answers.proofs.riders.first_marked.Given as goal

abbrev pub invariant-loop-number : goal.invariant-loop-number
invariant-loop-number l = find_below l.number (is_default_rider l.feed) ≡ None
