use Rattle.std.proofs.Common.{◌≡◌, None}
use Rattle.plain_laws.specs.Plain.{find_below}
use Rattle.feed_faults.specs.RowChecks.{fails}
use Rattle.feed_relations.proofs.pass.first_failing.Given as goal

abbrev pub invariant-loop-row : goal.invariant-loop-row
invariant-loop-row g l = find_below l.row (fails l.feed l.file l.rule) ≡ None
