use Rattle.std.proofs.Common.{◌≡◌, None}
use Rattle.plain_laws.specs.Plain.{first_below}
use Rattle.feed_files.specs.declared.names.FileName.TheVariants as file
use Rattle.feed_faults.specs.RowChecks.{relation_fault_of_row}
use Rattle.feed_relations.proofs.calls.fault_of_calls.Given as goal

abbrev pub invariant-loop-row : goal.invariant-loop-row
invariant-loop-row g l = first_below l.row (relation_fault_of_row l.feed file.StopTimes) ≡ None
