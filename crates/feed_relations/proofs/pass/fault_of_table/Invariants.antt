use Rattle.feed_faults.specs.Records.{row_count}
use Rattle.feed_faults.specs.FeedTables.{table_in}
use Rattle.feed_faults.specs.FileColumns.{checks_of}
use Rattle.feed_faults.specs.RowChecks.{fault_of_check}
use Rattle.feed_relations.proofs.LeastLaws.{IsLeast}
use Rattle.feed_relations.proofs.pass.fault_of_table.Given as goal

abbrev pub invariant-loop-i : goal.invariant-loop-i
invariant-loop-i g l = IsLeast (checks_of l.file) (fault_of_check l.feed l.file) l.i (row_count (table_in l.feed l.file)) l.below l.fault
