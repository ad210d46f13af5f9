-- What the second pass says where it finds no fault.
use Rattle.std.proofs.Common.{◌≡◌}
use Rattle.std.specs.Prelude.{None}
use Rattle.feed_files.specs.Names.{all_files, place}
use Rattle.plain_laws.specs.Plain.{first_below}
use Rattle.feed_faults.specs.Records.{row_count}
use Rattle.feed_faults.specs.FeedTables.{FeedTables, table_in}
use Rattle.feed_faults.specs.NetworkRelations.{forbidden_fault}
use Rattle.feed_faults.specs.FileColumns.{checks_of}
use Rattle.feed_faults.specs.RowChecks.{fails, fault_of_check, relation_fault_of_row}
use Rattle.feed_faults.specs.FirstFault.{relation_fault, first_relation_fault}
use Rattle.feed_soundness.specs.AcceptedTables.{AreRelated}
use Rattle.plain_laws.proofs.Laws.{none_either, none_below, none_in, none_when}
use Rattle.feed_soundness.proofs.FormedFiles.{placed}

-- where the second pass finds no fault, no check of a row fails
pub related : (t : FeedTables) → first_relation_fault t ≡ None → AreRelated t
unfolding relation_fault relation_fault_of_row first_relation_fault
related t none name row k check lt at =
    let whole = none_in all_files (relation_fault t) (place name) name none (placed name) in
    let rows = (none_either (forbidden_fault t name) (first_below (row_count (table_in t name)) (relation_fault_of_row t name)) whole).1 in
    let checks = none_below (relation_fault_of_row t name) (row_count (table_in t name)) row rows lt in
    none_when (fails t name check row) _ (none_in (checks_of name) (fault_of_check t name row) k check checks at)
