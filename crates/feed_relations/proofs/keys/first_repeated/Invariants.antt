use Rattle.std.proofs.Common.{◌≡◌, None}
use Rattle.plain_laws.specs.Plain.{find_below}
use Rattle.feed_faults.specs.FeedTables.{table_in}
use Rattle.feed_faults.specs.RowKeys.{is_repeated}
use Rattle.feed_faults.specs.RowChecks.{same_key}
use Rattle.feed_relations.specs.RowKeys.{row_key}
use Rattle.feed_relations.specs.Frames.{AreSeen}
use Rattle.feed_relations.proofs.KeyLaws.{key_order}
use Rattle.feed_relations.proofs.keys.first_repeated.Given as goal

abbrev pub invariant-loop-row : goal.invariant-loop-row
invariant-loop-row g l =
    (find_below l.row (is_repeated (same_key l.file (table_in l.feed l.file))) ≡ None) × AreSeen key_order (row_key l.feed l.file) l.seen l.row
