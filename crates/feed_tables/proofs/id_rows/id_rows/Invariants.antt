use Rattle.feed_tables.proofs.IdLaws.{AreFirstRows}
use Rattle.feed_tables.proofs.id_rows.id_rows.Given as goal

abbrev pub invariant-loop-row : goal.invariant-loop-row
invariant-loop-row l = AreFirstRows l.table l.name l.row l.rows.items
