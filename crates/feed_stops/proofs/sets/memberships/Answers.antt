use Rattle.std.proofs.Common.{arith}
use Rattle.plain_laws.proofs.Laws.{joined_more}
use Rattle.feed_laws.proofs.StopSetLaws.{row_sets_at-here}
use Rattle.feed_stops.proofs.sets.memberships.Goals as goal

pub loop-row-preserved : goal.loop-row-preserved
loop-row-preserved c = λ i.
    joined_more c.loop-row.row _ _ _ _ (c.loop-row.invariant i) (row_sets_at-here _ c.loop-row.row i _ (omega arith) c.index-stops-row.is) (c.in_ok-push_row.ensures i)
