use Rattle.std.proofs.Common.{Contains, take}
use Rattle.feed_rows.specs.declared.rows.TimeframeRow.{TimeframeRow}
use Rattle.fare_timeframes.proofs.cuts.cuts_of.Given as goal

abbrev pub invariant-loop-row : goal.invariant-loop-row
invariant-loop-row l = (row : TimeframeRow) → Contains (take l.row-index l.row-items) row → Contains l.cuts.items row.start × Contains l.cuts.items row.end
