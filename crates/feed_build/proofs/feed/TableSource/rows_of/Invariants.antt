use Rattle.std.proofs.Common.{◌≡◌}
use Rattle.plain_laws.specs.Plain.{list_below}
use Rattle.feed_build.proofs.feed.TableSource.rows_of.Given as goal

abbrev pub invariant-loop-row : goal.invariant-loop-row
invariant-loop-row g l = l.rows ≡ list_below l.row (g.R.FileRow.row_in l.self)
