use Rattle.std.proofs.Common.{◌≡◌, not}
use Rattle.plain_laws.specs.Plain.{picks_below}
use Rattle.feed_faults.specs.Records.{field}
use Rattle.feed_faults.specs.FormFaults.{is_passed_over}
use Rattle.feed_faults.specs.AcceptedFeed.{link_row}
use Rattle.feed_build.proofs.feed.TableSource.link_rows.Given as goal

abbrev pub invariant-loop-row : goal.invariant-loop-row
invariant-loop-row g l = l.rows ≡ picks_below l.row (λ row. not (is_passed_over (field l.transfers row))) (link_row l.self)
