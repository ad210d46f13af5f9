use Rattle.std.proofs.Common.{◌≡◌, ◌++◌}
use Rattle.plain_laws.specs.Plain.{joined_below}
use Rattle.feed_maker.specs.FileTexts.{stop_line}
use Rattle.feed_maker.proofs.stops.push_stops.Given as goal

abbrev pub invariant-loop-column : goal.invariant-loop-column
invariant-loop-column l = l.file ≡ l.initial.file ++ joined_below l.column (stop_line l.row)
