use Rattle.std.proofs.Common.{◌≡◌, ◌++◌}
use Rattle.plain_laws.specs.Plain.{joined_below}
use Rattle.feed_maker.specs.FileTexts.{stop_area_line}
use Rattle.feed_maker.proofs.stops.push_stop_areas.Given as goal

abbrev pub invariant-loop-column : goal.invariant-loop-column
invariant-loop-column l = l.file ≡ l.initial.file ++ joined_below l.column (stop_area_line l.lines l.row)
