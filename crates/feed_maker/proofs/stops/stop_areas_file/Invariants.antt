use Rattle.std.proofs.Common.{◌≡◌, ◌++◌}
use Rattle.plain_laws.specs.Plain.{joined_below}
use Rattle.feed_maker.specs.FileTexts.{stop_area_lines}
use Rattle.feed_maker.proofs.stops.stop_areas_file.Given as goal

abbrev pub invariant-loop-row : goal.invariant-loop-row
invariant-loop-row l = l.file ≡ l.initial.file ++ joined_below l.row (stop_area_lines l.lines)
