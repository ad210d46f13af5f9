use Rattle.std.proofs.Common.{◌≡◌, ◌++◌}
use Rattle.plain_laws.specs.Plain.{joined_below}
use Rattle.feed_maker.specs.FileTexts.{trip_lines}
use Rattle.feed_maker.proofs.routes.trips_file.Given as goal

abbrev pub invariant-loop-route : goal.invariant-loop-route
invariant-loop-route l = l.file ≡ l.initial.file ++ joined_below l.route (trip_lines l.lines)
