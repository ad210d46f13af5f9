use Rattle.std.proofs.Common.{◌≡◌, ◌++◌}
use Rattle.plain_laws.specs.Plain.{joined_below}
use Rattle.feed_maker.specs.FileTexts.{trip_line}
use Rattle.feed_maker.proofs.routes.push_trips.Given as goal

abbrev pub invariant-loop-trip : goal.invariant-loop-trip
invariant-loop-trip l = l.file ≡ l.initial.file ++ joined_below l.trip (trip_line l.lines l.route)
