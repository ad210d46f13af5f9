use Rattle.std.proofs.Common.{◌≡◌, ◌++◌}
use Rattle.plain_laws.specs.Plain.{joined_below}
use Rattle.feed_rows.specs.EntryText.{ride_lines}
use Rattle.ticket_explain.proofs.travel.push_travel_lines.Given as goal

abbrev pub invariant-loop-place : goal.invariant-loop-place
invariant-loop-place l = l.text ≡ l.initial.text ++ joined_below l.place (ride_lines l.timetable l.journey)
