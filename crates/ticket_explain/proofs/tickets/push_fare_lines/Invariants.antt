use Rattle.std.proofs.Common.{◌≡◌, ◌++◌}
use Rattle.plain_laws.specs.Plain.{joined_below}
use Rattle.feed_rows.specs.EntryText.{leg_lines}
use Rattle.ticket_explain.proofs.tickets.push_fare_lines.Given as goal

abbrev pub invariant-loop-leg : goal.invariant-loop-leg
invariant-loop-leg l = l.text ≡ l.initial.text ++ joined_below l.leg (leg_lines l.feed l.choice)
