use Rattle.std.proofs.Common.{◌≡◌, take, flat_map}
use Rattle.feed_rows.specs.EntryText.{entry_lines}
use Rattle.ticket_explain.proofs.entries.text_of.Given as goal

abbrev pub invariant-loop-entry : goal.invariant-loop-entry
invariant-loop-entry l = l.text ≡ flat_map (entry_lines l.timetable) (take l.entry-index l.entries)
