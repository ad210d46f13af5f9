use Rattle.std.proofs.Common.{◌∙◌, ap, flat_map, take_all}
use Rattle.feed_rows.specs.EntryText.{entry_lines}
use Rattle.ticket_explain.proofs.entries.text_of.Goals as goal

pub returns : goal.returns
returns c =
    c.loop-entry.invariant
    ∙ ap (flat_map (entry_lines c.args.timetable.now)) (take_all c.loop-entry.entry-index c.args.entries.now c.loop-entry-test.false)
