use Rattle.ticket_read.proofs.EntryLaws.{one_list_by_text}
use Rattle.ticket_read.proofs.entries.entries_of.Goals as goal

pub returns-in-Ok-clause-one : goal.returns-in-Ok-clause-one
returns-in-Ok-clause-one c = one_list_by_text c.args.timetable.now c.args.query.now c.feed.ensures.sound

pub returns-in-Err-clause-one : goal.returns-in-Err-clause-one
returns-in-Err-clause-one c = one_list_by_text c.args.timetable.now c.args.query.now c.feed.ensures.sound
