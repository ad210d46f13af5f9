use Rattle.ticket_read.proofs.entries.entries_by.Goals as goal

pub entries-requires : goal.entries-requires
entries-requires c = rw c.new.ensures c.requires.sound

pub returns-clause-told : goal.returns-clause-told
returns-clause-told c = rw c.new.ensures at c.entries.ensures.told

pub returns-clause-only : goal.returns-clause-only
returns-clause-only c = rw c.new.ensures at c.entries.ensures.only
