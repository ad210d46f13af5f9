use Rattle.feed_tables.proofs.TakenFiles.{within_without}
use Rattle.feed_tables.proofs.reading.read_file.Goals as goal

pub returns-clause-within : goal.returns-clause-within
returns-clause-within c = within_without c.args.files.now c.put.new.self c.args.file c.requires c.put.ensures.value c.put.ensures.others
