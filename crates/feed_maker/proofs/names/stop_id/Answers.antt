use Rattle.std.proofs.Common.{rules, append_assoc}
use Rattle.feed_maker.proofs.names.stop_id.Goals as goal

pub returns : goal.returns
returns c = search (rules, append_assoc)
