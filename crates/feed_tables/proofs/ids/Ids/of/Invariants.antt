use Rattle.std.proofs.Common.{◌≡◌, take, map}
use Rattle.feed_tables.specs.IdColumns.{indexed}
use Rattle.feed_tables.specs.declared.ids.TheConstants.{OTHERS}
use Rattle.feed_tables.proofs.ids.Ids.of.Given as goal

abbrev pub invariant-loop-i : goal.invariant-loop-i
invariant-loop-i g l = l.others.items ≡ map (indexed l.tables) (take l.i OTHERS)
