use Rattle.std.proofs.Common.{sym}
use Rattle.std.proofs.lemmas.List.{map_more}
use Rattle.feed_tables.specs.IdColumns.{indexed}
use Rattle.feed_tables.specs.declared.ids.TheConstants.{OTHERS}
use Rattle.feed_tables.proofs.ids.Ids.of.Goals as goal

pub loop-i-preserved : goal.loop-i-preserved
loop-i-preserved g c =
    rw (c.in_ok-push.ensures.items, c.loop-i.invariant, c.in_ok-of.ensures, c.get.ensures, c.place-file.ensures) (sym (map_more (indexed c.args.tables.now) OTHERS c.loop-i.i _ c.loop-i-test.true))
