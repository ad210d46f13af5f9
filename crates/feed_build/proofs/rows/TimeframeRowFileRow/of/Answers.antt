use Rattle.std.proofs.Common.{arith}
use Rattle.feed_text.proofs.ValueLaws.{time_fits}
use Rattle.feed_build.proofs.rows.TimeframeRowFileRow.of.Goals as goal

pub natural-requires : goal.natural-requires
natural-requires g c = rw c.numbers.ensures (time_fits 86_400 _ (omega arith))

pub natural-requires-2 : goal.natural-requires-2
natural-requires-2 g c = rw c.numbers.ensures (time_fits 86_400 _ (omega arith))
