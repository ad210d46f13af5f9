use Rattle.std.proofs.Common.{arith}
use Rattle.feed_text.proofs.ValueLaws.{int_is_short, time_fits}
use Rattle.transit_base.specs.Limits.{most_time}
use Rattle.feed_build.proofs.rows.FrequencyRowFileRow.of.Goals as goal

pub natural-requires : goal.natural-requires
natural-requires g c = rw c.numbers.ensures (time_fits most_time _ (omega arith))

pub natural-requires-2 : goal.natural-requires-2
natural-requires-2 g c = rw c.numbers.ensures (time_fits most_time _ (omega arith))

pub nat_of-requires : goal.nat_of-requires
nat_of-requires g c = rw c.numbers.ensures (int_is_short 1 2147483647 _ (omega arith))
