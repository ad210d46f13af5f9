use Rattle.std.proofs.Common.{arith}
use Rattle.feed_text.proofs.ValueLaws.{int_is_short}
use Rattle.feed_build.proofs.rows.LegRuleRowFileRow.of.Goals as goal

pub nat_of-requires : goal.nat_of-requires
nat_of-requires g c = rw c.numbers.ensures (int_is_short 0 2147483647 _ (omega arith))
