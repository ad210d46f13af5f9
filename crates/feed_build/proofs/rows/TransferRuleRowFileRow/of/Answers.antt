use Rattle.std.proofs.Common.{◌≤◌, None, get_or, arith}
use Rattle.feed_faults.specs.FieldValues.{nat_of, int_or_zero}
use Rattle.feed_soundness.proofs.ValueLaws.{int_small}
use Rattle.feed_text.proofs.ValueLaws.{int_is_short}
use Rattle.feed_build.proofs.ValueLaws.{count_fits}
use Rattle.feed_build.proofs.rows.TransferRuleRowFileRow.of.Goals as goal

pub nat_of-requires : goal.nat_of-requires
nat_of-requires g c = rw c.numbers.ensures (int_is_short 1 2147483647 _ (omega arith))

pub nat_of-requires-2 : goal.nat_of-requires-2
nat_of-requires-2 g c = rw c.numbers.ensures (int_is_short 0 3 _ (omega arith))

pub nat_of-requires-3 : goal.nat_of-requires-3
nat_of-requires-3 g c = rw c.numbers.ensures (int_is_short 0 2 _ (omega arith))

pub natural-requires : goal.natural-requires
natural-requires g c = rw c.numbers.ensures (count_fits _)

pub overflow_cast-limit : goal.overflow_cast-limit
unfolding int_or_zero
overflow_cast-limit g c =
    let small : nat_of (get_or c.numbers.result.now 4 None) ≤ 3 = rw c.numbers.ensures (int_small 0 3 _) in
    omega (arith, small, c.nat_of-2.ensures.value)

pub overflow_cast-result : goal.overflow_cast-result
unfolding int_or_zero
overflow_cast-result g c =
    let small : nat_of (get_or c.numbers.result.now 5 None) ≤ 2 = rw c.numbers.ensures (int_small 0 2 _) in
    omega (arith, small, c.nat_of-3.ensures.value)
