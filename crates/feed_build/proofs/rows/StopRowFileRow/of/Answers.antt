use Rattle.std.proofs.Common.{◌≤◌, None, get_or, arith}
use Rattle.feed_faults.specs.FieldValues.{nat_of, int_or_zero}
use Rattle.feed_soundness.proofs.ValueLaws.{int_small}
use Rattle.feed_text.proofs.ValueLaws.{int_is_short}
use Rattle.feed_build.proofs.rows.StopRowFileRow.of.Goals as goal

pub nat_of-kind-requires : goal.nat_of-kind-requires
nat_of-kind-requires g c = rw c.numbers.ensures (int_is_short 0 4 _ (omega arith))

pub overflow_cast-kind : goal.overflow_cast-kind
unfolding int_or_zero
overflow_cast-kind g c =
    let small : nat_of (get_or c.numbers.result.now 1 None) ≤ 4 = rw c.numbers.ensures (int_small 0 4 _) in
    omega (arith, small, c.nat_of-kind.ensures.value)
