use Rattle.std.proofs.Common.{◌≡◌, ◌*◌, ◌^◌, ◌≤◌, pos}
use Rattle.std.specs.Prelude.{nat_abs, ◌*ℤ◌}
use Rattle.fare_tariff.proofs.tariff.times.Given as goal

abbrev pub invariant-loop-time : goal.invariant-loop-time
invariant-loop-time l = record {
  is : l.sum ≡ l.amount.0 *ℤ pos l._time;
  low : nat_abs l.sum ≤ 2 ^ 63 * l._time;
}
