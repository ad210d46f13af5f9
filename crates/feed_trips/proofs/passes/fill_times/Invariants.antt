use Rattle.std.proofs.Common.{◌≡◌, ℕ, ◌<◌, length}
use Rattle.std.specs.Prelude.{slice_get}
use Rattle.feed_trips.specs.Gaps.{IsCarried}
use Rattle.feed_trips.proofs.GapLaws.{AreFilledBelow}
use Rattle.feed_trips.proofs.passes.fill_times.Given as goal

abbrev pub invariant-loop-m : goal.invariant-loop-m
invariant-loop-m l = record {
  long : length l.times.items ≡ length l.initial.times.items;
  before : (k : ℕ) → k < l.from → slice_get l.times.items k ≡ slice_get l.initial.times.items k;
  filled : AreFilledBelow l.from l.rows l.m l.times.items;
  carried : IsCarried l.rows l.m l.gap;
}
