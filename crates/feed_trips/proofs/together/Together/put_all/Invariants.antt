use Rattle.std.proofs.Common.{◌≡◌, ◌<◌}
use Rattle.feed_trips.specs.Filled.{AreLaid}
use Rattle.feed_trips.specs.Stretches.{AreStretches, IsPiece, IsStretchBefore}
use Rattle.feed_trips.proofs.together.Together.put_all.Given as goal

abbrev pub invariant-loop-place : goal.invariant-loop-place
invariant-loop-place l = record {
  before : AreStretches l.rows l.from l.trips l.self.stretches.items;
  laid : AreLaid l.rows l.from l.self.stretches.items l.self.times.items;
  piece : 0 < l.place → IsPiece l.rows l.from l.place;
  start : l.place ≡ 0 → l.from ≡ 0;
  stretch : IsStretchBefore l.rows l.from l.self.stretches.items l.stretch;
}
