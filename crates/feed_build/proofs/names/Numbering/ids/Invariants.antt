use Rattle.std.proofs.Common.{◌≡◌, take, map}
use Rattle.feed_build.proofs.names.Numbering.ids.Given as goal

abbrev pub invariant-loop-place : goal.invariant-loop-place
invariant-loop-place l = l.ids ≡ take l.place (map (λ k. k.now) l.names)
