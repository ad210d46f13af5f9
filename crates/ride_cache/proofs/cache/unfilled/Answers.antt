use Rattle.ride_cache.proofs.PlaceLaws.{no_more}
use Rattle.ride_cache.proofs.cache.unfilled.Goals as goal

pub loop-preserved : goal.loop-preserved
loop-preserved g c = rw c.in_ok-push.ensures.items (no_more c.loop.places.items c.loop.invariant)
