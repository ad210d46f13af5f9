use Rattle.feed_walks.proofs.NearLaws.{AreTaken}
use Rattle.feed_walks.proofs.near.reached_from.Given as goal

abbrev pub invariant-loop-place : goal.invariant-loop-place
invariant-loop-place l = AreTaken l.sets l.rows l.place l.reached.items
