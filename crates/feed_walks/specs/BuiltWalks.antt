-- What holds of the walks that were built from a feed.
use Rattle.std.specs.Prelude.{◌≡◌}
use Rattle.feed_rows.specs.FeedRows.{FeedRows}
use Rattle.feed_walks.specs.declared.Walks.{Walks}
use Rattle.feed_walks.specs.OutOf.{walk_steps}

-- the walks are those of this feed
pub record AreWalksOf (feed : FeedRows) (walks : Walks) : Type 0 where
  pub steps : walks.steps ≡ walk_steps feed
