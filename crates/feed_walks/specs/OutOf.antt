-- The walks out of a platform.
use Rattle.std.specs.Prelude.{ℕ, List, [], ◌∷◌, length, Option, Some, None}
use Rattle.transit_base.specs.declared.numbers.StopId.{StopId}
use Rattle.feed_rows.specs.FeedRows.{FeedRows}
use Rattle.feed_rows.specs.StopLinks.{link}
use Rattle.plain_laws.specs.Plain.{joined_below, list_below}
use Rattle.feed_walks.specs.declared.steps.Step.{Step}

-- the step to a stop by a walk of so many seconds, where there is one
abbrev pub step_list : StopId → Option ℕ → List Step
step_list to (Some seconds) = record { to = to; seconds = record { 0 = seconds } } ∷ []
step_list to None = []

-- the walks out of a platform, in file order of the platforms to which they lead
unfoldable pub out_of : FeedRows → StopId → List Step
out_of feed from = joined_below (length feed.stops) (λ i. step_list (record { 0 = i }) (link feed from (record { 0 = i })))

-- the walks out of each stop
unfoldable pub walk_steps : FeedRows → List (List Step)
walk_steps feed = list_below (length feed.stops) (λ i. out_of feed (record { 0 = i }))
