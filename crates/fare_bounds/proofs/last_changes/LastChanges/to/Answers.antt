-- By how long the rules last.
use Rattle.fare_bounds.proofs.LastLaws.{last_changes}
use Rattle.fare_bounds.proofs.last_changes.LastChanges.to.Goals as goal

pub returns : goal.returns
returns c = last_changes c.args.feed.now c.args.groups.now c.in_ok-limits.limits.items c.in_ok-limits.ensures
