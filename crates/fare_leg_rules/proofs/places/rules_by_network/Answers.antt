use Rattle.fare_leg_rules.proofs.PlaceLaws.{grouped_by_network}
use Rattle.fare_leg_rules.proofs.places.rules_by_network.Goals as goal

pub returns : goal.returns
returns c = grouped_by_network _ _ _ _ _ c.in_ok-members.ensures c.in_ok-groups.ensures
