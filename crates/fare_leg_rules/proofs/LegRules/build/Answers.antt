use Rattle.std.proofs.Common.{refl}
use Rattle.fare_leg_rules.proofs.RuleLaws.{built}
use Rattle.fare_leg_rules.proofs.LegRules.build.Goals as goal

pub returns : goal.returns
returns c =
    built _ _ _ _ _ _ _ c.feed.view_is c.feed.invariant c.items-rows.ensures.value c.items-networks.ensures.len c.items-areas.ensures.len
    c.in_ok-from_slice.ensures.items c.in_ok-placed.ensures
    (rw c.deref.ensures.value at c.in_ok-common_rules.ensures) (rw c.deref-2.ensures.value at c.in_ok-rules_by_network.ensures) refl
    c.in_ok-marked.ensures c.in_ok-marked-2.ensures c.in_ok-marked-3.ensures
