use Rattle.fare_areas.proofs.AreaLaws.{own_rises, built}
use Rattle.fare_areas.proofs.Areas.build.Goals as goal

pub invariant_of-result : goal.invariant_of-result
invariant_of-result c = own_rises c.args.feed.now _ c.in_ok-own.ensures

pub returns : goal.returns
returns c =
    built _ _ _ _ _ c.feed.view_is c.feed.invariant c.items-stops.ensures.value c.items.ensures.value c.in_ok-own.ensures
    c.in_ok-sources.ensures c.in_ok-networks.ensures
