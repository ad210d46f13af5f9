-- The group of one option more, and at the end those of all.
use Rattle.fare_bounds.proofs.FirstLaws.{first_more}
use Rattle.fare_tariff.specs.Groups.{HasGroup}
use Rattle.fare_tariff.proofs.KindLaws.{all_first}
use Rattle.fare_tariff.proofs.groups.add_groups.Goals as goal

pub loop-pick-preserved : goal.loop-pick-preserved
loop-pick-preserved c =
    let feed = c.args.feed.now in
    let old = c.loop-pick.groups.items in
    let new = c.add_group_of.new.groups.items in
    let still = c.in_ok-add_group_of.ensures.still in
    record {
      there = first_more (HasGroup feed old) (HasGroup feed new) c.args.options.now c.loop-pick.pick-index _ c.loop-pick.invariant.there
          (λ pick has group of_group. still group (has group of_group)) c.in_ok-add_group_of.ensures.there;
      still = λ group has. still group (c.loop-pick.invariant.still group has);
    }

pub returns-clause-there : goal.returns-clause-there
returns-clause-there c =
    all_first (HasGroup c.args.feed.now c.loop-pick.groups.items) c.args.options.now c.loop-pick.pick-index c.loop-pick-test.false
    c.loop-pick.invariant.there
