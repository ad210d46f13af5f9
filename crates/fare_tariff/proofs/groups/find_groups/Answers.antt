-- The groups of one ride more, and at the end those of all.
use Rattle.std.proofs.Common.{◌<◌, refl, subst, slice_index_or, length, arith}
use Rattle.std.proofs.lemmas.Option.{slice_get-get_or}
use Rattle.feed_rows.specs.FeedRows.{FeedRows}
use Rattle.feed_rows.specs.Legs.{leg_facts}
use Rattle.fare_automaton.specs.Fewest.{AreEnough}
use Rattle.fare_bounds.proofs.FirstLaws.{first_more}
use Rattle.fare_tariff.specs.Groups.{IsRideGrouped}
use Rattle.fare_tariff.proofs.LastLaws.{first_contained}
use Rattle.fare_tariff.proofs.KindLaws.{grouped_by, grouped_more, no_ride}
use Rattle.fare_tariff.proofs.groups.find_groups.Goals as goal

pub loop-k-preserved : goal.loop-k-preserved
loop-k-preserved c =
    let feed = c.args.feed.now in
    let buyer = c.args.known.now.terms.buyer in
    let rides = c.args.rides.now in
    let kinds = c.args.kinds.now in
    let k = c.loop-k.k in
    let old = c.loop-k.groups.items in
    let new = c.add_groups.new.groups.items in
    let caught = slice_index_or rides k no_ride in
    let many = c.requires.kinds.many in
    let lt : k < length kinds = omega (arith, many, c.loop-k-test.true) in
    let leg = leg_facts feed caught.facts in
    let kind = c.requires.kinds.fit k caught (slice_index_or kinds k 0) (slice_get-get_or rides k no_ride c.loop-k-test.true)
    (slice_get-get_or kinds k 0 lt) in
    let enough = subst (λ (f : FeedRows). AreEnough f buyer leg c.options.result.now) c.requires.feed (c.options.ensures leg kind) in
    first_more (IsRideGrouped feed buyer old) (IsRideGrouped feed buyer new) rides k no_ride c.loop-k.invariant
    (λ ride. grouped_more feed buyer old new c.in_ok-add_groups.ensures.still (leg_facts feed ride.facts))
    (grouped_by feed buyer new leg c.options.result.now enough c.in_ok-add_groups.ensures.there)

pub returns : goal.returns
returns c =
    first_contained (IsRideGrouped c.args.feed.now c.args.known.now.terms.buyer c.loop-k.groups.items) c.args.rides.now
    c.args.rides.now c.loop-k.k refl c.loop-k-test.false c.loop-k.invariant
