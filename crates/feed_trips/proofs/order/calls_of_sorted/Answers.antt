use Rattle.std.proofs.Common.{◌≡◌, ◌<◌, ◌∙◌, sym, ap, subst, length, All}
use Rattle.feed_rows.specs.declared.rows.StopTimeRow.{StopTimeRow}
use Rattle.feed_rows.specs.FeedRows.{FeedRows}
use Rattle.feed_rows.specs.SoundFeed.{IsSoundFeed}
use Rattle.feed_trips.specs.Stretches.{AreStretches}
use Rattle.feed_trips.proofs.StretchLaws.{sorted_stretches, sorted_within, sorted_few, sorted_together}
use Rattle.feed_trips.proofs.order.calls_of_sorted.Goals as goal

pub together_of-requires-clause-within : goal.together_of-requires-clause-within
together_of-requires-clause-within c =
    let trips : length c.items-trips.result.now ≡ length c.args.feed.now.trips = ap length (c.items-trips.ensures.value ∙ ap (λ (f : FeedRows). f.trips) c.feed.view_is) in
    rw c.deref.ensures.value (subst (λ n. All (λ (r : StopTimeRow). r.trip.0 < n) c.args.rows.items) (sym trips) (sorted_within c.args.feed.now c.args.rows.items (subst IsSoundFeed c.feed.view_is c.feed.invariant) c.requires.moved))

pub together_of-requires-clause-few : goal.together_of-requires-clause-few
together_of-requires-clause-few c = rw c.deref.ensures.value (sorted_few c.args.feed.now c.args.rows.items (subst IsSoundFeed c.feed.view_is c.feed.invariant) c.requires.moved)

pub unreachable-requires : goal.unreachable-requires
unreachable-requires c =
    let trips : length c.items-trips.result.now ≡ length c.args.feed.now.trips = ap length (c.items-trips.ensures.value ∙ ap (λ (f : FeedRows). f.trips) c.feed.view_is) in
    let within = subst (λ n. All (λ (r : StopTimeRow). r.trip.0 < n) c.args.rows.items) (sym trips) (sorted_within c.args.feed.now c.args.rows.items (subst IsSoundFeed c.feed.view_is c.feed.invariant) c.requires.moved) in
    sorted_together c.args.rows.items (length c.items-trips.result.now) c.requires.sorted within (rw c.deref.ensures.value at (rw c.in_default.is at c.in_ok-found.ensures.scattered))

pub of-requires : goal.of-requires
of-requires c = rw c.deref.ensures.value at (rw c.in-Some.is at c.in_ok-found.ensures.kept)

pub returns : goal.returns
returns c =
    let trips : length c.items-trips.result.now ≡ length c.args.feed.now.trips = ap length (c.items-trips.ensures.value ∙ ap (λ (f : FeedRows). f.trips) c.feed.view_is) in
    let found = rw c.deref.ensures.value at (rw c.in-Some.is at c.in_ok-found.ensures.together) in
    let are = subst (λ n. AreStretches c.args.rows.items (length c.args.rows.items) n c.in-Some.found.stretches.items) trips found in
    c.of.ensures ∙ sorted_stretches c.args.feed.now c.args.rows.items c.in-Some.found.stretches.items (subst IsSoundFeed c.feed.view_is c.feed.invariant) c.requires.moved c.requires.sorted are
