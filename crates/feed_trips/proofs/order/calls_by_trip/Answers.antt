use Rattle.std.proofs.Common.{◌≡◌, ◌∙◌, ap, subst, List, length, IsPermutation}
use Rattle.feed_rows.specs.declared.rows.StopTimeRow.{StopTimeRow}
use Rattle.feed_rows.specs.FeedRows.{FeedRows}
use Rattle.feed_rows.specs.SoundFeed.{IsSoundFeed}
use Rattle.feed_trips.specs.Stretches.{AreStretches, stretch_calls}
use Rattle.feed_trips.proofs.StretchLaws.{file_within, file_few, file_stretches}
use Rattle.feed_trips.proofs.order.calls_by_trip.Goals as goal

pub together_of-requires-clause-within : goal.together_of-requires-clause-within
together_of-requires-clause-within c =
    let rows : c.items-rows.result.now ≡ c.args.feed.now.stop_times = c.items-rows.ensures.value ∙ ap (λ (f : FeedRows). f.stop_times) c.feed.view_is in
    let trips : length c.items-trips.result.now ≡ length c.args.feed.now.trips = ap length (c.items-trips.ensures.value ∙ ap (λ (f : FeedRows). f.trips) c.feed.view_is) in
    file_within c.args.feed.now c.items-rows.result.now (length c.items-trips.result.now) (subst IsSoundFeed c.feed.view_is c.feed.invariant) rows trips

pub together_of-requires-clause-few : goal.together_of-requires-clause-few
together_of-requires-clause-few c =
    let rows : c.items-rows.result.now ≡ c.args.feed.now.stop_times = c.items-rows.ensures.value ∙ ap (λ (f : FeedRows). f.stop_times) c.feed.view_is in
    file_few c.args.feed.now c.items-rows.result.now (subst IsSoundFeed c.feed.view_is c.feed.invariant) rows

pub sorted_stop_times-requires : goal.sorted_stop_times-requires
sorted_stop_times-requires c =
    let rows : c.items-rows.result.now ≡ c.args.feed.now.stop_times = c.items-rows.ensures.value ∙ ap (λ (f : FeedRows). f.stop_times) c.feed.view_is in
    file_few c.args.feed.now c.items-rows.result.now (subst IsSoundFeed c.feed.view_is c.feed.invariant) rows

pub calls_of_sorted-requires-clause-moved : goal.calls_of_sorted-requires-clause-moved
calls_of_sorted-requires-clause-moved c =
    let rows : c.items-rows.result.now ≡ c.args.feed.now.stop_times = c.items-rows.ensures.value ∙ ap (λ (f : FeedRows). f.stop_times) c.feed.view_is in
    subst (λ (rs : List StopTimeRow). IsPermutation rs c.in_ok-sorted.sorted.items) rows c.in_ok-sorted.ensures.moved

pub returns : goal.returns
returns c = c.calls_of_sorted.ensures

pub returns-in-Some : goal.returns-in-Some
returns-in-Some c =
    let rows : c.items-rows.result.now ≡ c.args.feed.now.stop_times = c.items-rows.ensures.value ∙ ap (λ (f : FeedRows). f.stop_times) c.feed.view_is in
    let trips : length c.items-trips.result.now ≡ length c.args.feed.now.trips = ap length (c.items-trips.ensures.value ∙ ap (λ (f : FeedRows). f.trips) c.feed.view_is) in
    let found = rw c.in-Some.is at c.in_ok-found.ensures.together in
    let of_trips = subst (λ n. AreStretches c.items-rows.result.now (length c.items-rows.result.now) n c.in-Some.found.stretches.items) trips found in
    let are = subst (λ (rs : List StopTimeRow). AreStretches rs (length rs) (length c.args.feed.now.trips) c.in-Some.found.stretches.items) rows of_trips in
    c.of.ensures ∙ ap (λ (rs : List StopTimeRow). stretch_calls rs c.in-Some.found.stretches.items) rows
    ∙ file_stretches c.args.feed.now c.in-Some.found.stretches.items (subst IsSoundFeed c.feed.view_is c.feed.invariant) are
