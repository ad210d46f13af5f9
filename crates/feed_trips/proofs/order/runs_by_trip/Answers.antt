use Rattle.std.proofs.Common.{◌≡◌, ◌∙◌, ap, length}
use Rattle.feed_rows.specs.FeedRows.{FeedRows}
use Rattle.item_groups.specs.Groups.{groups_below}
use Rattle.feed_trips.proofs.TableLaws.{numbered, runs_are}
use Rattle.feed_trips.proofs.order.runs_by_trip.Goals as goal

pub returns : goal.returns
returns c =
    let rows : c.items.result.now ≡ c.args.feed.now.frequencies = c.items.ensures.value ∙ ap (λ (f : FeedRows). f.frequencies) c.feed.view_is in
    let trips : length c.items-trips.result.now ≡ length c.args.feed.now.trips = ap length (c.items-trips.ensures.value ∙ ap (λ (f : FeedRows). f.trips) c.feed.view_is) in
    c.in_ok-runs.ensures ∙ ap (groups_below (length c.items-trips.result.now)) (c.in_ok-numbered.ensures ∙ ap numbered rows)
    ∙ ap (λ n. groups_below n (numbered c.args.feed.now.frequencies)) trips ∙ runs_are c.args.feed.now
