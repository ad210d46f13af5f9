use Rattle.std.proofs.Common.{◌<◌, ◌≤◌, ◌∙◌, sym, subst, ap, length, All}
use Rattle.transit_base.specs.Limits.{most_time}
use Rattle.feed_rows.specs.FeedRows.{FeedRows}
use Rattle.feed_rows.specs.declared.journeys.Call.{Call}
use Rattle.feed_rows.specs.Calls.{calls_of}
use Rattle.feed_trips.proofs.TableLaws.{at_trip, within_trips, calls_small}
use Rattle.feed_trips.proofs.trips.Trips.calls_of.Goals as goal

pub of_trip-requires : goal.of_trip-requires
of_trip-requires c =
    let asked = subst (λ (f : FeedRows). c.args.trip.0 < length f.trips) (sym c.self.view_is) c.requires in
    within_trips c.self.inside.feed.now (calls_of c.self.inside.feed.now) _ c.args.trip c.self.invariant.calls asked

pub returns-clause-value : goal.returns-clause-value
returns-clause-value c =
    let asked = subst (λ (f : FeedRows). c.args.trip.0 < length f.trips) (sym c.self.view_is) c.requires in
    at_trip c.self.inside.feed.now (calls_of c.self.inside.feed.now) _ c.args.trip _ c.self.invariant.calls asked c.of_trip.ensures ∙ ap (λ (f : FeedRows). calls_of f c.args.trip) c.self.view_is

pub returns-clause-times : goal.returns-clause-times
returns-clause-times c =
    let asked = subst (λ (f : FeedRows). c.args.trip.0 < length f.trips) (sym c.self.view_is) c.requires in
    let is = at_trip c.self.inside.feed.now (calls_of c.self.inside.feed.now) _ c.args.trip _ c.self.invariant.calls asked c.of_trip.ensures in
    subst (All (λ (x : Call). (x.arrival ≤ most_time) × (x.departure ≤ most_time))) (sym is) (calls_small _ c.args.trip c.self.invariant.sound)
