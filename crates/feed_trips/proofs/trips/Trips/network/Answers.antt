use Rattle.std.proofs.Common.{◌≡◌, ◌<◌, ◌∙◌, sym, ap, subst, List, length}
use Rattle.feed_rows.specs.declared.rows.TripRow.{TripRow}
use Rattle.feed_rows.specs.FeedRows.{FeedRows}
use Rattle.feed_rows.specs.Rides.{trip_network}
use Rattle.feed_trips.proofs.TableLaws.{network_at}
use Rattle.feed_trips.proofs.trips.Trips.network.Goals as goal

pub bounds-items-trip : goal.bounds-items-trip
bounds-items-trip c =
    let trips : c.items.result.now ≡ c.args.self.now.trips = c.items.ensures.value ∙ ap (λ (f : FeedRows). f.trips) (c.feed.view_is ∙ c.self.view_is) in
    subst (λ (ts : List TripRow). c.args.trip.0 < length ts) (sym trips) c.requires

pub bounds-items-trip-2 : goal.bounds-items-trip-2
bounds-items-trip-2 c =
    let trips : c.items.result.now ≡ c.args.self.now.trips = c.items.ensures.value ∙ ap (λ (f : FeedRows). f.trips) (c.feed.view_is ∙ c.self.view_is) in
    subst (λ (ts : List TripRow). c.args.trip.0 < length ts) (sym trips) c.requires

pub bounds-items-route : goal.bounds-items-route
bounds-items-route c =
    let trips : c.items.result.now ≡ c.self.inside.feed.now.trips = c.items.ensures.value ∙ ap (λ (f : FeedRows). f.trips) c.feed.view_is in
    let routes : c.items-2.result.now ≡ c.self.inside.feed.now.routes = c.items-2.ensures.value ∙ ap (λ (f : FeedRows). f.routes) c.feed.view_is in
    let asked = subst (λ (f : FeedRows). c.args.trip.0 < length f.trips) (sym c.self.view_is) c.requires in
    rw (trips, routes) (c.self.invariant.sound.trips.routes c.args.trip.0 c.index-items-trip.result asked)

pub bounds-items-route-2 : goal.bounds-items-route-2
bounds-items-route-2 c =
    let trips : c.items.result.now ≡ c.self.inside.feed.now.trips = c.items.ensures.value ∙ ap (λ (f : FeedRows). f.trips) c.feed.view_is in
    let routes : c.items-2.result.now ≡ c.self.inside.feed.now.routes = c.items-2.ensures.value ∙ ap (λ (f : FeedRows). f.routes) c.feed.view_is in
    let asked = subst (λ (f : FeedRows). c.args.trip.0 < length f.trips) (sym c.self.view_is) c.requires in
    rw (trips, routes) (c.self.invariant.sound.trips.routes c.args.trip.0 c.index-items-trip.result asked)

pub returns : goal.returns
returns c =
    let trips : c.items.result.now ≡ c.self.inside.feed.now.trips = c.items.ensures.value ∙ ap (λ (f : FeedRows). f.trips) c.feed.view_is in
    let routes : c.items-2.result.now ≡ c.self.inside.feed.now.routes = c.items-2.ensures.value ∙ ap (λ (f : FeedRows). f.routes) c.feed.view_is in
    let asked = subst (λ (f : FeedRows). c.args.trip.0 < length f.trips) (sym c.self.view_is) c.requires in
    network_at c.self.inside.feed.now c.args.trip c.items.result.now c.items-2.result.now c.index-items-trip.result c.index-items-route.result trips routes asked (c.self.invariant.sound.trips.routes c.args.trip.0 c.index-items-trip.result asked)
    ∙ ap (λ (f : FeedRows). trip_network f c.args.trip) c.self.view_is
