use Rattle.std.proofs.Common.{◌≡◌, ◌<◌, ◌∙◌, List, length, get_or, map, sym, subst, arith}
use Rattle.std.specs.Prelude.{All}
use Rattle.std.proofs.lemmas.List.{get_or-map, length-map}
use Rattle.std.proofs.lemmas.Option.{slice_get_within}
use Rattle.plan_patterns.specs.declared.runs.Run.{Run}
use Rattle.plan_rides.specs.Cutoffs.{cutoff_of}
use Rattle.plan_rides.specs.Departures.{AreSince, IsBy, IsDeparture, Serves, departure_at}
use Rattle.plan_rides.specs.Reached.{AddsFound, Positioned}
use Rattle.plan_rides.proofs.DepartureLaws.{no_boarding, since_of}
use Rattle.plan_rides.proofs.FoundLaws.{found_among, found_since, found_until}
use Rattle.plan_rides.proofs.CutoffLaws.{late_boardings}
use Rattle.plan_rides.proofs.positions.Positions.add_rides.Goals as goal

pub runs-runs-requires : goal.runs-runs-requires
runs-runs-requires c =
    (subst (λ (m : Positioned). Serves m.feed m.patterns c.args.reached.now.stop.0 c.args.reached.now.serving) (sym c.self.view_is) c.requires.serves).pattern

pub boardable-boardings-requires-clause-pattern : goal.boardable-boardings-requires-clause-pattern
boardable-boardings-requires-clause-pattern c =
    (subst (λ (m : Positioned). Serves m.feed m.patterns c.args.reached.now.stop.0 c.args.reached.now.serving) (sym c.self.view_is) c.requires.serves).pattern

pub boardable-boardings-requires-clause-position : goal.boardable-boardings-requires-clause-position
boardable-boardings-requires-clause-position c =
    (subst (λ (m : Positioned). Serves m.feed m.patterns c.args.reached.now.stop.0 c.args.reached.now.serving) (sym c.self.view_is) c.requires.serves).position

pub first_late-k-end-requires : goal.first_late-k-end-requires
first_late-k-end-requires c = c.boardable-boardings.ensures.rises

pub departure_at-departure-requires-clause-inside : goal.departure_at-departure-requires-clause-inside
departure_at-departure-requires-clause-inside c =
    let k = c.loop-k.k in
    let lt : k < length c.boardable-boardings.result.now = omega (arith, c.loop-k-test.true, c.first_late-k-end.ensures.within) in
    let board = c.boardable-boardings.ensures.right k no_boarding lt in
    subst (λ (rs : List Run). (get_or c.boardable-boardings.result.now k no_boarding).run < length rs) (sym c.runs-runs.ensures)
    (slice_get_within _ _ _ board.run_is)

pub departure_at-departure-requires-clause-trips : goal.departure_at-departure-requires-clause-trips
departure_at-departure-requires-clause-trips c =
    let reached = c.args.reached.now in
    let feed = c.self.inside.timetable.now in
    let serves = subst (λ (m : Positioned). Serves m.feed m.patterns reached.stop.0 reached.serving) (sym c.self.view_is) c.requires.serves in
    subst (All (λ (r : Run). r.trip.0 < length feed.trips)) (sym c.runs-runs.ensures)
    (λ k r lt. (serves.runs k r lt).goes.served.inside)

pub add_departure-requires-clause-right : goal.add_departure-requires-clause-right
add_departure-requires-clause-right c =
    let reached = c.args.reached.now in
    let feed = c.self.inside.timetable.now in
    let boardings = c.boardable-boardings.result.now in
    let k = c.loop-k.k in
    let x = c.departure_at-departure.result in
    let make = departure_at feed reached.stop reached.serving.position c.runs-runs.result.now in
    let lt : k < length boardings = omega (arith, c.loop-k-test.true, c.first_late-k-end.ensures.within) in
    let since = (since_of feed c.self.inside.patterns.now reached.stop reached.serving reached.earliest.0 c.runs-runs.result.now boardings
    (subst (λ (m : Positioned). Serves m.feed m.patterns reached.stop.0 reached.serving) (sym c.self.view_is) c.requires.serves)
    c.self.invariant.2.of c.runs-runs.ensures c.boardable-boardings.ensures) in
    subst (IsDeparture feed) (get_or-map make boardings k no_boarding x lt ∙ sym c.departure_at-departure.ensures)
    (since.right k x (subst (λ n. k < n) (sym (length-map boardings make)) lt)).0

pub loop-k-preserved : goal.loop-k-preserved
loop-k-preserved c =
    let me = c.args.self.now in
    let reached = c.args.reached.now in
    let latest = cutoff_of c.args.latest.now in
    let feed = c.self.inside.timetable.now in
    let boardings = c.boardable-boardings.result.now in
    let k = c.loop-k.k in
    let x = c.departure_at-departure.result in
    let make = departure_at feed reached.stop reached.serving.position c.runs-runs.result.now in
    let departures = map make boardings in
    let lt : k < length boardings = omega (arith, c.loop-k-test.true, c.first_late-k-end.ensures.within) in
    let within = subst (λ n. k < n) (sym (length-map boardings make)) lt in
    let is : get_or departures k x ≡ x = get_or-map make boardings k no_boarding x lt ∙ sym c.departure_at-departure.ensures in
    let since = subst (λ (m : Positioned). AreSince m.feed m.patterns reached.serving reached.stop.0 reached.earliest.0 departures) c.self.view_is
    (since_of feed c.self.inside.patterns.now reached.stop reached.serving reached.earliest.0 c.runs-runs.result.now boardings
    (subst (λ (m : Positioned). Serves m.feed m.patterns reached.stop.0 reached.serving) (sym c.self.view_is) c.requires.serves)
    c.self.invariant.2.of c.runs-runs.ensures c.boardable-boardings.ensures) in
    let adds = subst (λ (m : Positioned). AddsFound m.feed m.query latest x.stop.0 x.at.0 (IsBy m.feed x) c.loop-k.rides.items c.add_departure.new.rides.items)
    c.self.view_is c.in_ok-add_departure.ensures in
    found_among me.feed me.query latest reached.stop.0 reached.earliest.0 departures k x _ _ _ within
    (since.right k x within).1 (since.since k x within) c.loop-k.invariant
    (subst (λ d. AddsFound me.feed me.query latest d.stop.0 d.at.0 (IsBy me.feed d) c.loop-k.rides.items c.add_departure.new.rides.items)
    (sym is) adds)

pub returns : goal.returns
returns c =
    let me = c.args.self.now in
    let reached = c.args.reached.now in
    let latest = cutoff_of c.args.latest.now in
    let feed = c.self.inside.timetable.now in
    let boardings = c.boardable-boardings.result.now in
    let runs = c.runs-runs.result.now in
    let departures = map (departure_at feed reached.stop reached.serving.position runs) boardings in
    let late = c.first_late-k-end.ensures in
    let since = subst (λ (m : Positioned). AreSince m.feed m.patterns reached.serving reached.stop.0 reached.earliest.0 departures) c.self.view_is
    (since_of feed c.self.inside.patterns.now reached.stop reached.serving reached.earliest.0 c.runs-runs.result.now boardings
    (subst (λ (m : Positioned). Serves m.feed m.patterns reached.stop.0 reached.serving) (sym c.self.view_is) c.requires.serves)
    c.self.invariant.2.of c.runs-runs.ensures c.boardable-boardings.ensures) in
    found_since me latest reached departures _ _ since
    (found_until me.feed me.query latest reached.stop.0 reached.earliest.0 (cutoff_of c.args.lasts.now) departures c.first_late-k-end.result c.loop-k.k _ _
    c.requires.lasts since.right
    (late_boardings feed reached.stop reached.serving.position runs boardings (cutoff_of c.args.lasts.now) reached.stop.0 c.first_late-k-end.result late.within late.late)
    c.loop-k-test.false c.loop-k.invariant)
