use Rattle.std.proofs.Common.{◌<◌, sym, subst, length, All}
use Rattle.feed_rows.specs.FeedRows.{FeedRows}
use Rattle.feed_rows.specs.Shifts.{trip_frequencies}
use Rattle.feed_trips.specs.Runs.{AreRunsOf, IsSoundRun}
use Rattle.feed_trips.proofs.TableLaws.{at_trip, within_trips, are_runs, runs_sound}
use Rattle.feed_trips.proofs.trips.Trips.frequencies_of.Goals as goal

pub group-requires : goal.group-requires
group-requires c =
    let asked = subst (λ (f : FeedRows). c.args.trip.0 < length f.trips) (sym c.self.view_is) c.requires in
    within_trips c.self.inside.feed.now (trip_frequencies c.self.inside.feed.now) _ c.args.trip c.self.invariant.runs asked

pub returns-clause-runs : goal.returns-clause-runs
returns-clause-runs c =
    let asked = subst (λ (f : FeedRows). c.args.trip.0 < length f.trips) (sym c.self.view_is) c.requires in
    let is = at_trip c.self.inside.feed.now (trip_frequencies c.self.inside.feed.now) _ c.args.trip _ c.self.invariant.runs asked c.group.ensures in
    subst (λ (f : FeedRows). AreRunsOf f c.args.trip c.group.result.now) c.self.view_is (subst (AreRunsOf c.self.inside.feed.now c.args.trip) (sym is) (are_runs c.self.inside.feed.now c.args.trip))

pub returns-clause-sound : goal.returns-clause-sound
returns-clause-sound c =
    let asked = subst (λ (f : FeedRows). c.args.trip.0 < length f.trips) (sym c.self.view_is) c.requires in
    let is = at_trip c.self.inside.feed.now (trip_frequencies c.self.inside.feed.now) _ c.args.trip _ c.self.invariant.runs asked c.group.ensures in
    subst (All IsSoundRun) (sym is) (runs_sound c.self.inside.feed.now c.args.trip c.self.invariant.sound)
