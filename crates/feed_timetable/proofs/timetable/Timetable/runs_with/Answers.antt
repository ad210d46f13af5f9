use Rattle.std.proofs.Common.{◌<◌, ◌∙◌, sym, ap, subst, length, List}
use Rattle.feed_rows.specs.FeedRows.{FeedRows}
use Rattle.feed_rows.specs.SoundFeed.{IsSoundFeed}
use Rattle.feed_rows.specs.declared.rows.TripRow.{TripRow}
use Rattle.feed_timetable.proofs.TimetableLaws.{trip_runs}
use Rattle.feed_timetable.proofs.timetable.Timetable.runs_with.Goals as goal

pub returns : goal.returns
returns c = λ day active.
    let same = c.feed.view_is ∙ c.self.view_is in
    let trips = c.items.ensures.value ∙ ap (λ (feed : FeedRows). feed.trips) same in
    let within = subst (λ (ts : List TripRow). c.args.trip.0 < length ts) (sym trips) c.requires.trip in
    trip_runs c.args.self.now day c.args.active.now c.items.result.now c.args.trip.0 c.index-items-trip.result
    (subst IsSoundFeed same c.feed.invariant) trips active c.index-items-trip.is within
