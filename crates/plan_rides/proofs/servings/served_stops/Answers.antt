use Rattle.std.proofs.Common.{◌+◌, ◌<◌, ◌∙◌, ◌++◌, ◌∷◌, [], ap, length, subst, sym, arith}
use Rattle.std.proofs.lemmas.List.{length_push}
use Rattle.feed_rows.specs.FeedRows.{FeedRows}
use Rattle.plan_rides.specs.Departures.{AreDepartures}
use Rattle.plan_rides.specs.Served.{AreTimed}
use Rattle.plan_rides.proofs.ServedLaws.{AreTimedBelow, stops_all, stops_more}
use Rattle.plan_rides.proofs.servings.served_stops.Goals as goal

pub serve_stop-requires-clause-departures : goal.serve_stop-requires-clause-departures
serve_stop-requires-clause-departures c =
    subst (λ f. AreDepartures f c.args.sought.now c.args.patterns.now) (sym c.requires.of) c.requires

pub serve_stop-requires-clause-inside : goal.serve_stop-requires-clause-inside
serve_stop-requires-clause-inside c =
    let below = c.loop-stop-test.true in
    let end = c.loop-stop.auto.stop-end in
    let stops = ap length c.items-stops.ensures.value in
    let feed = ap (λ (f : FeedRows). length f.stops) c.feed.ensures.value in
    let view = ap (λ (f : FeedRows). length f.stops) c.behind-timetable.view_is in
    let lt : c.loop-stop.stop < length c.args.timetable.now.stops = omega (arith, below, end, stops, feed, view) in
    subst (λ (f : FeedRows). c.loop-stop.stop < length f.stops) (sym c.requires.of) lt

pub loop-stop-preserved : goal.loop-stop-preserved
loop-stop-preserved c =
    let was = c.loop-stop.invariant in
    let by_stop = c.loop-stop.by_stop in
    let stop = c.loop-stop.stop in
    let one = c.serve_stop.new.served.items in
    let pushed = c.in_ok-push.ensures.ok ∙ ap (λ g. by_stop ++ g ∷ []) c.deref.ensures.value in
    record {
      many = ap length pushed ∙ length_push by_stop one ∙ ap (λ n. n + 1) was.many;
      each = subst (AreTimedBelow c.args.timetable.now c.args.sought.now c.args.patterns.now.patterns (stop + 1)) (sym
          pushed)
          (stops_more c.args.timetable.now c.args.sought.now c.args.patterns.now.patterns stop by_stop one was.many
          (subst (λ f. AreTimed f c.args.sought.now c.args.patterns.now.patterns stop one) c.requires.of
          c.in_ok-serve_stop.ensures) was.each);
    }

pub returns-clause-served : goal.returns-clause-served
returns-clause-served c =
    let past = c.loop-stop-test.false in
    let end = c.loop-stop.auto.stop-end in
    let stops = ap length c.items-stops.ensures.value in
    let feed = ap (λ (f : FeedRows). length f.stops) c.feed.ensures.value in
    let view = ap (λ (f : FeedRows). length f.stops) c.behind-timetable.view_is in
    stops_all c.args.timetable.now c.args.sought.now c.args.patterns.now c.loop-stop.stop c.loop-stop.by_stop
    c.feed.ensures.sound c.requires.of (omega (arith, past, end, stops, feed, view)) c.loop-stop.invariant.many
    c.loop-stop.invariant.each
