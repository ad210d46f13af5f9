use Rattle.std.proofs.Common.{◌≡◌, ◌∙◌, ◌<◌, sym, ap, subst, length, false, rules, arith}
use Rattle.std.proofs.Math.ListN.{replicate}
use Rattle.feed_rows.specs.declared.rows.StopTimeRow.{StopTimeRow}
use Rattle.feed_rows.specs.FeedRows.{FeedRows}
use Rattle.plan_rides.specs.Boarding.{is_boarding}
use Rattle.plan_rides.specs.Departures.{AddsTrip}
use Rattle.plan_rides.proofs.DepartureLaws.{none_boarded, row_trip, boarded_more, boarded_past, boarded_all}
use Rattle.plan_rides.proofs.MarkLaws.{marks_back}
use Rattle.plan_rides.proofs.departures.boarded_trips.Goals as goal
use Rattle.plan_rides.proofs.departures.boarded_trips.Goals.{then-is_boarding+in_ok-list_once, else-is_boarding}

pub loop-row-init : goal.loop-row-init
loop-row-init c =
    let trips : length c.items.result.now ≡ length c.args.timetable.now.trips =
    ap length (c.items.ensures.value ∙ ap (λ (f : FeedRows). f.trips) (c.feed.view_is ∙ c.feed-feed.ensures.value)) in
    let marks = c.in_ok-marks.ensures.items_if_clones_equal (λ y clone. search rules) in
    none_boarded _ _ _ _ (marks ∙ ap (λ n. replicate n false) trips) c.new-trips.ensures.items

pub list_once-requires-clause-inside : goal.list_once-requires-clause-inside
list_once-requires-clause-inside c =
    let same = c.feed.view_is ∙ c.feed-feed.ensures.value in
    let rows = c.items-rows.ensures.value ∙ ap (λ (f : FeedRows). f.stop_times) same in
    let within = row_trip _ _ c.loop-row.row-index c.row-item.result c.feed-feed.ensures.sound rows c.loop-row-test.true in
    rw (c.deref_mut.ensures.value, c.loop-row.invariant.many)
    (subst (λ (r : StopTimeRow). r.trip.0 < length c.args.timetable.now.trips) (sym c.row-item.is) within)

pub list_once-requires-clause-listed : goal.list_once-requires-clause-listed
list_once-requires-clause-listed c = rw c.deref_mut.ensures.value c.loop-row.invariant.listed

pub loop-row-preserved : goal.loop-row-preserved
loop-row-preserved c =
    let same = c.feed.view_is ∙ c.feed-feed.ensures.value in
    let rows = c.items-rows.ensures.value ∙ ap (λ (f : FeedRows). f.stop_times) same in
    elim c.if-is_boarding.branch [
      | then-is_boarding+in_ok-list_once w ↦
          (let done = w.in_ok-list_once.ensures in
          let ok = c.loop-row.marks.ok.0 in
          let adds =
          subst (λ (r : StopTimeRow). AddsTrip r.trip c.loop-row.trips.items w.list_once.new.trips.items) c.row-item.is
          done.adds in
          let many = done.many ∙ ap length w.deref_mut.ensures.value in
          let back =
          marks_back c.loop-row.marks.items w.list_once.new.marks c.loop-row.marks.len (omega (arith, ok)) many in
          rw (w.marks-is, w.trips-is, back)
          (boarded_more _ _ _ _ _ _ _ _ _ c.feed-feed.ensures.sound rows c.loop-row-test.true many done.listed
          adds c.loop-row.invariant))
      | else-is_boarding w ↦
          rw (w.marks-is, w.trips-is)
          (boarded_past _ _ _ _ c.row-item.result _ _ rows c.loop-row-test.true
          (sym w.if-is_boarding.false ∙ c.is_boarding.ensures ∙ ap (is_boarding c.args.sought.now) c.row-item.is)
          c.loop-row.invariant)
    ]

pub returns : goal.returns
returns c =
    let same = c.feed.view_is ∙ c.feed-feed.ensures.value in
    let rows = ap length (c.items-rows.ensures.value ∙ ap (λ (f : FeedRows). f.stop_times) same) in
    boarded_all _ _ _ _ _ c.feed-feed.ensures.sound (omega (arith, rows, c.loop-row-test.false)) c.loop-row.invariant
