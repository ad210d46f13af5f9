use Rattle.std.proofs.Common.{◌≡◌, ◌+◌, ◌<◌, ◌≤◌, sym, ◌∙◌, ap, false, length, arith}
use Rattle.std.proofs.Math.ListN.{length-set}
use Rattle.feed_rows.specs.CallPass.{TimedGap, time_in}
use Rattle.feed_rows.specs.TimedTrips.{is_timed_at}
use Rattle.feed_trips.specs.Gaps.{gap_of}
use Rattle.feed_trips.proofs.GapLaws.{IsOver, row_timed, gap_over, carried_timed, carried_untimed, filled_more, filled_past, slice_get-set_other}
use Rattle.feed_trips.proofs.passes.fill_times.Goals as goal
use Rattle.feed_trips.proofs.passes.fill_times.Goals.{then-not-is_timed, else-not-is_timed}

-- the gap of the row ends behind it, and with the rows at the latest
over : (c : goal.After-gap_at-gap) → IsOver c.args.rows.now c.loop-m.m (gap_of c.gap_at-gap.result)
over c =
    let untimed : is_timed_at c.args.rows.now c.loop-m.m ≡ false =
    row_timed _ _ _ c.loop-m-test.true c.index-rows-m.is ∙ sym c.is_timed.ensures ∙ c.if-not-is_timed.true in
    rw c.gap_at-gap.ensures (gap_over c.args.rows.now c.loop-m.m c.loop-m-test.true untimed)

pub time_in-requires-clause-within : goal.time_in-requires-clause-within
time_in-requires-clause-within c = record { low = (over c).low; high = (over c).high }

pub time_in-requires-clause-few : goal.time_in-requires-clause-few
time_in-requires-clause-few c =
    let ends : c.gap_at-gap.result.to ≤ length c.args.rows.now = (over c).ends in
    let few = c.requires.few in
    omega (arith, ends, few)

pub loop-m-preserved : goal.loop-m-preserved
loop-m-preserved c =
    let timed = row_timed _ _ _ c.loop-m-test.true c.index-rows-m.is ∙ sym c.is_timed.ensures in
    let before = c.loop-m.invariant in
    let from = c.args.from in
    let rows = c.args.rows.now in
    let m = c.loop-m.m in
    let times = c.loop-m.times.items in
    let room = c.requires.room in
    let long = before.long in
    let lt = c.loop-m-test.true in
    let inside : from + m < length times = omega (arith, room, long, lt) in
    elim c.if-not-is_timed.branch [
      | then-not-is_timed w ↦
          (let time = w.time_in.ensures ∙ ap (λ (g : TimedGap). time_in g m) w.gap_at-gap.ensures in
          rw (w.times-is, w.gap-is) (record {
            long = length-set times (from + m) _ ∙ before.long;
            before = λ k below. slice_get-set_other times (from + m) k _ (λ same. omega (arith, below, same)) ∙ before.before k below;
            filled = filled_more from rows m times _ inside time before.filled;
            carried = carried_untimed rows m _ (timed ∙ w.if-not-is_timed.true) w.gap_at-gap.ensures;
          }))
      | else-not-is_timed w ↦
          rw (w.times-is, w.gap-is) (record {
            long = before.long;
            before = before.before;
            filled = filled_past from rows m times (timed ∙ w.if-not-is_timed.false) before.filled;
            carried = carried_timed rows m _ (timed ∙ w.if-not-is_timed.false);
          })
    ]
