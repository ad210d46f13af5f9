use Rattle.std.proofs.Common.{◌≡◌, ◌+◌, ◌-◌, ◌<◌, ◌∙◌, ap, length, subst, sym, arith}
use Rattle.std.specs.Prelude.{slice_get}
use Rattle.plan_rides.proofs.BoardLaws.{call_more, ends_more, ends_none, trip_all, trip_none}
use Rattle.plan_rides.proofs.DepartureLaws.{call_stop}
use Rattle.plan_rides.proofs.boards.add_trip.Goals as goal

pub loop-k-init : goal.loop-k-init
loop-k-init c =
    let long = ap length c.calls_of-calls.ensures.value in
    record {
      ends = ends_none c.args.spans.now c.calls_of-calls.result _ _ (omega arith);
      adds = trip_none _ _ _ _ _ _ (omega (arith, long));
    }

pub put_board-requires : goal.put_board-requires
put_board-requires c =
    let are = c.calls_of-calls.ensures.value in
    let many = c.loop-k.invariant.adds.many ∙ c.requires.boards in
    let stop = call_stop c.args.timetable.now c.args.trip (c.loop-k.k - 1) c.at-call.result
    c.feed-feed.ensures.sound (ap (λ cs. slice_get cs (c.loop-k.k - 1)) (sym are) ∙ c.at-call.ensures) in
    subst (λ n. c.at-call.result.stop.0 < n) (sym many) stop

pub end_at-requires : goal.end_at-requires
end_at-requires c =
    let are = c.calls_of-calls.ensures.value in
    let stop = call_stop c.args.timetable.now c.args.trip (c.loop-k.k - 1) c.at-call.result
    c.feed-feed.ensures.sound (ap (λ cs. slice_get cs (c.loop-k.k - 1)) (sym are) ∙ c.at-call.ensures) in
    subst (λ n. c.at-call.result.stop.0 < n) (sym c.requires.spans) stop

pub loop-k-preserved : goal.loop-k-preserved
loop-k-preserved c =
    let some = c.loop-k-test.true in
    let k = c.loop-k.k in
    let next : k ≡ (k - 1) + 1 = omega (arith, some) in
    let was = c.loop-k.invariant in
    record {
      ends = ends_more c.args.spans.now c.calls_of-calls.result (k - 1) k _ c.loop-k.end _ next c.at-call.ensures
          c.sooner-end.ensures.one (λ until off enough. c.sooner-end.ensures.other until
          (c.end_at.ensures until off enough))
          was.ends;
      adds = call_more c.args.timetable.now c.args.window c.args.spans.now c.args.trip c.feed-feed.ensures.sound
          c.requires.spans c.calls_of-calls.result (k - 1) k _ c.loop-k.end _ _ _ c.calls_of-calls.ensures.value next
          c.at-call.ensures was.ends was.adds c.put_board.ensures;
    }

pub returns : goal.returns
returns c = trip_all _ _ _ _ _ _ _ (omega (arith, c.loop-k-test.false)) c.loop-k.invariant.adds
