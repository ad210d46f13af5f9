use Rattle.std.proofs.Common.{◌∙◌, ◌≤◌, arith, ap, length, sym}
use Rattle.std.specs.Prelude.{slice_get}
use Rattle.transit_base.specs.Limits.{most_time}
use Rattle.feed_rows.specs.declared.journeys.Call.{Call}
use Rattle.plain_laws.proofs.Laws.{All-slice_get}
use Rattle.plan_rides.specs.Departures.{run_with}
use Rattle.plan_rides.proofs.DepartureLaws.{run_near}
use Rattle.plan_rides.proofs.FoundLaws.{found_call, found_departure, found_first}
use Rattle.plan_rides.proofs.positions.add_departure.Goals as goal

pub calls_of-calls-requires : goal.calls_of-calls-requires
calls_of-calls-requires c = c.requires.right.run.served.inside

pub add_ride-requires-clause-near : goal.add_ride-requires-clause-near
add_ride-requires-clause-near c = run_near c.args.timetable.now (run_with c.args.departure.now) c.requires.right.run

pub loop-to-preserved : goal.loop-to-preserved
loop-to-preserved c =
    let is = ap (λ cs. slice_get cs c.loop-to.to) (sym c.calls_of-calls.ensures.value) ∙ c.at.ensures in
    record {
      later = omega (arith, c.loop-to.invariant.later);
      adds = found_call _ _ _ _ _ _ _ _ c.loop-to.invariant.adds (c.in_ok-add_ride.ensures c.args.timetable.now c.requires.right is);
    }

pub loop-to-init : goal.loop-to-init
loop-to-init c = record { later = omega arith; adds = found_first _ _ _ _ _ _ (omega arith) }

pub returns : goal.returns
returns c = let same = ap length c.calls_of-calls.ensures.value in found_departure _ _ _ _ _ _ _ (omega arith) c.loop-to.invariant.adds

pub add_ride-requires-clause-time : goal.add_ride-requires-clause-time
add_ride-requires-clause-time c =
    (All-slice_get (λ (call : Call). (call.arrival ≤ most_time) × (call.departure ≤ most_time)) c.calls_of-calls.result c.loop-to.to c.at.result c.at.ensures c.calls_of-calls.ensures.times).0

pub add_ride-requires-clause-later : goal.add_ride-requires-clause-later
add_ride-requires-clause-later c = omega (arith, c.loop-to.invariant.later)
