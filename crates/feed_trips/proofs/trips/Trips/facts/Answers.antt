use Rattle.std.proofs.Common.{◌≤◌, ◌∙◌, ap, Some}
use Rattle.feed_rows.specs.declared.journeys.Call.{Call}
use Rattle.transit_base.specs.Limits.{most_time}
use Rattle.feed_trips.proofs.RideLaws.{no_ride, no_boarding, no_alighting, ride_between, each_call}
use Rattle.feed_trips.proofs.trips.Trips.facts.Goals as goal

pub is_ride-requires-clause-active : goal.is_ride-requires-clause-active
is_ride-requires-clause-active c = c.requires.active

pub returns-then-not-is_ride : goal.returns-then-not-is_ride
returns-then-not-is_ride c = no_ride c.args.self.now c.args.ride.now c.if-not-is_ride.ensures

pub returns-in_err-boarding : goal.returns-in_err-boarding
returns-in_err-boarding c =
    c.from_residual.ensures
    ∙ no_boarding c.args.self.now c.args.ride.now c.calls_of-calls.result c.calls_of-calls.ensures.value
    c.if-not-is_ride.ensures c.in_err-boarding.ensures

pub returns-in_err-alighting : goal.returns-in_err-alighting
returns-in_err-alighting c =
    c.from_residual-in_err-alighting.ensures
    ∙ no_alighting c.args.self.now c.args.ride.now c.calls_of-calls.result c.calls_of-calls.ensures.value
    c.if-not-is_ride.ensures c.in_ok-boarding.boarding c.in_ok-boarding.ensures c.in_err-alighting.ensures

pub facts_between-requires-clause-departure : goal.facts_between-requires-clause-departure
facts_between-requires-clause-departure c =
    (each_call (λ (x : Call). (x.arrival ≤ most_time) × (x.departure ≤ most_time)) c.calls_of-calls.result
    c.args.ride.now.from c.in_ok-boarding.boarding c.calls_of-calls.ensures.times c.in_ok-boarding.ensures).1

pub facts_between-requires-clause-arrival : goal.facts_between-requires-clause-arrival
facts_between-requires-clause-arrival c =
    (each_call (λ (x : Call). (x.arrival ≤ most_time) × (x.departure ≤ most_time)) c.calls_of-calls.result
    c.args.ride.now.to c.in_ok-alighting.alighting c.calls_of-calls.ensures.times c.in_ok-alighting.ensures).0

pub returns : goal.returns
returns c =
    ap Some c.facts_between.ensures
    ∙ ride_between c.args.self.now c.args.ride.now c.calls_of-calls.result c.calls_of-calls.ensures.value
    c.if-not-is_ride.ensures c.in_ok-boarding.boarding c.in_ok-alighting.alighting c.in_ok-boarding.ensures
    c.in_ok-alighting.ensures
