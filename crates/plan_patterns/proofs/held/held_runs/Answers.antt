use Rattle.std.proofs.Common.{◌≡◌, length, refl, arith}
use Rattle.plain_laws.proofs.Laws.{joined_more}
use Rattle.plan_patterns.specs.HeldRuns.{held_of_trip, trip_at}
use Rattle.plan_patterns.proofs.HeldLaws.{held_all}
use Rattle.plan_patterns.proofs.held.held_runs.Goals as goal

pub loop-place-init : goal.loop-place-init
loop-place-init c = c.new-runs.ensures.items

pub add_trip-requires-clause-sound : goal.add_trip-requires-clause-sound
add_trip-requires-clause-sound c = c.feed-feed.ensures.sound

pub add_trip-requires-clause-usual : goal.add_trip-requires-clause-usual
add_trip-requires-clause-usual c = c.requires.usual

pub add_trip-requires-clause-active : goal.add_trip-requires-clause-active
add_trip-requires-clause-active c = c.in_ok-active.ensures

pub add_trip-requires-clause-inside : goal.add_trip-requires-clause-inside
add_trip-requires-clause-inside c = c.requires.trips.inside c.loop-place.place _ c.loop-place-test.true

pub loop-place-preserved : goal.loop-place-preserved
loop-place-preserved c =
    let feed = c.args.timetable.now in
    let span = c.args.span.now in
    let trips = c.args.trips.now in
    let place = c.loop-place.place in
    joined_more place (λ k. held_of_trip feed span (trip_at trips k)) c.loop-place.runs.items
    (held_of_trip feed span (trip_at trips place)) c.add_trip.new.runs.items c.loop-place.invariant refl
    c.in_ok-add_trip.ensures

pub returns : goal.returns
returns c =
    let past = c.loop-place-test.false in
    let end = c.loop-place.auto.place-end in
    let all : c.loop-place.place ≡ length c.args.trips.now = omega (arith, past, end) in
    held_all _ _ _ _ _ c.feed-feed.ensures.sound c.requires.usual c.requires.trips all c.loop-place.invariant
