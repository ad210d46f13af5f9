use Rattle.std.proofs.Common.{refl, arith}
use Rattle.std.proofs.lemmas.Option.{slice_get-get_or}
use Rattle.fare_audit.specs.Found.{CoversPair}
use Rattle.fare_audit.proofs.FoundLaws.{grows_itself, grows_on, pair_later}
use Rattle.fare_audit.proofs.RunLaws.{below_more, no_end, none_boards, pair_covered, ride_there}
use Rattle.fare_audit.proofs.judge.Audit.add_rides_to.Goals.{then-ends-from+in_ok-add_ride, else-ends-from}
use Rattle.fare_audit.proofs.judge.Audit.add_rides_to.Goals as goal

pub loop-from-init : goal.loop-from-init
loop-from-init c = record { found = c.requires.found; grows = grows_itself c.args.found.now; covers = λ from lt. absurd (omega (arith, lt)) }

pub add_ride-requires-clause-ride : goal.add_ride-requires-clause-ride
add_ride-requires-clause-ride c =
    let ends = c.args.ends.now in
    let from = c.loop-from.from in
    let lt = c.loop-from-test.true in
    let high = c.requires.to in
    ride_there c.args.self.now c.args.run.now ends c.requires.run c.requires.ends from c.args.to _ _ lt
    (slice_get-get_or ends from _ (omega (arith, lt, high))) (slice_get-get_or ends c.args.to _ c.requires.to) c.if-ends-from.true
    (c.requires.drop_off _ (slice_get-get_or ends c.args.to _ c.requires.to))

pub loop-from-preserved : goal.loop-from-preserved
loop-from-preserved c =
    let self = c.args.self.now in
    let network = c.args.run.now.network in
    let ends = c.args.ends.now in
    let from = c.loop-from.from in
    let to = c.args.to in
    let lt = c.loop-from-test.true in
    let high = c.requires.to in
    let was = c.loop-from.invariant in
    elim c.if-ends-from.branch [
      | then-ends-from+in_ok-add_ride w ↦ rw w.found-is (record {
        found = w.in_ok-add_ride.ensures.found;
        grows = grows_on c.args.found.now c.loop-from.found w.add_ride.new.found was.grows w.in_ok-add_ride.ensures.grows;
        covers = below_more (λ k. CoversPair self c.loop-from.found network ends k to) (λ k. CoversPair self w.add_ride.new.found network ends k to) from _
            (λ k. pair_later self c.loop-from.found w.add_ride.new.found w.in_ok-add_ride.ensures.grows network ends k to) was.covers
            (pair_covered self w.add_ride.new.found network ends from to _ _ (slice_get-get_or ends from _ (omega (arith, lt, high))) (slice_get-get_or ends to _ high) w.in_ok-add_ride.ensures.covers) refl;
      })
      | else-ends-from w ↦ rw w.found-is (record {
        found = was.found;
        grows = was.grows;
        covers = below_more (λ k. CoversPair self c.loop-from.found network ends k to) (λ k. CoversPair self c.loop-from.found network ends k to) from _
            (λ k h. h) was.covers
            (none_boards self c.loop-from.found network ends from to _ _ (slice_get-get_or ends from _ (omega (arith, lt, high))) (slice_get-get_or ends to no_end high) w.if-ends-from.false) refl;
      })
    ]

pub returns-clause-covers : goal.returns-clause-covers
returns-clause-covers c =
    λ from lt.
    let all = c.loop-from-test.false in
    c.loop-from.invariant.covers from (omega (arith, lt, all))
