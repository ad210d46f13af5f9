use Rattle.std.proofs.Common.{◌∙◌, refl, arith, ap, length}
use Rattle.feed_rows.specs.FeedRows.{FeedRows}
use Rattle.fare_audit.specs.Runs.{CoversTrip}
use Rattle.fare_audit.proofs.RunLaws.{below_more, trip_later}
use Rattle.fare_audit.proofs.judge.Audit.add_trips.Goals as goal

pub loop-number-preserved : goal.loop-number-preserved
loop-number-preserved c =
    let self = c.args.self.now in
    let e = c.in_ok-add_trip.ensures in
    record {
      found = e.found;
      covers = below_more (λ t. CoversTrip self c.loop-number.found (record { 0 = t })) (λ t. CoversTrip self c.add_trip.new.found (record { 0 = t })) c.loop-number.number _
          (λ t. trip_later self c.loop-number.found c.add_trip.new.found e.grows (record { 0 = t })) c.loop-number.invariant.covers e.covers refl;
    }

pub returns-clause-covers : goal.returns-clause-covers
returns-clause-covers c =
    λ trip lt.
    let past = c.loop-number-test.false in
    let long = c.items.ensures.len in
    let rows = ap (λ (f : FeedRows). length f.trips) (c.behind-self.view_is ∙ c.feed.ensures.value) in
    c.loop-number.invariant.covers trip (omega (arith, lt, past, long, rows))
