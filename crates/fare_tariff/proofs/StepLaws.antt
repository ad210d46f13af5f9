-- Rides by which partial journeys go on lie within the query's window, and no journey ends sooner than the least seconds tell.
use Rattle.std.proofs.Common.{◌≡◌, refl, sym, ◌∙◌, ap, subst, ℕ, ◌+◌, ◌≤◌, true, false, List, arith, ℤ, pos, ◌+ℤ◌, ◌-ℤ◌, ◌≤ℤ◌}
use Rattle.std.specs.Prelude.{◌==◌, if◌then◌else◌, Option, Some, None, option_map}
use Rattle.std.proofs.lemmas.Bool.{ne_eqb}
use Rattle.std.proofs.lemmas.Int.{ints}
use Rattle.std.proofs.lemmas.Option.{none-some, same_Some}
use Rattle.transit_base.specs.declared.moments.Secs.{Secs}
use Rattle.transit_base.specs.declared.numbers.StopId.{StopId}
use Rattle.feed_rows.specs.declared.fares.Triple.{Triple}
use Rattle.feed_rows.specs.declared.journeys.Query.{Query}
use Rattle.feed_rows.specs.declared.journeys.Ride.{Ride}
use Rattle.feed_rows.specs.declared.journeys.RideFacts.{RideFacts}
use Rattle.feed_rows.specs.declared.states.Move.{Move}
use Rattle.feed_rows.specs.FeedRows.{FeedRows}
use Rattle.feed_rows.specs.Journeys.{direct, egress}
use Rattle.feed_rows.specs.JourneyStands.{end_arrival, next_stand, stand_at_end}
use Rattle.feed_rows.specs.PartialJourneys.{LabelFacts}
use Rattle.feed_rows.specs.SoundFeed.{IsSoundFeed}
use Rattle.plain_laws.proofs.Laws.{le-int_le}
use Rattle.plan_rides.specs.Cutoffs.{cutoff_by, is_early, is_enough}
use Rattle.plan_rides.specs.InTime.{IsWithinWindow, next_in_time}
use Rattle.plan_rides.specs.Spans.{AreEndSpans}
use Rattle.plan_rides.proofs.CaughtLaws.{caught_within}
use Rattle.round_laws.specs.LabelSteps.{IsCaughtRide, IsLabelEnd, IsLabelStep, stand_of_facts}

-- ---- steps

-- each ride by which labels go on is caught in time
pub in_time_of : (feed : FeedRows) (query : Query) (a : LabelFacts) (ride : Ride) (facts : RideFacts) →
    IsCaughtRide feed query a ride facts → next_in_time feed query (stand_of_facts a) ride ≡ Some (stand_at_end facts)
unfolding next_in_time next_stand
in_time_of feed query a ride facts c = rw (c.is, c.caught, le-int_le _ _ c.in_time) refl

-- a step leads to a label that has a ride, and lies within the window
pub step_within : (feed : FeedRows) (query : Query) (a b : LabelFacts) (ride : Ride) (move : Move) → IsSoundFeed feed →
    IsWithinWindow query a.arrival → IsLabelStep feed query a ride move b → IsWithinWindow query b.arrival
step_within feed query a b ride move sound within step =
    subst (λ (x : LabelFacts). IsWithinWindow query x.arrival) (sym step.next)
    (caught_within feed query (stand_of_facts a) ride (stand_at_end step.facts) sound within
    (in_time_of feed query a ride step.facts step.rides))

pub step_ridden : (feed : FeedRows) (query : Query) (a b : LabelFacts) (ride : Ride) (move : Move) →
    IsLabelStep feed query a ride move b → (b.rides == 0) ≡ false
step_ridden feed query a b ride move step =
    ap (λ (x : LabelFacts). x.rides == 0) step.next ∙ ne_eqb (a.rides + 1) 0 (λ e. omega (arith, e))

-- ---- journeys end no sooner

-- an end without a further ride
pub ends_early : (feed : FeedRows) (query : Query) (spans : List (Option Secs)) → AreEndSpans feed query spans →
    (a : LabelFacts) →
    (a.rides == 0) ≡ false → IsWithinWindow query a.arrival → (last : StopId) (triple : Triple) →
    IsLabelEnd feed query a last triple → is_early (cutoff_by spans triple.arrival.0) a.stop.0 a.arrival ≡ true
unfolding end_arrival
ends_early feed query spans are a ridden within last triple end = by (egress feed query a.stop last) refl arrives
  where
    arrives : option_map (λ s. a.arrival +ℤ pos s) (egress feed query a.stop last) ≡ Some triple.arrival.0
    arrives = ap (λ b. option_map (λ s. a.arrival +ℤ pos s) (if b then direct feed a.stop last else egress feed query
        a.stop last))
        (sym ridden) ∙ end.arrives

    left : (at t : ℤ) (s : ℕ) → at +ℤ pos s ≡ t → pos s ≡ t -ℤ at
    left at t s e = omega (arith, ints)

    few : (at t q : ℤ) (s w : ℕ) → at +ℤ pos s ≡ t → t ≤ℤ (q +ℤ pos w) → q ≤ℤ at → s ≤ w
    few at t q s w e b c = omega (arith, ints)

    by : (o : Option ℕ) → egress feed query a.stop last ≡ o → option_map (λ s. a.arrival +ℤ pos s)
        (egress feed query a.stop last) ≡ Some triple.arrival.0 →
        is_early (cutoff_by spans triple.arrival.0) a.stop.0 a.arrival ≡ true
    by None is e = absurd (none-some triple.arrival.0 (sym (ap (option_map (λ s. a.arrival +ℤ pos s)) is) ∙ e))
    by (Some s) is e =
        let same = same_Some _ _ (sym (ap (option_map (λ s. a.arrival +ℤ pos s)) is) ∙ e) in
        subst (λ z. is_enough spans a.stop.0 z ≡ true) (left a.arrival triple.arrival.0 s same)
        (are a.stop last s end.ends is (few a.arrival triple.arrival.0 query.departure.0 s query.window same
        end.in_time within.since))
