-- What a tariff promises of a query's rides.
use Rattle.std.proofs.Common.{◌≡◌, sym, subst, ℕ, ◌+◌, ◌<◌, Bool, List, ⊎_elim, arith, ℤ, ◌≤ℤ◌, ◌<ℤ◌}
use Rattle.std.specs.Prelude.{Option, Some, None, IfSome, Result, Ok, Err, OnOk}
use Rattle.std.proofs.lemmas.Int.{ints}
use Rattle.transit_base.specs.declared.moments.Moment.{Moment}
use Rattle.feed_rows.specs.declared.journeys.Buyer.{Buyer}
use Rattle.feed_rows.specs.declared.journeys.RideFacts.{RideFacts}
use Rattle.feed_rows.specs.declared.states.Move.{Move}
use Rattle.feed_rows.specs.FeedRows.{FeedRows}
use Rattle.feed_rows.specs.Legs.{leg_facts}
use Rattle.fare_automaton.specs.Fewest.{AreEnoughMoves, AreFewerMoves}
use Rattle.plan_rides.specs.InTime.{IsWithinWindow}
use Rattle.plan_rides.specs.declared.caught.CaughtRide.{CaughtRide}
use Rattle.round_terms.specs.Costs.{AreLate, CostOn, IsLateIf}
use Rattle.round_terms.specs.Legs.{AreKnown}
use Rattle.round_terms.specs.Tasks.{Asked, task_of}
use Rattle.round_terms.specs.Terms.{AreEnough, Facts}
use Rattle.fare_tariff.specs.declared.fare.Fare.{Fare}
use Rattle.fare_tariff.specs.declared.legs.FareLegs.{FareLegs}
use Rattle.fare_tariff.specs.declared.repeats.Repeats.{Repeats}
use Rattle.fare_tariff.specs.FareTerms.{IsFare, IsKnown, Serves, TariffOf, at_most, fare_terms, label_facts}
use Rattle.fare_tariff.specs.Prices.{IsLateSince, far, least_on}
use Rattle.fare_tariff.proofs.MoveLaws.{enough_fares, fewer_enough}
use Rattle.fare_tariff.proofs.PriceLaws.{fare_cost_on, far_never}

-- ---- moves

-- fewer moves are enough where all are
pub fewer_fares : {E : Type 0} (result : Result (Unit {0}) E) (of : TariffOf) (a : Facts Fare) (ride : RideFacts) (all moves : List Move) →
    AreEnoughMoves of.feed of.query.buyer a.fare.state a.fare.held.0 (leg_facts of.feed ride) all →
    OnOk result (AreFewerMoves all moves) → OnOk result (AreEnough at_most (fare_terms of) a ride moves)
fewer_fares (Err e) of a ride all moves enough fewer = fewer
fewer_fares (Ok u) of a ride all moves enough fewer =
    enough_fares of a ride moves
    (fewer_enough of.feed of.query.buyer a.fare.state a.fare.held.0 (leg_facts of.feed ride) all moves enough fewer)

-- ---- what is known of rides

-- which rides are repeated makes no difference to it
pub known_repeats : (feed : FeedRows) (buyer : Buyer) (legs : FareLegs) (repeats : Repeats) (rides : List CaughtRide) →
    AreKnown (IsKnown feed buyer legs) rides → AreKnown (IsKnown feed buyer (record legs { repeats = repeats })) rides
known_repeats feed buyer legs repeats rides known place caught is =
    let own = known place caught is in
    record { kind = own.kind; at = own.at; of = own.of; grouped = own.grouped; changes = own.changes }

-- ---- prices

module _ (asked : Asked TariffOf) (of : TariffOf) (same : asked.tariff ≡ of) (serves : Serves asked) (late : Bool) (behind : ℕ)
    (a : Facts Fare) (fare : IsFare a.rides a.fare) (within : IsWithinWindow asked.query a.arrival)
    (few : a.rides + behind < asked.query.rides) where
  -- what is told is no more than any journey costs that goes on so
  pub told_below : (price : ℤ) → price ≡ least_on of.bounds late behind (label_facts a) →
      CostOn (task_of at_most fare_terms asked) (IsLateIf (fare_terms of) a late) behind a (Some (record { 0 = price }))
  told_below price is =
      subst (λ (z : ℤ). CostOn (task_of at_most fare_terms asked) (IsLateIf (fare_terms of) a late) behind a (Some (record { 0 = z })))
      (sym is)
      (subst (λ (t : TariffOf). CostOn (task_of at_most fare_terms asked) (IsLateIf (fare_terms t) a late) behind a
      (Some (record { 0 = least_on t.bounds late behind (label_facts a) }))) same
      (fare_cost_on asked serves late behind a fare within few))

  -- where no journey costs so much, none goes on so
  pub told_never : (price : ℤ) → price ≡ least_on of.bounds late behind (label_facts a) → far ≤ℤ price →
      CostOn (task_of at_most fare_terms asked) (IsLateIf (fare_terms of) a late) behind a None
  told_never price is costs =
      subst (λ (t : TariffOf). CostOn (task_of at_most fare_terms asked) (IsLateIf (fare_terms t) a late) behind a None) same
      (λ triple leads. absurd (far_never asked serves late behind a fare within few
      (subst (λ (t : TariffOf). far ≤ℤ least_on t.bounds late behind (label_facts a)) (sym same)
      (subst (λ (z : ℤ). far ≤ℤ z) is costs)) triple leads))

-- ---- late rides

-- past such a moment rides are late
pub late_past : (of : TariffOf) (a : Facts Fare) (last : ℤ) (o : Option Moment) → IfSome o (IsLateSince of.bounds a.fare.state last) →
    (moment : Moment) → o ≡ Some moment → AreLate (fare_terms of) a moment.0 last
late_past of a last o told moment is ride departs before =
    let since = subst (λ (p : Option Moment). IfSome p (IsLateSince of.bounds a.fare.state last)) is told in
    record {
      moment = since.moment;
      is = since.is;
      later =
          ⊎_elim (λ earlier. after_it since.moment moment.0 ride.departure.0 earlier departs)
          (λ past. absurd (never moment.0 ride.departure.0 last departs before past)) since.past;
    }
  where
    after_it : (x y z : ℤ) → x ≤ℤ y → y <ℤ z → x <ℤ z
    after_it x y z p q = omega (arith, ints, p, q)

    never : (x y z : ℤ) → x <ℤ y → y ≤ℤ z → z ≤ℤ x → ⊥
    never x y z p q r = omega (arith, ints, p, q, r)
