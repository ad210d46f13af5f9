-- Arrivals within a query's window.
use Rattle.std.proofs.Common.{◌≡◌, refl, ◌∙◌, ap, subst, true, arith, ℤ, ◌≤ℤ◌}
use Rattle.std.specs.Prelude.{Some, int_le}
use Rattle.std.proofs.lemmas.Int.{ints}
use Rattle.std.proofs.lemmas.Option.{cond_some}
use Rattle.transit_base.specs.declared.numbers.StopId.{StopId}
use Rattle.feed_rows.specs.declared.journeys.Query.{Query}
use Rattle.feed_rows.specs.FeedRows.{FeedRows}
use Rattle.feed_rows.specs.JourneyStands.{Stand, end_arrival}
use Rattle.plain_laws.specs.Plain.{when}
use Rattle.plain_laws.proofs.Laws.{chain_gives, le-int_le}
use Rattle.plan_rides.specs.InTime.{arrival_in_time}
use Rattle.plan_rides.specs.InTime.{deadline}

-- an arrival in time is an arrival, and in time
pub arrives_in_time : (feed : FeedRows) (query : Query) (stand : Stand) (last : StopId) (arrival : ℤ) → arrival_in_time feed query stand last ≡ Some arrival → (end_arrival feed query stand last ≡ Some arrival) × (arrival ≤ℤ deadline query)
unfolding arrival_in_time
arrives_in_time feed query stand last arrival e =
    let got = chain_gives (λ z. when (int_le z (deadline query)) z) (end_arrival feed query stand last) arrival e in
    let late = cond_some (int_le got.value (deadline query)) got.value arrival got.gives in
    (got.is ∙ ap Some late.1, subst (λ z. z ≤ℤ deadline query) late.1 (from_test got.value (deadline query) late.0))
  where
    from_test : (x y : ℤ) → int_le x y ≡ true → x ≤ℤ y
    from_test x y h = grind (arith, ints)

-- and each that is
pub in_time_arrives : (feed : FeedRows) (query : Query) (stand : Stand) (last : StopId) (arrival : ℤ) → end_arrival feed query stand last ≡ Some arrival →
    arrival ≤ℤ deadline query → arrival_in_time feed query stand last ≡ Some arrival
unfolding arrival_in_time
in_time_arrives feed query stand last arrival is until = rw (is, le-int_le _ _ until) refl
