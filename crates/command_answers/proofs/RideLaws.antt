-- What a word must name to name a ride.
use Rattle.std.proofs.Common.{◌≡◌, refl, sym, ◌∙◌, Bool, true, false, Option, Some, None}
use Rattle.std.specs.Prelude.{if◌then◌else◌, slice_get, option_map, option_and_then}
use Rattle.std.proofs.lemmas.Option.{none-some}
use Rattle.feed_rows.specs.FeedRows.{FeedRows}
use Rattle.feed_rows.specs.Calls.{calls_of}
use Rattle.feed_rows.specs.Rides.{is_ride, ride_facts, facts_between}
use Rattle.feed_rows.specs.declared.journeys.Call.{Call}
use Rattle.feed_rows.specs.declared.journeys.Ride.{Ride}
use Rattle.feed_rows.specs.declared.journeys.RideFacts.{RideFacts}
use Rattle.plain_laws.specs.Plain.{when}
use Rattle.plain_laws.proofs.Laws.{filled_and-true}
use Rattle.feed_laws.proofs.RideLaws.{is_ride_tells}

if_some : {X : Type 0} (b : Bool) (o : Option X) (x : X) → (if b then o else None) ≡ Some x → b ≡ true
if_some true o x e = refl
if_some false o x e = absurd (none-some x e)

if_none : {X : Type 0} (b : Bool) (o : Option X) → (if b then o else None) ≡ None → b ≡ true → o ≡ None
if_none true o e t = e
if_none false o e t = absurd (cc)

-- a ride of which it is known where it goes is one of the feed
pub ride_known : (feed : FeedRows) (ride : Ride) (facts : RideFacts) → ride_facts feed ride ≡ Some facts → Some ride ≡ when (is_ride feed ride) ride
unfolding ride_facts
ride_known feed ride facts is = rw (if_some (is_ride feed ride) _ facts is) refl

-- and of another it isn't
pub ride_unknown : (feed : FeedRows) (ride : Ride) → ride_facts feed ride ≡ None → None ≡ when (is_ride feed ride) ride
unfolding ride_facts
ride_unknown feed ride none = by (is_ride feed ride) refl
  where
    no_facts : (from to : Option Call) (a b : Call) → from ≡ Some a → to ≡ Some b
        → option_and_then (λ boarding. option_map (facts_between feed ride boarding) to) from ≡ None → ⊥
    no_facts from to a b f t e = none-some (facts_between feed ride a b) (sym e ∙ rw (f, t) refl)

    by : (b : Bool) → is_ride feed ride ≡ b → None ≡ when (is_ride feed ride) ride
    by false is = rw is refl
    by true is =
        let tested = is_ride_tells feed ride is in
        let boards = filled_and-true (slice_get (calls_of feed ride.trip) ride.from) (λ call. call.pickup) tested.pickup in
        let alights = filled_and-true (slice_get (calls_of feed ride.trip) ride.to) (λ call. call.drop_off) tested.drop_off in
        absurd (no_facts (slice_get (calls_of feed ride.trip) ride.from) (slice_get (calls_of feed ride.trip) ride.to)
        boards.value alights.value boards.is alights.is (if_none (is_ride feed ride) _ none is))
