-- The legs of rides of which it is known where they go.
use Rattle.std.proofs.Common.{◌≡◌, sym, ◌∙◌, ap, ℕ, zero, suc, ◌+◌, List, [], ◌∷◌, ◌++◌, length, Option, Some, None, arith}
use Rattle.std.specs.Prelude.{slice_get, option_map}
use Rattle.std.proofs.lemmas.List.{length-map}
use Rattle.std.proofs.lemmas.Option.{same_Some}
use Rattle.feed_rows.specs.FeedRows.{FeedRows}
use Rattle.feed_rows.specs.Journeys.{facts_at}
use Rattle.feed_rows.specs.Legs.{leg_facts, legs_of}
use Rattle.feed_rows.specs.declared.journeys.Buyer.{Buyer}
use Rattle.feed_rows.specs.declared.journeys.LegFacts.{LegFacts}
use Rattle.feed_rows.specs.declared.journeys.Ride.{Ride}
use Rattle.plain_laws.specs.Plain.{collect_below}
use Rattle.plain_laws.proofs.Laws.{collect_below_more, collect_below_tells}
use Rattle.feed_laws.proofs.LeastPriceLaws.{least_price_of_rides, uncovered_rides}
use Rattle.fare_price.specs.Prices.{IsLeastOrNone}
use Rattle.fare_price.specs.declared.Priced.{Priced}
use Rattle.command_answers.specs.declared.ride_prices.rides.NamedRide.{NamedRide}
use Rattle.command_answers.specs.NamedRides.{rides_of, AreKnown}
use Rattle.command_answers.specs.RidePrices.{IsLeastOfRides}

-- these are the legs of the first so many rides
abbrev pub AreLegsBelow : FeedRows → List NamedRide → ℕ → List LegFacts → Type 0
AreLegsBelow feed named n legs = collect_below n (λ i. option_map (leg_facts feed) (facts_at feed (rides_of named) i)) ≡ Some legs

-- where a known ride goes, by its place
pub facts_known : (feed : FeedRows) (named : List NamedRide) (i : ℕ) (ride : NamedRide) → AreKnown feed named → slice_get named i ≡ Some ride
    → facts_at feed (rides_of named) i ≡ Some ride.facts
facts_known feed (first ∷ named) zero ride known at =
    known 0 first (omega arith) ∙ ap (λ (r : NamedRide). Some r.facts) (same_Some first ride at)
facts_known feed (first ∷ named) (suc i) ride known at =
    facts_known feed named i ride (λ k d lt. known (suc k) d (omega arith)) at
facts_known feed [] i ride known at = absurd (cc)

-- the legs of the first so many rides, with one more
pub one_more_leg : (feed : FeedRows) (named : List NamedRide) (k : ℕ) (ride : NamedRide) (before now : List LegFacts) (leg : LegFacts)
    → AreKnown feed named → slice_get named k ≡ Some ride → AreLegsBelow feed named k before → leg ≡ leg_facts feed ride.facts
    → now ≡ before ++ leg ∷ [] → AreLegsBelow feed named (k + 1) now
one_more_leg feed named k ride before now leg known at were is made =
    let here : option_map (leg_facts feed) (facts_at feed (rides_of named) k) ≡ Some leg =
    ap (option_map (leg_facts feed)) (facts_known feed named k ride known at) ∙ ap Some (sym is) in
    collect_below_more k (λ i. option_map (leg_facts feed) (facts_at feed (rides_of named) i)) before leg were here ∙ ap Some (sym made)

-- the legs of all of them
pub all_legs : (feed : FeedRows) (named : List NamedRide) (legs : List LegFacts) → AreLegsBelow feed named (length named) legs
    → legs_of feed (rides_of named) ≡ Some legs
unfolding legs_of
all_legs feed named legs are =
    ap (λ n. collect_below n (λ i. option_map (leg_facts feed) (facts_at feed (rides_of named) i))) (length-map named (λ (n : NamedRide). n.ride)) ∙ are

-- there is a leg for each ride
pub legs_many : (feed : FeedRows) (named : List NamedRide) (legs : List LegFacts) → legs_of feed (rides_of named) ≡ Some legs → length legs ≡ length named
unfolding legs_of
legs_many feed named legs is =
    let tells = collect_below_tells (length (rides_of named)) _ legs is in
    tells.length_is ∙ length-map named (λ (n : NamedRide). n.ride)

-- the least price of legs is that of their rides
pub least_of_legs : (feed : FeedRows) (rides : List Ride) (legs : List LegFacts) (buyer : Buyer) (priced : Option Priced)
    → legs_of feed rides ≡ Some legs → IsLeastOrNone feed legs buyer priced → IsLeastOfRides feed rides buyer priced
least_of_legs feed rides legs buyer None is least = uncovered_rides feed rides legs buyer is least
least_of_legs feed rides legs buyer (Some priced) is least = least_price_of_rides feed rides legs buyer is priced.choice priced.sum.0 least
