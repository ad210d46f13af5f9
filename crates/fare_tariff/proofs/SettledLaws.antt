-- Rides that are late enough are settled after a fare.
use Rattle.std.proofs.Common.{◌≡◌, refl, sym, ◌∙◌, ap, List, arith, ℤ, ◌≤ℤ◌, ◌<ℤ◌}
use Rattle.std.specs.Prelude.{Option, Some, None, IfSome, slice_get, option_map}
use Rattle.std.proofs.lemmas.Int.{ints}
use Rattle.std.proofs.lemmas.Option.{same_Some, none-some}
use Rattle.transit_base.specs.Limits.{most_time}
use Rattle.transit_base.specs.declared.moments.Moment.{Moment}
use Rattle.transit_base.specs.declared.numbers.LegGroupId.{LegGroupId}
use Rattle.feed_rows.specs.declared.fares.LegChoice.{LegChoice}
use Rattle.feed_rows.specs.declared.journeys.LegFacts.{LegFacts}
use Rattle.feed_rows.specs.declared.journeys.RideFacts.{RideFacts}
use Rattle.feed_rows.specs.declared.rows.LegRuleRow.{LegRuleRow}
use Rattle.feed_rows.specs.declared.states.FareState.{FareState}
use Rattle.feed_rows.specs.FareChoices.{chosen_leg}
use Rattle.feed_rows.specs.FareSteps.{leg_taken}
use Rattle.feed_rows.specs.FeedRows.{FeedRows}
use Rattle.feed_rows.specs.Legs.{leg_facts}
use Rattle.feed_rows.specs.TransferRules.{FareLeg}
use Rattle.feed_laws.proofs.RideLaws.{ride_facts_timed}
use Rattle.feed_laws.proofs.SoundTrips.{sound_trip}
use Rattle.fare_automaton.specs.Fewest.{group_of}
use Rattle.fare_bounds.specs.LastChanges.{IsSettled, last_after}
use Rattle.round_terms.specs.Legs.{AreSettled}
use Rattle.round_terms.specs.Tasks.{Asked}
use Rattle.round_terms.specs.Terms.{Facts}
use Rattle.fare_tariff.specs.declared.fare.Fare.{Fare}
use Rattle.fare_tariff.specs.declared.legs.FareLegs.{FareLegs}
use Rattle.fare_tariff.specs.FareTerms.{IsKnown, Serves, TariffOf, fare_terms}

-- what is settled since a moment is so since a later one
settled_later : (feed : FeedRows) (groups : List (Option LegGroupId)) (state : FareState) (at since : ℤ) → at ≤ℤ since →
    IsSettled feed groups state at → IsSettled feed groups state since
settled_later feed groups state at since le settled next past order has = settled next (before at since next.departure.0 le past) order has
  where
    before : (x y z : ℤ) → x ≤ℤ y → y <ℤ z → x <ℤ z
    before x y z p q = omega (arith, ints, p, q)

-- what a choice makes of a leg
chosen_tells : (feed : FeedRows) (leg : LegFacts) (pick : LegChoice) (next : FareLeg) → chosen_leg feed leg pick ≡ Some next →
    (group_of feed pick ≡ Some next.group) × (next.departure ≡ leg.departure) × (next.arrival ≡ leg.arrival)
chosen_tells feed leg pick next is = by (slice_get feed.leg_rules pick.rule.0) is
  where
    by : (row : Option LegRuleRow) →
        option_map (λ rule. record { group = rule.group; departure = leg.departure; arrival = leg.arrival }) row ≡ Some next →
        (option_map (λ (rule : LegRuleRow). rule.group) row ≡ Some next.group) × (next.departure ≡ leg.departure)
        × (next.arrival ≡ leg.arrival)
    by None e = absurd (none-some next e)
    by (Some rule) e =
        let same = same_Some _ next e in (
          ap (λ (l : FareLeg). Some l.group) same,
          sym (ap (λ (l : FareLeg). l.departure) same),
          sym (ap (λ (l : FareLeg). l.arrival) same),
        )

leg_departs : (feed : FeedRows) (facts : RideFacts) → (leg_facts feed facts).departure ≡ facts.departure
unfolding leg_facts
leg_departs feed facts = refl

leg_arrives : (feed : FeedRows) (facts : RideFacts) → (leg_facts feed facts).arrival ≡ facts.arrival
unfolding leg_facts
leg_arrives feed facts = refl

-- rides of which it is known are settled past the moment past which no change to their groups is arranged after the state
settled_past : (asked : Asked TariffOf) → Serves asked → (legs : FareLegs) (a : Facts Fare) (own : FareState) → a.fare.state ≡ Some own →
    (at : ℤ) → last_after legs.changes own ≡ Some at → (since : Moment) → at ≤ℤ since.0 →
    AreSettled (fare_terms asked.tariff) asked.feed (IsKnown asked.tariff.feed asked.tariff.query.buyer legs) a since.0
settled_past asked serves legs a own is at told since le place caught known of_ride departs = record {
  own = own;
  is = is;
  apart = λ move next chosen pays.
      let feed = asked.tariff.feed in
      let tells = chosen_tells feed (leg_facts feed caught.facts) (leg_taken move) next chosen in
      let timed =
      ride_facts_timed asked.feed caught.ride caught.facts most_time (sound_trip asked.feed caught.ride.trip serves.sound) of_ride in
      let departure = tells.1 ∙ leg_departs feed caught.facts in
      let arrival = tells.2 ∙ leg_arrives feed caught.facts in
      settled_later feed legs.groups.items own at since.0 le (known.changes.settled own at told) next
      (rw departure departs)
      (rw (departure, arrival) timed.forward)
      (known.grouped (leg_taken move) pays next.group tells.0);
}

-- so they are past such a moment or a later one
pub settled_at : (asked : Asked TariffOf) → Serves asked → (legs : FareLegs) (a : Facts Fare) (own : FareState) → a.fare.state ≡ Some own →
    (past : Option ℤ) → past ≡ last_after legs.changes own → (o : Option Moment) → (past ≡ None → o ≡ None) →
    ((at : ℤ) → past ≡ Some at → IfSome o (λ since. at ≤ℤ since.0)) →
    IfSome o
    (λ since. AreSettled (fare_terms asked.tariff) asked.feed (IsKnown asked.tariff.feed asked.tariff.query.buyer legs) a since.0)
settled_at asked serves legs a own is past told None none later = tt
settled_at asked serves legs a own is None told (Some since) none later = absurd (none-some since (sym (none refl)))
settled_at asked serves legs a own is (Some at) told (Some since) none later =
    settled_past asked serves legs a own is at (sym told) since (later at refl)
