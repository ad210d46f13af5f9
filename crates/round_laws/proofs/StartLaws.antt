-- Partial journeys without rides: the stops of the origin, and no others.
use Rattle.std.proofs.Common.{◌≡◌, refl, sym, ◌∙◌, ap, subst, true, List, [], arith}
use Rattle.std.specs.Prelude.{Some, IsTrue, IsSome}
use Rattle.std.proofs.lemmas.Option.{same_Some}
use Rattle.std.proofs.lemmas.List.Elements.{All-nil}
use Rattle.transit_base.specs.declared.numbers.StopId.{StopId}
use Rattle.feed_rows.specs.declared.journeys.Buyer.{Buyer}
use Rattle.feed_rows.specs.declared.fares.Choice.{Choice}
use Rattle.feed_rows.specs.declared.journeys.LegFacts.{LegFacts}
use Rattle.feed_rows.specs.declared.journeys.Query.{Query}
use Rattle.feed_rows.specs.declared.journeys.Ride.{Ride}
use Rattle.feed_rows.specs.FareChoices.{is_fare_choice}
use Rattle.feed_rows.specs.FareStates.{paid_amount, held_amount, fare_state}
use Rattle.feed_rows.specs.FareSums.{fare_sum}
use Rattle.feed_rows.specs.FeedRows.{FeedRows}
use Rattle.feed_rows.specs.JourneyEntries.{rides_price}
use Rattle.feed_rows.specs.Journeys.{stands_for}
use Rattle.feed_rows.specs.Legs.{legs_of}
use Rattle.feed_rows.specs.PartialJourneys.{PartialJourney, LabelFacts, arrives_in_window, label_facts}
use Rattle.feed_rows.specs.Rides.{is_ride}
use Rattle.feed_rows.specs.RoundTables.{start_at}
use Rattle.plain_laws.proofs.Laws.{no_item}
use Rattle.fare_laws.proofs.StartLaws.{none_paid}
use Rattle.round_laws.specs.LabelSteps.{HasFacts, start_facts}
use Rattle.round_laws.proofs.PartLaws.{parts_of_facts, part_paid, length_of_legs}

-- the facts at a start
start_label_facts : (feed : FeedRows) (query : Query) (stop : StopId) →
    label_facts feed query (start_at stop) ≡ Some (start_facts query stop)
unfolding label_facts legs_of paid_amount held_amount fare_sum fare_state
start_label_facts feed query stop = refl

-- nothing is due for no rides
nothing_due : (feed : FeedRows) (buyer : Buyer) →
    IsSome (rides_price feed [] (record { legs = []; changes = [] }) buyer)
unfolding legs_of is_fare_choice
nothing_due feed buyer = refl

-- a stop of the origin is a partial journey without rides
pub start_has_facts : (feed : FeedRows) (query : Query) (stop : StopId) → IsTrue (stands_for feed query.from stop) →
    HasFacts feed query (start_at stop) (start_facts query stop)
start_has_facts feed query stop starts = record {
  partial = record {
    starts = starts;
    rides = All-nil (λ (ride : Ride). IsTrue (is_ride feed ride));
    few = omega arith;
    begins = refl;
    goes_on = λ i lt. absurd (omega (arith, lt));
    in_time = All-nil (λ (ride : Ride). IsTrue (arrives_in_window feed query ride));
    pays = nothing_due feed query.buyer;
  };
  facts = start_label_facts feed query stop;
}

-- a partial journey without rides is a stop of the origin
pub record IsAtStart (feed : FeedRows) (query : Query) (part : PartialJourney) (a : LabelFacts) : Type 0 where
  pub starts : IsTrue (stands_for feed query.from part.first)
  pub same : part ≡ start_at part.first
  pub facts : a ≡ start_facts query part.first

pub start_of_facts : (feed : FeedRows) (query : Query) (part : PartialJourney) (a : LabelFacts) →
    HasFacts feed query part a → a.rides ≡ 0 → IsAtStart feed query part a
start_of_facts feed query part a h none =
    let p = parts_of_facts feed query part a h.facts in
    let rides = no_item part.rides (p.rides ∙ none) in
    let legs = no_item p.legs (length_of_legs feed part.rides p.legs p.is ∙ p.rides ∙ none) in
    let pays =
    subst (λ (ls : List LegFacts). is_fare_choice feed ls part.choice query.buyer ≡ true) legs
    (part_paid feed query part p.legs h.partial p.is) in
    let same = by part.rides part.choice rides (none_paid feed query.buyer part.choice pays) in
    record {
      starts = h.partial.starts;
      same = same;
      facts = same_Some _ _ (sym h.facts ∙ ap (label_facts feed query) same ∙ start_label_facts feed query part.first);
    }
  where
    by : (rides : List Ride) (choice : Choice) → rides ≡ [] → choice ≡ record { legs = []; changes = [] } →
        ◌≡◌ {A = PartialJourney} (record { first = part.first; rides = rides; choice = choice }) (start_at part.first)
    by rides choice e f = rw (e, f) refl
