-- What a search by rounds is told of fares.
use Rattle.std.specs.Prelude.{◌≡◌, ℕ, ◌*◌, ◌^◌, ◌≤◌, ◌==◌, ◌&&◌, Bool, is_none, slice_get, Option, Some, None, nat_abs, ℤ, pos, ◌+ℤ◌, ◌<ℤ◌, List, false, true}
use Rattle.std.specs.Option.{option_eq}
use Rattle.feed_rows.specs.declared.journeys.Query.{Query}
use Rattle.feed_rows.specs.declared.journeys.RideFacts.{RideFacts}
use Rattle.feed_rows.specs.declared.states.FareState.{FareState}
use Rattle.feed_rows.specs.declared.states.Move.{Move}
use Rattle.feed_rows.specs.declared.fares.Triple.{Triple}
use Rattle.feed_rows.specs.declared.journeys.Buyer.{Buyer}
use Rattle.feed_rows.specs.Amounts.{Spent, is_no_dearer}
use Rattle.fare_automaton.specs.Terms.{terms}
use Rattle.fare_bounds.specs.FareBounds.{AreFareBounds, BoundLists, late_after}
use Rattle.fare_bounds.specs.LastChanges.{AreLastChanges}
use Rattle.fare_tariff.specs.Lasts.{AreLastMoves}
use Rattle.feed_rows.specs.FareChoices.{chosen_leg, is_leg_choice}
use Rattle.feed_rows.specs.FareSteps.{asked_after, is_arranged_after, leg_taken, move_after}
use Rattle.feed_rows.specs.TransferRules.{FareLeg}
use Rattle.plain_laws.specs.Plain.{filled_and}
use Rattle.feed_rows.specs.FeedRows.{FeedRows}
use Rattle.feed_rows.specs.Journeys.{Asked as OverFeed}
use Rattle.feed_rows.specs.Legs.{leg_facts}
use Rattle.feed_rows.specs.PartialJourneys.{LabelFacts}
use Rattle.feed_rows.specs.SameStates.{same_parts}
use Rattle.feed_rows.specs.SoundFeed.{IsSoundFeed}
use Rattle.leg_kinds.specs.Kinds.{IsOfKind}
use Rattle.plan_rides.specs.InTime.{IsUsualQuery}
use Rattle.round_laws.specs.Futility.{least_end}
use Rattle.round_terms.specs.Tasks.{Asked, Task}
use Rattle.round_terms.specs.Terms.{Facts, Terms}
use Rattle.fare_tariff.specs.declared.fare.Fare.{Fare}
use Rattle.fare_tariff.specs.declared.legs.FareLegs.{FareLegs}
use Rattle.fare_tariff.specs.declared.prices.LeastPrices.{LeastPrices}
use Rattle.fare_tariff.specs.Groups.{IsGrouped}

-- ---- fares

-- what was paid, and what is held
abbrev pub spent_of : Fare → Spent
spent_of fare = record { paid = fare.paid.0; held = fare.held.0 }

-- both states are there and the same, or neither is there
abbrev pub same_state : Option FareState → Option FareState → Bool
same_state = option_eq same_parts

-- the one is no dearer, and in the same state
unfoldable pub at_most : Fare → Fare → Bool
at_most a b = is_no_dearer (spent_of a) (spent_of b) && same_state a.state b.state

-- what is kept after a move that pays one ride more
abbrev pub fare_after : Fare → Move → Fare
fare_after fare move = record { paid = record { 0 = fare.paid.0 +ℤ move.paid.0 }; held = move.held; state = Some move.state }

-- the amounts are within what so many rides can cost, and there is a state exactly where there is a ride
pub record IsFare (rides : ℕ) (fare : Fare) : Type 0 where
  pub paid : nat_abs fare.paid.0 ≤ 3 * 10 ^ 12 * rides
  pub held : nat_abs fare.held.0 ≤ 10 ^ 12
  pub stated : (rides == 0) ≡ is_none fare.state

-- such facts as tables of labels have them, and the other way
abbrev pub label_facts : Facts Fare → LabelFacts
label_facts a = record {
  stop = a.stop;
  arrival = a.arrival;
  rides = a.rides;
  paid = a.fare.paid.0;
  held = a.fare.held.0;
  state = a.fare.state;
}

abbrev pub facts_by : LabelFacts → Facts Fare
facts_by a = record {
  stop = a.stop;
  arrival = a.arrival;
  rides = a.rides;
  fare = record { paid = record { 0 = a.paid }; held = record { 0 = a.held }; state = a.state };
}

-- ---- what is known of them

-- the ride departs later than a moment past which rides are late after the state
pub record IsLateAfter (bounds : BoundLists) (state : Option FareState) (ride : RideFacts) : Type 0 where
  pub moment : ℤ
  pub is : late_after bounds state ≡ Some moment
  pub later : moment <ℤ ride.departure.0

-- no change is arranged from the state to the leg that is the ride, whichever rule makes it one
pub record IsSettledFor (feed : FeedRows) (buyer : Buyer) (state : Option FareState) (ride : RideFacts) : Type 0 where
  pub own : FareState
  pub is : state ≡ Some own
  pub apart : (move : Move) (next : FareLeg) → chosen_leg feed (leg_facts feed ride) (leg_taken move) ≡ Some next →
      is_leg_choice feed buyer (leg_facts feed ride) (leg_taken move) ≡ true →
      filled_and (asked_after own next) (is_arranged_after feed) ≡ false

-- they are bounds by the fare rules for the query's buyer and rides, and for journeys that end with legs of these groups, as all do
pub record AreLeast (feed : FeedRows) (query : Query) (told : BoundLists) : Type 0 where
  pub lasts : List Bool
  pub bounds : AreFareBounds feed query.buyer query.rides lasts told
  pub are : AreLastMoves feed query lasts

-- the feed and the query, whether the search is to be whole, and what further rides cost at least
pub record TariffOf : Type 0 where
  pub feed : FeedRows
  pub query : Query
  pub whole : Bool
  pub bounds : BoundLists

-- by the query over the feed, and by what is told of the least prices
abbrev pub tariff_of : OverFeed → LeastPrices → Bool → TariffOf
tariff_of over prices whole = record { feed = over.feed; query = over.query; whole = whole; bounds = prices.bounds }

abbrev pub fare_terms : TariffOf → Terms Fare Move
fare_terms of = record {
  begins = record { paid = record { 0 = pos 0 }; held = record { 0 = pos 0 }; state = None };
  Pays = λ a ride move. move_after of.feed of.query.buyer a.fare.state a.fare.held.0 (leg_facts of.feed ride) move ≡ Some move;
  after = λ a ride move. fare_after a.fare move;
  price = λ fare. fare.paid.0 +ℤ fare.held.0;
  least = λ a. least_end of.feed of.query of.whole (label_facts a);
  IsLate = λ a ride. IsLateAfter of.bounds a.fare.state ride;
  IsSettled = λ a ride. IsSettledFor of.feed of.query.buyer a.fare.state ride;
  IsFare = IsFare;
}

-- it is the tariff of the query over the feed
pub record Serves (asked : Asked TariffOf) : Type 0 where
  pub feed : asked.tariff.feed ≡ asked.feed
  pub query : asked.tariff.query ≡ asked.query
  pub whole : asked.tariff.whole ≡ asked.whole
  pub sound : IsSoundFeed asked.feed
  pub usual : IsUsualQuery asked.query
  pub least : AreLeast asked.feed asked.query asked.tariff.bounds

-- such a search
abbrev pub fare_task : TariffOf → Bool → List Triple → Task Fare Move
fare_task of loose given = record {
  at_most = at_most;
  terms = fare_terms of;
  feed = of.feed;
  query = of.query;
  whole = of.whole;
  loose = loose;
  given = given;
}

-- ---- what is known of rides

-- it is known of the ride at the place: of which kind its leg is, whose options are enough for it; their groups are among these, and
-- until when changes to those are arranged is told
pub record IsKnown (feed : FeedRows) (buyer : Buyer) (legs : FareLegs) (place : ℕ) (ride : RideFacts) : Type 0 where
  pub kind : ℕ
  pub at : slice_get legs.kinds.items place ≡ Some kind
  pub of : IsOfKind legs.known.lists (leg_facts feed ride) kind
  pub grouped : IsGrouped feed buyer legs.groups.items (leg_facts feed ride)
  pub changes : AreLastChanges feed legs.groups.items legs.changes

-- what is known is known by the fare rules for the buyer
abbrev pub Knows : FeedRows → Buyer → FareLegs → Type 0
Knows feed buyer legs = legs.known.terms ≡ terms feed buyer
