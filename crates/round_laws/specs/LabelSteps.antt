-- How a partial journey goes on by one more ride, and how a journey ends, told by what a search compares partial
-- journeys by.
use Rattle.std.specs.Prelude.{◌≡◌, ◌+◌, ◌<◌, ◌==◌, IsTrue, Some, None, is_none, ℤ, pos, ◌+ℤ◌, ◌≤ℤ◌}
use Rattle.transit_base.specs.declared.numbers.StopId.{StopId}
use Rattle.feed_rows.specs.declared.fares.Triple.{Triple}
use Rattle.feed_rows.specs.declared.journeys.Query.{Query}
use Rattle.feed_rows.specs.declared.journeys.Ride.{Ride}
use Rattle.feed_rows.specs.declared.journeys.RideFacts.{RideFacts}
use Rattle.feed_rows.specs.declared.states.Move.{Move}
use Rattle.feed_rows.specs.FareSteps.{move_after}
use Rattle.feed_rows.specs.FeedRows.{FeedRows}
use Rattle.feed_rows.specs.Journeys.{stands_for, is_caught}
use Rattle.feed_rows.specs.JourneyStands.{Stand, way_to, end_arrival}
use Rattle.feed_rows.specs.LabelCover.{Covers, price_so_far}
use Rattle.feed_rows.specs.Legs.{leg_facts}
use Rattle.feed_rows.specs.ParetoTriples.{at_most}
use Rattle.feed_rows.specs.PartialJourneys.{PartialJourney, LabelFacts, IsPartialJourney, label_facts}
use Rattle.feed_rows.specs.Rides.{ride_facts}
use Rattle.search_laws.specs.Ways.{Ways}

-- a search compares this partial journey of the query by these facts
pub record HasFacts (feed : FeedRows) (query : Query) (part : PartialJourney) (a : LabelFacts) : Type 0 where
  pub partial : IsPartialJourney feed query part
  pub facts : label_facts feed query part ≡ Some a

-- those of the partial journey without rides from this stop
abbrev pub start_facts : Query → StopId → LabelFacts
start_facts query stop =
    record { stop = stop; arrival = query.departure.0; rides = 0; paid = pos 0; held = pos 0; state = None }

-- where and since when one stands
abbrev pub stand_of_facts : LabelFacts → Stand
stand_of_facts a = record { stop = a.stop; at = a.arrival; fresh = a.rides == 0 }

-- fares are in a state exactly where there is a ride
abbrev pub IsStated : LabelFacts → Type 0
IsStated a = (a.rides == 0) ≡ is_none a.state

-- the latest arrival of the query
abbrev pub latest : Query → ℤ
latest query = query.departure.0 +ℤ pos query.window

-- the facts after one more ride, which the move pays
abbrev pub facts_after : LabelFacts → RideFacts → Move → LabelFacts
facts_after a ride move =
    record {
      stop = ride.to;
      arrival = ride.arrival.0;
      rides = a.rides + 1;
      paid = a.paid +ℤ move.paid.0;
      held = move.held.0;
      state = Some move.state;
    }

-- a ride that is caught from there within the query's window and limit of rides
pub record IsCaughtRide (feed : FeedRows) (query : Query) (a : LabelFacts)
    (ride : Ride) (facts : RideFacts) : Type 0 where
  pub is : ride_facts feed ride ≡ Some facts
  pub few : a.rides < query.rides
  pub caught : IsTrue (is_caught a.arrival (way_to feed query (stand_of_facts a) facts.from) facts)
  pub in_time : facts.arrival.0 ≤ℤ latest query

-- by the ride, which the move pays, the one goes on to the other
pub record IsLabelStep (feed : FeedRows) (query : Query) (a : LabelFacts)
    (ride : Ride) (move : Move) (b : LabelFacts) : Type 0 where
  pub facts : RideFacts
  pub rides : IsCaughtRide feed query a ride facts
  pub pays : move_after feed query.buyer a.state a.held (leg_facts feed facts) move ≡ Some move
  pub next : b ≡ facts_after a facts move

-- a journey that takes no ride more ends at this stop with this triple
pub record IsLabelEnd (feed : FeedRows) (query : Query) (a : LabelFacts)
    (last : StopId) (triple : Triple) : Type 0 where
  pub ends : IsTrue (stands_for feed query.to last)
  pub arrives : end_arrival feed query (stand_of_facts a) last ≡ Some triple.arrival.0
  pub in_time : triple.arrival.0 ≤ℤ latest query
  pub rides : triple.rides ≡ a.rides
  pub price : triple.price.0 ≡ price_so_far a

-- so a search goes on from the facts of partial journeys
abbrev pub ways : FeedRows → Query → Ways LabelFacts Ride Move StopId Triple
ways feed query = record {
  Starts = λ a. IsTrue (stands_for feed query.from a.stop) × (a ≡ start_facts query a.stop);
  Steps = IsLabelStep feed query;
  Ends = IsLabelEnd feed query;
  Covers = Covers;
  IsSound = IsStated;
  at_most = at_most;
}
