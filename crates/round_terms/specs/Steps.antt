-- How partial journeys go on by one more ride, and how journeys end, told by what a search compares partial journeys by.
use Rattle.std.specs.Prelude.{◌≡◌, ℕ, ◌<◌, ◌==◌, IsTrue, Some, ◌≤ℤ◌}
use Rattle.transit_base.specs.declared.numbers.StopId.{StopId}
use Rattle.feed_rows.specs.declared.fares.Triple.{Triple}
use Rattle.feed_rows.specs.declared.journeys.Query.{Query}
use Rattle.feed_rows.specs.declared.journeys.Ride.{Ride}
use Rattle.feed_rows.specs.declared.journeys.RideFacts.{RideFacts}
use Rattle.feed_rows.specs.FeedRows.{FeedRows}
use Rattle.feed_rows.specs.Journeys.{stands_for, is_caught}
use Rattle.feed_rows.specs.JourneyStands.{Stand, way_to, end_arrival}
use Rattle.feed_rows.specs.ParetoTriples.{at_most as is_no_worse}
use Rattle.feed_rows.specs.Rides.{ride_facts}
use Rattle.plan_rides.specs.InTime.{deadline}
use Rattle.search_laws.specs.Ways.{Ways}
use Rattle.round_terms.specs.Terms.{Covers, Facts, Terms, facts_after}
use Rattle.round_terms.specs.Tasks.{Task}

-- those of a journey without rides from this stop
abbrev pub start_facts : {F M : Type 0} → Terms F M → Query → StopId → Facts F
start_facts t query stop = record { stop = stop; arrival = query.departure.0; rides = 0; fare = t.begins }

-- where and since when one stands
abbrev pub stand_of_facts : {F : Type 0} → Facts F → Stand
stand_of_facts a = record { stop = a.stop; at = a.arrival; fresh = a.rides == 0 }

-- after so many rides, the ride is caught from where one stands, within the query's window and limit of rides
pub record IsCaughtFrom (feed : FeedRows) (query : Query) (stand : Stand) (rides : ℕ) (ride : Ride) (facts : RideFacts) : Type 0 where
  pub is : ride_facts feed ride ≡ Some facts
  pub few : rides < query.rides
  pub caught : IsTrue (is_caught stand.at (way_to feed query stand facts.from) facts)
  pub in_time : facts.arrival.0 ≤ℤ deadline query

-- by the ride, which the move pays, the one goes on to the other
pub record IsStep {F M : Type 0} (task : Task F M) (a : Facts F) (ride : Ride) (move : M)
    (b : Facts F) : Type 0 where
  pub fare : task.terms.IsFare a.rides a.fare
  pub facts : RideFacts
  pub rides : IsCaughtFrom task.feed task.query (stand_of_facts a) a.rides ride facts
  pub pays : task.terms.Pays a facts move
  pub next : b ≡ facts_after task.terms a facts move

-- a journey that takes no ride more ends at this stop with this triple
pub record IsEnd {F M : Type 0} (task : Task F M) (a : Facts F) (last : StopId) (triple : Triple) : Type 0 where
  pub ends : IsTrue (stands_for task.feed task.query.to last)
  pub arrives : end_arrival task.feed task.query (stand_of_facts a) last ≡ Some triple.arrival.0
  pub in_time : triple.arrival.0 ≤ℤ deadline task.query
  pub rides : triple.rides ≡ a.rides
  pub price : triple.price.0 ≡ task.terms.price a.fare

-- so a search goes on
abbrev pub ways : {F M : Type 0} → Task F M → Ways (Facts F) Ride M StopId Triple
ways task = record {
  Starts = λ a. IsTrue (stands_for task.feed task.query.from a.stop) × (a ≡ start_facts task.terms task.query a.stop);
  Steps = IsStep task;
  Ends = IsEnd task;
  Covers = Covers task.at_most;
  IsSound = λ a. task.terms.IsFare a.rides a.fare;
  at_most = is_no_worse;
}
