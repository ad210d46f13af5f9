-- The earliest arrivals of a query, whatever journeys cost.
use Rattle.std.specs.Prelude.{◌≡◌, List, length, All, ℤ, pos}
use Rattle.feed_rows.specs.declared.fares.Triple.{Triple}
use Rattle.feed_rows.specs.declared.journeys.Journey.{Journey}
use Rattle.feed_rows.specs.declared.journeys.Query.{Query}
use Rattle.feed_rows.specs.FeedRows.{FeedRows}
use Rattle.feed_rows.specs.Journeys.{IsJourney}
use Rattle.feed_rows.specs.ParetoTriples.{at_most, is_before}
use Rattle.pareto_front.specs.Fronts.{IsFront}
use Rattle.round_terms.specs.declared.finals.Final.{Final}
use Rattle.round_search.specs.Finals.{is_bettered}

-- the arrival and the rides of a journey, which costs nothing
abbrev pub free_triple : Journey → ℤ → Triple
free_triple journey arrival =
    record { arrival = record { 0 = arrival }; rides = length journey.rides; price = record { 0 = pos 0 } }

-- some journey of the query has the triple
pub record IsArrival (feed : FeedRows) (query : Query) (found : Final) : Type 0 where
  pub journey : Journey
  pub is : IsJourney feed query journey found.triple.arrival.0
  pub triple : found.triple ≡ free_triple journey found.triple.arrival.0

-- each is that of a journey of the query, and of each journey one is no worse; none is as good as another, and they stand in order
pub record AreArrivals (feed : FeedRows) (query : Query) (found : List Final) : Type 0 where
  pub right : All (IsArrival feed query) found
  pub all : (journey : Journey) (arrival : ℤ) → IsJourney feed query journey arrival → is_bettered found (free_triple journey arrival)
  pub front : IsFront (λ (a : Final) (b : Final). at_most a.triple b.triple) (λ (a : Final) (b : Final). is_before a.triple b.triple) found
