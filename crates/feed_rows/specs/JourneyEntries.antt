-- What a query is offered, which triples are minimal, and which answer is exact.
use Rattle.std.specs.Prelude.{◌≡◌, List, map, length, All, AllPairs, Any, Contains, Option, Some, IsTrue, ℤ, option_and_then}
use Rattle.feed_rows.specs.declared.journeys.Buyer.{Buyer}
use Rattle.feed_rows.specs.declared.journeys.Query.{Query}
use Rattle.feed_rows.specs.declared.journeys.Ride.{Ride}
use Rattle.feed_rows.specs.declared.fares.Choice.{Choice}
use Rattle.feed_rows.specs.declared.fares.Triple.{Triple}
use Rattle.feed_rows.specs.declared.fares.Entry.{Entry}
use Rattle.feed_rows.specs.FeedRows.{FeedRows}
use Rattle.feed_rows.specs.Journeys.{IsJourney}
use Rattle.feed_rows.specs.Legs.{legs_of}
use Rattle.feed_rows.specs.FareSums.{fare_price}
use Rattle.feed_rows.specs.ParetoTriples.{at_most, is_before}

-- the price of rides by a choice; none where one is no ride of the feed, or the choice doesn't pay them for the buyer
abbrev pub rides_price : FeedRows → List Ride → Choice → Buyer → Option ℤ
rides_price feed rides choice buyer = option_and_then (λ legs. fare_price feed legs choice buyer) (legs_of feed rides)

-- the entry's journey is one of the query, its choice pays it for the query's buyer, and its triple is theirs
pub record IsEntry (feed : FeedRows) (query : Query) (entry : Entry) : Type 0 where
  pub journey : IsJourney feed query entry.journey entry.triple.arrival.0
  pub rides : entry.triple.rides ≡ length entry.journey.rides
  pub price : rides_price feed entry.journey.rides entry.choice query.buyer ≡ Some entry.triple.price.0

-- some fare-covered journey of the query has this triple
abbrev pub IsOffered : FeedRows → Query → Triple → Type 0
IsOffered feed query triple = (entry : Entry) × IsEntry feed query entry × (entry.triple ≡ triple)

-- the triple is offered, and no different offered triple is at most it
pub record IsMinimal (feed : FeedRows) (query : Query) (triple : Triple) : Type 0 where
  pub offered : IsOffered feed query triple
  pub least : (other : Triple) → IsOffered feed query other → IsTrue (at_most other triple) → other ≡ triple

-- the entries answer the query exactly: each is one of the query, their triples are exactly the minimal ones, each
-- once, and they stand in order
pub record IsExactAnswer (feed : FeedRows) (query : Query) (entries : List Entry) : Type 0 where
  pub right : All (IsEntry feed query) entries
  pub minimal : All (λ entry. IsMinimal feed query entry.triple) entries
  pub complete : (triple : Triple) → IsMinimal feed query triple → Contains (map (λ entry. entry.triple) entries) triple
  pub in_order : AllPairs (λ a b. IsTrue (is_before a.triple b.triple)) entries

-- whatever is offered, some entry is at most it: so an answer without entries says that nothing is offered
abbrev pub CoversOffers : FeedRows → Query → List Entry → Type 0
CoversOffers feed query entries =
    (triple : Triple) → IsOffered feed query triple → Any (λ entry. IsTrue (at_most entry.triple triple)) entries
