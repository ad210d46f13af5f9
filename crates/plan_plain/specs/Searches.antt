-- The entries of a query that go on from where a search stands, and lists that cover them.
use Rattle.std.specs.Prelude.{ℤ, ◌≤ℤ◌, IsTrue, ◌≡◌, ◌⊎◌, ℕ, ◌<◌, ◌≤◌, ◌++◌, [], ◌∷◌, slice_index_or, true, List, length, Option, Some, None}
use Rattle.feed_rows.specs.declared.journeys.Buyer.{Buyer}
use Rattle.transit_base.specs.declared.numbers.StopId.{StopId}
use Rattle.feed_rows.specs.declared.journeys.Query.{Query}
use Rattle.feed_rows.specs.declared.journeys.Ride.{Ride}
use Rattle.feed_rows.specs.declared.fares.Entry.{Entry}
use Rattle.feed_rows.specs.FeedRows.{FeedRows}
use Rattle.feed_rows.specs.JourneyEntries.{IsEntry}
use Rattle.feed_rows.specs.JourneyStands.{Stand, first_stand, stand_at_end}
use Rattle.feed_rows.specs.Journeys.{stands_for}
use Rattle.feed_rows.specs.Legs.{legs_of}
use Rattle.feed_rows.specs.PriceTexts.{IsLeastPrice, IsUncovered}
use Rattle.plain_laws.specs.Adds.{Adds, AllStay}
use Rattle.plain_laws.specs.Plain.{after}
use Rattle.feed_rows.specs.ParetoTriples.{at_most}
use Rattle.fare_price.specs.declared.Priced.{Priced}
use Rattle.fare_automaton.specs.Terms.{terms}
use Rattle.pareto_front.specs.Fronts.{has_as_good}
use Rattle.plan_rides.specs.InTime.{arrival_in_time}
use Rattle.plan_rides.specs.Boarding.{IsAmong}
use Rattle.plan_rides.specs.InTime.{next_in_time, IsWithinWindow}
use Rattle.plan_plain.specs.Paths.{Taken}
use Rattle.plan_rides.specs.declared.caught.CaughtRide.{CaughtRide}
use Rattle.plan_plain.specs.declared.search.End.{End}

-- some entry of the list has a triple that is at most that of this entry
abbrev pub covers_entry : List Entry → Entry → Type 0
covers_entry entries entry = has_as_good (λ (a : Entry) (b : Entry). at_most a.triple b.triple) entries entry ≡ true

-- the entry is one of the query, from this first stop, with these rides
pub record HasRides (feed : FeedRows) (query : Query) (first : StopId) (rides : List Ride) (entry : Entry) : Type 0 where
  pub right : IsEntry feed query entry
  pub starts : entry.journey.first ≡ first
  pub goes : entry.journey.rides ≡ rides

-- no entry has these rides from this first stop, or this one does, and its triple is at most that of each other
abbrev pub IsBest : FeedRows → Query → StopId → List Ride → Option Entry → Type 0
IsBest feed query first rides None = (entry : Entry) → HasRides feed query first rides entry → ⊥
IsBest feed query first rides (Some best) =
    IsEntry feed query best × ((entry : Entry) → HasRides feed query first rides entry →
    at_most best.triple entry.triple ≡ true)

-- the choice and its sum are of least price, or no choice pays the rides for the buyer
abbrev pub IsCheapest : FeedRows → List Ride → Buyer → Option Priced → Type 0
IsCheapest feed rides buyer None = IsUncovered feed rides buyer
IsCheapest feed rides buyer (Some priced) = IsLeastPrice feed rides buyer priced.choice priced.sum.0

-- the entry goes on from here, where one stands after the rides of the path, with at most so many more
pub record GoesOn (feed : FeedRows) (query : Query) (first : StopId) (path : List Ride) (stand : Stand) (left : ℕ) (entry : Entry) : Type 0 where
  pub rest : List Ride
  pub end : Stand
  pub few : length rest ≤ left
  pub goes : after (next_in_time feed query) stand rest ≡ Some end
  pub has : HasRides feed query first (path ++ rest) entry

-- the new list covers what the old one covered, and each entry of this part; its members stay entries of the query
abbrev pub Gains : FeedRows → Query → (Entry → Type 0) → List Entry → List Entry → Type 0
Gains feed query = Adds (AllStay (IsEntry feed query)) covers_entry

-- the entry is one of the query, from this first stop
pub record StartsAt (feed : FeedRows) (query : Query) (first : StopId) (entry : Entry) : Type 0 where
  pub right : IsEntry feed query entry
  pub starts : entry.journey.first ≡ first

-- the rides are caught in time one after another from the first stop, lead here within the window, and these are their
-- legs, which are priced by the rows of the feed for the query's buyer
pub record IsSearched (feed : FeedRows) (query : Query) (first : StopId) (stand : Stand) (taken : Taken) : Type 0 where
  pub within : IsWithinWindow query stand.at
  pub starts : IsTrue (stands_for feed query.from first)
  pub goes : after (next_in_time feed query) (first_stand query first) taken.rides ≡ Some stand
  pub legs : legs_of feed taken.rides ≡ Some taken.legs
  pub terms : taken.terms ≡ terms feed query.buyer

-- there is an end, at this moment or before
abbrev pub EndsBy : ℤ → Option End → Type 0
EndsBy at None = ⊥
EndsBy at (Some end) = end.arrival.0 ≤ℤ at

-- there is an end, at a stop of this part, and one arrives there so
abbrev pub IsEndIn : FeedRows → Query → Stand → (StopId → Type 0) → Option End → Type 0
IsEndIn feed query stand Part None = ⊥
IsEndIn feed query stand Part (Some end) = Part end.last ×
    (arrival_in_time feed query stand end.last ≡ Some end.arrival.0)

-- the new end is the old one or that at this stop, and no later than either
abbrev pub AddsEnd : FeedRows → Query → Stand → StopId → Option End → Option End → Type 0
AddsEnd feed query stand last =
    Adds (λ (old new : Option End). (new ≡ old) ⊎ IsEndIn feed query stand (λ (stop : StopId). stop ≡ last) new)
    (λ (end : Option End) (at : ℤ). EndsBy at end) (λ (at : ℤ). arrival_in_time feed query stand last ≡ Some at)

-- the end is at a stop of this part, and no later than the arrival at any of them; none where one arrives at none
pub record IsEarliest (feed : FeedRows) (query : Query) (stand : Stand) (Part : StopId → Type 0)
    (end : Option End) : Type 0 where
  pub least : (last : StopId) (at : ℤ) → Part last → arrival_in_time feed query stand last ≡ Some at → EndsBy at end
  pub from : (end ≡ None) ⊎ IsEndIn feed query stand Part end

-- the same, of all stops at which the query's journeys end
abbrev pub IsEarliestEnd : FeedRows → Query → Stand → Option End → Type 0
IsEarliestEnd feed query stand end = IsEarliest feed query stand (λ (last : StopId). IsTrue
    (stands_for feed query.to last)) end

-- the entry is one of the query, from one of the first k of these stops
pub record StartsAmong (feed : FeedRows) (query : Query) (firsts : List StopId) (k : ℕ) (entry : Entry) : Type 0 where
  pub right : IsEntry feed query entry
  pub among : IsAmong firsts k entry.journey.first

-- the entries that go on from here with the ride at place k are covered
abbrev pub CoversWays : FeedRows → Query → StopId → List Ride → List CaughtRide → ℕ → ℕ → List Entry → Type 0
CoversWays feed query first path ways n left entries =
    (k : ℕ) (d : CaughtRide) (entry : Entry) → k < n →
    GoesOn feed query first (path ++ (slice_index_or ways k d).ride ∷ []) (stand_at_end (slice_index_or ways k d).facts) left entry → covers_entry entries entry
