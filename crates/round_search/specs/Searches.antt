-- The search by rounds as one that goes on from labels, and the parts of its rounds.
use Rattle.std.specs.Prelude.{◌≡◌, ℕ, ◌+◌, ◌<◌, ◌≤◌, ◌^◌, List, [], length, slice_get, All, Some, None, false}
use Rattle.transit_base.specs.declared.numbers.StopId.{StopId}
use Rattle.feed_rows.specs.declared.fares.Triple.{Triple}
use Rattle.feed_rows.specs.declared.journeys.Query.{Query}
use Rattle.feed_rows.specs.declared.journeys.Ride.{Ride}
use Rattle.plan_rides.specs.Boarding.{MayRide}
use Rattle.plan_rides.specs.InTime.{IsUsualQuery, IsWithinWindow}
use Rattle.plan_rides.specs.declared.caught.CaughtRide.{CaughtRide}
use Rattle.label_bag.specs.Bags.{AreApart}
use Rattle.search_laws.specs.Links.{CoversStarts, Told}
use Rattle.search_laws.specs.Stores.{AreClosedTo, AreStored, AreWhole, Search, Spreads}
use Rattle.search_laws.specs.Ways.{IsReached}
use Rattle.round_terms.specs.declared.label.Label.{Label}
use Rattle.round_search.specs.declared.search.Found.{Found}
use Rattle.round_search.specs.declared.search.Source.{Source}
use Rattle.round_terms.specs.declared.finals.Final.{Final}
use Rattle.round_search.specs.Cuts.{Cuts, IsFoundBy, Lacks}
use Rattle.round_search.specs.Finals.{AddsEnds, EndsBelow, HasEnds, IsFinal}
use Rattle.round_terms.specs.Labels.{covers, facts_of}
use Rattle.round_terms.specs.Steps.{IsEnd, IsStep, stand_of_facts, start_facts, ways}
use Rattle.round_terms.specs.Terms.{Facts, Terms, facts_after}
use Rattle.round_terms.specs.Tasks.{Task}

-- ---- the search

-- the label is at a stop of the feed and within the query's window, and has such a fare
pub record IsFit {F M : Type 0} (task : Task F M) (x : Label F M) : Type 0 where
  pub inside : x.stop.0 < length task.feed.stops
  pub within : IsWithinWindow task.query x.arrival.0
  pub fare : task.terms.IsFare x.rides x.fare

-- the label has neither a parent nor a ride
pub record IsBare {F M : Type 0} (x : Label F M) : Type 0 where
  pub parent : x.parent ≡ None
  pub ride : x.ride ≡ None
  pub taken : x.taken ≡ None

-- it goes on from the label with the number by the ride, which the move pays
pub record GoesOn {F M : Type 0} (x : Label F M) (number : ℕ) (by : Ride) (move : M) : Type 0 where
  pub parent : x.parent ≡ Some number
  pub ride : x.ride ≡ Some by
  pub taken : x.taken ≡ Some move

-- what labels tell
abbrev pub told : {F M : Type 0} → Task F M → Told (Label F M) (Facts F) Ride M
told task = record {
  facts = facts_of;
  count = λ x. x.rides;
  Fits = IsFit task;
  Begins = IsBare;
  GoesOn = GoesOn;
}

-- the search for the task
abbrev pub search_of : {F M : Type 0} → Task F M →
    Search (Label F M) (Facts F) Ride M StopId Triple
search_of task = record {
  ways = ways task;
  told = told task;
  covers = covers task.at_most;
  Cuts = Cuts task.terms;
}

-- ---- parts of a round

-- no facts
abbrev pub IsNever : {F : Type 0} → Facts F → Type 0
IsNever b = ⊥

-- they are those of one of the first k of these stops, before any ride
abbrev pub IsStartAmong : {F M : Type 0} → Terms F M → Query → List StopId → ℕ → Facts F → Type 0
IsStartAmong t query firsts k b = (i : ℕ) × (i < k) × (stop : StopId) × (slice_get firsts i ≡ Some stop) × (b ≡ start_facts t query stop)

-- the one leads to the other by some ride and move, or by this ride
abbrev pub StepsTo : {F M : Type 0} → Task F M → Facts F → Facts F → Type 0
StepsTo {F} {M} task a b = (ride : Ride) × (move : M) × IsStep task a ride move b

abbrev pub StepsBy : {F M : Type 0} → Task F M → Facts F → Ride → Facts F → Type 0
StepsBy {F} {M} task a ride b = (move : M) × IsStep task a ride move b

-- it does by one of the first k of these rides
abbrev pub StepsByFirst : {F M : Type 0} → Task F M → Facts F → List CaughtRide → ℕ → Facts F → Type 0
StepsByFirst task a rides k b =
    (i : ℕ) × (i < k) × (caught : CaughtRide) × (slice_get rides i ≡ Some caught) × StepsBy task a caught.ride b

-- it does by the ride and one of the first k of these moves
abbrev pub LeadsByFirst : {F M : Type 0} → Terms F M → Facts F → CaughtRide → List M → ℕ → Facts F → Type 0
LeadsByFirst {F} {M} t a caught moves k b =
    (i : ℕ) × (i < k) × (move : M) × (slice_get moves i ≡ Some move) × (b ≡ facts_after t a caught.facts move)

-- a step leads there from one of the labels from the one number on to another
abbrev pub StepsWithin : {F M : Type 0} → Task F M → List (Label F M) → ℕ → ℕ → Facts F → Type 0
StepsWithin {F} {M} task labels begin end b =
    (i : ℕ) × (begin ≤ i) × (i < end) × (x : Label F M) × (slice_get labels i ≡ Some x) × StepsTo task (facts_of x) b

-- ---- labels from which a round goes on

-- the label has the number among the labels, one more ride is within the query's limit, and it may ride
pub record IsSource {F M : Type 0} (task : Task F M) (source : Source F M) : Type 0 where
  pub is : slice_get source.labels.now source.number ≡ Some source.label.now
  pub usual : IsUsualQuery task.query
  pub few : source.label.now.rides < task.query.rides
  pub fit : IsFit task source.label.now
  pub may : MayRide task.feed task.query (stand_of_facts (facts_of source.label.now))

-- those with so many rides are the labels from the number on
pub record AreLast {F M : Type 0} (rides begin : ℕ) (labels : List (Label F M)) : Type 0 where
  pub within : begin ≤ length labels
  pub last : (i : ℕ) (x : Label F M) → slice_get labels i ≡ Some x → begin ≤ i → x.rides ≡ rides
  pub before : (i : ℕ) (x : Label F M) → slice_get labels i ≡ Some x → i < begin → x.rides < rides

-- the bags gain what covers this part but for what the search may lack, with one ride more than the source
abbrev pub SpreadsFrom : {F M : Type 0} → Task F M → List Final → Source F M → (Facts F → Type 0) →
    List (Label F M) → List (Label F M) → Type 0
SpreadsFrom task finals source Part old new =
    Spreads (search_of task) (Lacks task finals) source.labels.now (source.label.now.rides + 1) Part old new

-- ---- labels that end

-- the label has the number among the labels, and no more rides than the query's limit
pub record IsEnding {F M : Type 0} (task : Task F M) (source : Source F M) : Type 0 where
  pub is : slice_get source.labels.now source.number ≡ Some source.label.now
  pub usual : IsUsualQuery task.query
  pub few : source.label.now.rides ≤ task.query.rides
  pub fit : IsFit task source.label.now

-- so do all of these, but that any number counts
pub record AreEnding {F M : Type 0} (task : Task F M) (labels : List (Label F M)) : Type 0 where
  pub usual : IsUsualQuery task.query
  pub few : All (λ (x : Label F M). x.rides ≤ task.query.rides) labels
  pub fit : All (IsFit task) labels

-- ---- what a search holds after some rounds

-- the labels with up to so many rides are those in the bags; they cover the starts, and all that leads on from those with fewer
-- rides; the last of them begin at the number; and the finals are what they end in
pub record IsGathered {F M : Type 0} (task : Task F M) (rides : ℕ) (found : Found F M) (bags : List (Label F M)) : Type 0 where
  pub stored : AreStored (search_of task) (rides + 1) found.labels.items bags
  pub apart : AreApart (covers task.at_most) bags
  pub closed : AreClosedTo (search_of task) (Lacks task found.front) rides found.labels.items
  pub starts : CoversStarts (ways task) (told task) found.labels.items
  pub ended : AddsEnds task found.labels.items (EndsBelow task found.labels.items (length found.labels.items)) [] found.front
  pub numbers : length found.labels.items < 2 ^ 32
  pub last : AreLast rides found.begin found.labels.items

-- the labels of all rounds cover the starts and each step from each of them but what the search may lack, and none covers another; the
-- finals are what they end in; and where the search isn't loose, all in which its ways end is found
pub record IsSearched {F M : Type 0} (task : Task F M)
    (labels : List (Label F M)) (finals : List Final) : Type 0 where
  pub whole : AreWhole (search_of task) (Lacks task finals) task.query.rides labels
  pub right : All (IsFinal task labels) finals
  pub ended : HasEnds task labels finals
  pub all : (n : ℕ) (a : Facts F) (last : StopId) (triple : Triple) → IsReached (ways task) n a →
      IsEnd task a last triple → task.loose ≡ false → IsFoundBy task finals triple
