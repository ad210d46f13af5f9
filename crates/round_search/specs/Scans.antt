-- How a round goes on from its labels: by the positions that they reach.
use Rattle.std.specs.Prelude.{◌≡◌, ◌⊎◌, ℕ, ◌+◌, ◌<◌, ◌≤◌, ◌^◌, List, [], ◌∷◌, ◌++◌, Contains, Some, length, slice_get, ℤ, ◌≤ℤ◌}
use Rattle.feed_rows.specs.SoundFeed.{IsSoundFeed}
use Rattle.plan_rides.specs.Boarding.{MayRide}
use Rattle.plan_rides.specs.Departures.{TakesServing}
use Rattle.plan_rides.specs.InTime.{IsUsualQuery, deadline}
use Rattle.plan_rides.specs.Reached.{IsReachedFrom, Positioned}
use Rattle.plan_rides.specs.declared.positions.Reached.{Reached}
use Rattle.search_laws.specs.Stores.{Spreads}
use Rattle.round_terms.specs.declared.label.Label.{Label}
use Rattle.round_search.specs.declared.scan.Round.{Round}
use Rattle.round_search.specs.declared.search.Source.{Source}
use Rattle.round_search.specs.Bounds.{AreUntils}
use Rattle.round_search.specs.Cuts.{Lacks}
use Rattle.round_search.specs.Finals.{HasEnds}
use Rattle.round_search.specs.declared.bounds.Until.{Until}
use Rattle.round_search.specs.declared.scan.Marks.{Marks}
use Rattle.round_terms.specs.Labels.{facts_of}
use Rattle.round_search.specs.Searches.{AreLast, IsFit, StepsTo, StepsWithin, search_of}
use Rattle.round_terms.specs.Steps.{stand_of_facts}
use Rattle.round_terms.specs.Terms.{Facts}
use Rattle.round_terms.specs.Tasks.{Task}

-- ---- rounds

-- one more ride is within the query's limit, the label fits, and it may ride
pub record IsOrigin {F M : Type 0} (task : Task F M) (x : Label F M) : Type 0 where
  pub few : x.rides < task.query.rides
  pub fit : IsFit task x
  pub may : MayRide task.feed task.query (stand_of_facts (facts_of x))

-- the round is one of the search: its last labels have so many rides, and go on; and of all labels is found what they end in
pub record IsRound {F M : Type 0} (task : Task F M) (round : Round F M) : Type 0 where
  pub of : round.positions.now.feed ≡ task.feed
  pub for : round.positions.now.query ≡ task.query
  pub sound : IsSoundFeed task.feed
  pub usual : IsUsualQuery task.query
  pub numbers : length round.labels.now < 2 ^ 32
  pub few : round.count < task.query.rides
  pub last : AreLast round.count round.begin round.labels.now
  pub origins : (number : ℕ) (x : Label F M) → slice_get round.labels.now number ≡ Some x → round.begin ≤ number →
      IsOrigin task x
  pub ended : HasEnds task round.labels.now round.finals.now

-- the labels with one ride more gain those that cover this part, but for what the search may lack
abbrev pub SpreadsIn : {F M : Type 0} → Task F M → Round F M → (Facts F → Type 0) →
    List (Label F M) → List (Label F M) → Type 0
SpreadsIn task round Part old new =
    Spreads (search_of task) (Lacks task round.finals.now) round.labels.now (round.count + 1) Part old new

-- ---- positions that are reached

-- one step leads from such facts there, by a ride that boards at the position
abbrev pub StepsAt : {F M : Type 0} → Task F M → Positioned → Facts F → Reached → Facts F → Type 0
StepsAt task me a reached b = (to : StepsTo task a b) × TakesServing me.patterns reached.serving to.0

-- so it does from the label with the position's number
abbrev pub StepsFromPosition : {F M : Type 0} → Task F M → Round F M → Reached → Facts F → Type 0
StepsFromPosition {F} {M} task round reached b =
    (x : Label F M) × (slice_get round.labels.now reached.number ≡ Some x)
    × StepsAt task round.positions.now (facts_of x) reached b

-- so it does by one of the first k of these positions, or by one of them
abbrev pub StepsAtFirst : {F M : Type 0} → Task F M → Round F M → List Reached → ℕ → Facts F → Type 0
StepsAtFirst task round list k b =
    (i : ℕ) × (i < k) × (reached : Reached) × (slice_get list i ≡ Some reached) × StepsFromPosition task round reached b

abbrev pub StepsAmong : {F M : Type 0} → Task F M → Round F M → List Reached → Facts F → Type 0
StepsAmong task round list b =
    (reached : Reached) × Contains list reached × StepsFromPosition task round reached b

-- the label with the position's number is one of the last, and reaches it
pub record IsMarked {F M : Type 0} (round : Round F M) (reached : Reached) : Type 0 where
  pub label : Label F M
  pub is : slice_get round.labels.now reached.number ≡ Some label
  pub within : reached.number < length round.labels.now
  pub since : round.begin ≤ reached.number
  pub from : IsReachedFrom round.positions.now (stand_of_facts (facts_of label)) reached

-- the new list has what it had, and the positions by which steps from the source lead there, but for what the search may lack; what
-- else it has is reached from the source
pub record AddsMarks {F M : Type 0} (task : Task F M) (round : Round F M) (source : Source F M) (old new : List Reached) : Type 0 where
  pub still : (reached : Reached) → Contains old reached → Contains new reached
  pub all : (b : Facts F) → StepsTo task (facts_of source.label.now) b →
      ((reached : Reached) × Contains new reached × (reached.number ≡ source.number)
      × StepsAt task round.positions.now (facts_of source.label.now) reached b)
      ⊎ Lacks task round.finals.now b
  pub right : (reached : Reached) → Contains new reached → Contains old reached
      ⊎ ((reached.number ≡ source.number)
      × IsReachedFrom round.positions.now (stand_of_facts (facts_of source.label.now)) reached)

-- each step from one of the last labels before the n-th leads there by one of the positions, or to what the search may lack; each of
-- them is reached by such a label
pub record AreReached {F M : Type 0} (task : Task F M) (round : Round F M) (n : ℕ) (list : List Reached) : Type 0 where
  pub all : (b : Facts F) → StepsWithin task round.labels.now round.begin n b →
      StepsAmong task round list b ⊎ Lacks task round.finals.now b
  pub right : (reached : Reached) → Contains list reached → IsMarked round reached

-- ---- until when rides may arrive

-- the moments are those until which rides from the label may arrive, and that for all rides isn't later than the last
pub record AreUntilsIn {F M : Type 0} (task : Task F M) (round : Round F M) (last : ℤ) (x : Label F M) (until : Until) : Type 0 where
  pub are : AreUntils task round.finals.now (facts_of x) until
  pub before : until.all.0 ≤ℤ last

-- the labels of the round have such moments, in their order
abbrev pub HaveUntils : {F M : Type 0} → Task F M → Round F M → ℤ → List Until → Type 0
HaveUntils {F} {M} task round last untils =
    (place : ℕ) (x : Label F M) (until : Until) → slice_get round.labels.now (round.begin + place) ≡ Some x →
    slice_get untils place ≡ Some until → AreUntilsIn task round last x until

-- the marks gain the positions that the source reaches, and behind the moments of the labels before it its own
pub record AddsLabel {F M : Type 0} (task : Task F M) (round : Round F M) (source : Source F M) (old new : Marks) : Type 0 where
  pub reached : AddsMarks task round source old.reached.items new.reached.items
  pub until : Until
  pub are : AreUntils task round.finals.now (facts_of source.label.now) until
  pub untils : new.untils.items ≡ old.untils.items ++ until ∷ []
  pub before : until.all.0 ≤ℤ new.last.0
  pub later : old.last.0 ≤ℤ new.last.0
  pub last : (new.last ≡ old.last) ⊎ (new.last ≡ until.all)

-- so it is with the positions and the moments of the first labels of the round
pub record AreMarksTo {F M : Type 0} (task : Task F M) (round : Round F M) (n : ℕ) (marks : Marks) : Type 0 where
  pub reached : AreReached task round n marks.reached.items
  pub many : round.begin + length marks.untils.items ≡ n
  pub untils : HaveUntils task round marks.last.0 marks.untils.items
  pub last : marks.last.0 ≤ℤ deadline task.query

-- or with those of all
abbrev pub AreMarks : {F M : Type 0} → Task F M → Round F M → Marks → Type 0
AreMarks task round = AreMarksTo task round (length round.labels.now)
