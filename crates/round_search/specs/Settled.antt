-- Labels behind which rides from a position needn't be tried, since they lead on from others as well.
use Rattle.std.specs.Prelude.{◌≡◌, ◌⊎◌, ℕ, true, ℤ, ◌≤ℤ◌, ◌<ℤ◌, int_le, List, [], ◌∷◌, ◌++◌, Contains, Option, Some}
use Rattle.feed_rows.specs.declared.journeys.RideFacts.{RideFacts}
use Rattle.plan_rides.specs.Reached.{Kept}
use Rattle.plan_rides.specs.declared.caught.CaughtRide.{CaughtRide}
use Rattle.plan_rides.specs.declared.positions.Reached.{Reached}
use Rattle.search_laws.specs.Stores.{IsHeldBelow}
use Rattle.round_terms.specs.declared.finals.Final.{Final}
use Rattle.round_terms.specs.declared.label.Label.{Label}
use Rattle.round_terms.specs.Labels.{facts_of}
use Rattle.round_terms.specs.Legs.{AreSettled}
use Rattle.round_terms.specs.Tasks.{Task}
use Rattle.round_terms.specs.Terms.{Covers, Facts, facts_after}
use Rattle.round_search.specs.declared.settled.Settled.{Settled}
use Rattle.round_search.specs.declared.settled.SettledLabel.{SettledLabel}
use Rattle.round_search.specs.Cuts.{Lacks}
use Rattle.round_search.specs.Searches.{StepsBy}

-- a label covers such facts, or the search may lack them
abbrev pub IsDone : {F M : Type 0} → Task F M → List Final → List (Label F M) → Facts F → Type 0
IsDone task finals bags b = IsHeldBelow (Covers task.at_most) facts_of bags b ⊎ Lacks task finals b

-- the rides of which it is known are settled after the label since the moment, by which it is at the position; and so much a journey
-- costs that ends with it
pub record IsSettledAt {F M : Type 0} (task : Task F M) (Is : ℕ → RideFacts → Type 0) (x : Label F M) (reached : Reached)
    (own : SettledLabel) : Type 0 where
  pub price : own.price.0 ≡ task.terms.price x.fare
  pub gets : reached.earliest.0 ≤ℤ own.since.0
  pub settled : AreSettled task.terms task.feed Is (facts_of x) own.since.0

-- the ride is settled after such facts, and all is done to which it leads from them
pub record IsTriedBy {F M : Type 0} (task : Task F M) (finals : List Final) (bags : List (Label F M)) (a : Facts F) (caught : CaughtRide) :
    Type 0 where
  pub settled : task.terms.IsSettled a caught.facts
  pub done : (move : M) → task.terms.Pays a caught.facts move → IsDone task finals bags (facts_after task.terms a caught.facts move)

-- so it is with each of these rides that departs later than the label's moment, for facts with so many rides that cost what it does
pub record IsTried {F M : Type 0} (task : Task F M) (finals : List Final) (count : ℕ) (rides : List CaughtRide) (bags : List (Label F M))
    (own : SettledLabel) : Type 0 where
  pub facts : Facts F
  pub counts : facts.rides ≡ count
  pub fare : task.terms.IsFare facts.rides facts.fare
  pub price : own.price.0 ≡ task.terms.price facts.fare
  pub each : (caught : CaughtRide) → Contains rides caught → own.since.0 <ℤ caught.facts.departure.0 →
      IsTriedBy task finals bags facts caught

-- behind the moment rides are settled after the label, and after one of these which is as cheap
pub record HasCheaper (labels : List SettledLabel) (own : Option SettledLabel) (passed : ℤ) : Type 0 where
  pub label : SettledLabel
  pub is : own ≡ Some label
  pub other : SettledLabel
  pub has : Contains labels other
  pub price : other.price.0 ≤ℤ label.price.0
  pub since : label.since.0 ≤ℤ passed
  pub other_since : other.since.0 ≤ℤ passed

-- the labels are as they were, or have the one more
abbrev pub AddsLabel : Option SettledLabel → List SettledLabel → List SettledLabel → Type 0
AddsLabel own old new = (new ≡ old) ⊎ ((label : SettledLabel) × (own ≡ Some label) × (new ≡ old ++ label ∷ []))

-- the rides that are kept are the same, and so are the labels; or there is no label
abbrev pub StayLabels : Kept → Settled → Kept → Settled → Type 0
StayLabels rides old kept new = ((kept ≡ rides) × (new.labels.items ≡ old.labels.items)) ⊎ (new.labels.items ≡ [])

-- all is done to which these rides lead from such facts that depart later than the moment, and no earlier than one gets there
abbrev pub ArePassed : {F M : Type 0} → Task F M → List Final → Facts F → ℤ → List CaughtRide → ℤ → List (Label F M) → Type 0
ArePassed task finals a earliest rides passed bags =
    (caught : CaughtRide) (b : Facts _) → Contains rides caught → int_le earliest caught.facts.departure.0 ≡ true →
    passed <ℤ caught.facts.departure.0 → StepsBy task a caught.ride b → IsDone task finals bags b
