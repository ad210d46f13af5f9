-- What a search for an answer needn't look at, since it ends too late, or costs too much.
use Rattle.std.specs.Prelude.{⊤, ◌≡◌, ◌⊎◌, ℕ, ◌+◌, ◌<◌, ◌≤◌, true, false, ℤ, ◌<ℤ◌, ◌≤ℤ◌, List, Option}
use Rattle.transit_base.specs.declared.moments.Moment.{Moment}
use Rattle.feed_rows.specs.declared.fares.Triple.{Triple}
use Rattle.feed_rows.specs.declared.journeys.RideFacts.{RideFacts}
use Rattle.plan_rides.specs.Cutoffs.{CutoffOf, is_early}
use Rattle.plan_rides.specs.InTime.{deadline}
use Rattle.search_laws.specs.Ways.{LeadsBy}
use Rattle.round_search.specs.declared.bounds.Until.{Until}
use Rattle.round_terms.specs.declared.finals.Final.{Final}
use Rattle.round_terms.specs.declared.tariff.LeastPrice.{LeastPrice}
use Rattle.round_terms.specs.Costs.{IsDearer, LeadsOn}
use Rattle.round_search.specs.Cuts.{IsFoundBy, Lacks, has_ahead}
use Rattle.round_search.specs.Searches.{StepsTo}
use Rattle.round_terms.specs.Steps.{ways}
use Rattle.round_terms.specs.Tasks.{Task}
use Rattle.round_terms.specs.Terms.{Facts}

-- ---- the rides that are looked at

-- any ride, or one that departs later than the moment
abbrev pub IsAnyRide : RideFacts → Type 0
IsAnyRide ride = ⊤

abbrev pub DepartsAfter : ℤ → RideFacts → Type 0
DepartsAfter since ride = since <ℤ ride.departure.0

-- ---- what they cost, and until when they may arrive

-- no journey of so many further rides costs less; none is there where there is no price
abbrev pub CostBy : {F M : Type 0} → Task F M → ℕ → Facts F → Option LeastPrice → Type 0
CostBy task n a price = (triple : Triple) → LeadsBy (ways task) n a triple → IsDearer price triple

-- whatever so many further rides lead to is found
abbrev pub AreFoundBy : {F M : Type 0} → Task F M → List Final → ℕ → Facts F → Type 0
AreFoundBy task finals n a = (triple : Triple) → LeadsBy (ways task) n a triple → IsFoundBy task finals triple

-- the moment isn't later than the one; it is this one, or something that arrives then is found with no more rides than so many and for
-- no more than this
pub record IsFoundUntil {F M : Type 0} (task : Task F M) (finals : List Final) (rides : ℕ) (price : ℤ) (until first : Moment) : Type 0 where
  pub before : first.0 ≤ℤ until.0
  pub is : (first ≡ until)
      ⊎ ((found : Triple) × IsFoundBy task finals found × (first ≡ found.arrival) × (found.rides ≤ rides) × (found.price.0 ≤ℤ price))

-- the moment lies within the query's window; whatever a ride of this part and so many more lead to that ends later is found
pub record IsUntilBy {F M : Type 0} (task : Task F M) (finals : List Final) (Part : RideFacts → Type 0) (n : ℕ) (a : Facts F)
    (until : ℤ) : Type 0 where
  pub within : until ≤ℤ deadline task.query
  pub later : (triple : Triple) → LeadsOn task Part n a triple → until <ℤ triple.arrival.0 → IsFoundBy task finals triple

-- so it is for each number of rides behind that one which is less than so many
pub record IsUntilFirst {F M : Type 0} (task : Task F M) (finals : List Final) (Part : RideFacts → Type 0) (n : ℕ) (a : Facts F)
    (until : ℤ) : Type 0 where
  pub within : until ≤ℤ deadline task.query
  pub first : (m : ℕ) → m < n → IsUntilBy task finals Part m a until

-- the moment lies within the query's window; in a search that isn't loose, whatever a ride of this part leads to that ends later is found
pub record IsUntil {F M : Type 0} (task : Task F M) (finals : List Final) (a : Facts F) (Part : RideFacts → Type 0) (until : ℤ) : Type 0 where
  pub within : until ≤ℤ deadline task.query
  pub later : task.loose ≡ false → (b : Facts F) (to : StepsTo task a b) → Part to.2.facts → (n : ℕ) (triple : Triple) → LeadsBy (ways task) n b triple →
      until <ℤ triple.arrival.0 → IsFoundBy task finals triple

-- so are the moments for all rides, and for those that depart later
pub record AreUntils {F M : Type 0} (task : Task F M) (finals : List Final) (a : Facts F) (until : Until) : Type 0 where
  pub all : IsUntil task finals a IsAnyRide until.all.0
  pub late : IsUntil task finals a (DepartsAfter until.since.0) until.late.0

-- of a ride from such facts that arrives after the moment, and in time, all is cut off that it leads to
abbrev pub IsCutAfter : {F M : Type 0} → Task F M → List Final → Facts F → ℤ → Type 0
IsCutAfter task finals a after =
    (at : ℤ) → after <ℤ at → at ≤ℤ deadline task.query → has_ahead task finals at (a.rides + 1) (task.terms.least a) ≡ true

-- the search may lack whatever a ride of this part leads to from such facts that doesn't arrive early enough by the cutoff
abbrev pub IsFair : {F M : Type 0} → Task F M → List Final → Facts F → (RideFacts → Type 0) → CutoffOf → Type 0
IsFair {F} task finals a Part latest =
    (b : Facts F) (to : StepsTo task a b) → Part to.2.facts → is_early latest to.2.facts.to.0 to.2.facts.arrival.0 ≡ false →
    Lacks task finals b
