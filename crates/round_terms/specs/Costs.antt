-- What further rides cost, and which of them are late.
use Rattle.std.specs.Prelude.{◌≡◌, ℕ, Bool, true, ℤ, ◌<ℤ◌, ◌≤ℤ◌, Option, Some}
use Rattle.feed_rows.specs.declared.fares.Triple.{Triple}
use Rattle.feed_rows.specs.declared.journeys.Ride.{Ride}
use Rattle.feed_rows.specs.declared.journeys.RideFacts.{RideFacts}
use Rattle.search_laws.specs.Ways.{LeadsBy}
use Rattle.round_terms.specs.declared.tariff.LeastPrice.{LeastPrice}
use Rattle.round_terms.specs.Steps.{IsStep, ways}
use Rattle.round_terms.specs.Tasks.{Task}
use Rattle.round_terms.specs.Terms.{Facts, Terms}

-- the ride is late after such facts, where late ones are asked for
abbrev pub IsLateIf : {F M : Type 0} → Terms F M → Facts F → Bool → RideFacts → Type 0
IsLateIf t a late ride = late ≡ true → t.IsLate a ride

-- each ride that departs later than the moment and no later than the last one is late after such facts
abbrev pub AreLate : {F M : Type 0} → Terms F M → Facts F → ℤ → ℤ → Type 0
AreLate t a since last = (ride : RideFacts) → since <ℤ ride.departure.0 → ride.departure.0 ≤ℤ last → t.IsLate a ride

-- from such facts a ride of this part and so many more lead to a journey's end with this triple
abbrev pub LeadsOn : {F M : Type 0} → Task F M → (RideFacts → Type 0) → ℕ → Facts F → Triple → Type 0
LeadsOn {F} {M} task Part n a triple =
    (ride : Ride) × (move : M) × (b : Facts F) × (step : IsStep task a ride move b) × Part step.facts × LeadsBy (ways task) n b triple

-- there is a price, and the triple's isn't less
pub record IsDearer (price : Option LeastPrice) (triple : Triple) : Type 0 where
  pub least : LeastPrice
  pub is : price ≡ Some least
  pub below : least.0 ≤ℤ triple.price.0

-- no journey costs less that goes on from such facts by a ride of this part and so many more
abbrev pub CostOn : {F M : Type 0} → Task F M → (RideFacts → Type 0) → ℕ → Facts F → Option LeastPrice → Type 0
CostOn task Part n a price = (triple : Triple) → LeadsOn task Part n a triple → IsDearer price triple
