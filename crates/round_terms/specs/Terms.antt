-- What a search by rounds knows of fares.
use Rattle.std.specs.Prelude.{◌≡◌, ℕ, ◌+◌, ◌<◌, ◌≤◌, ◌==◌, Bool, true, List, All, Contains, ℤ, ◌≤ℤ◌}
use Rattle.transit_base.specs.declared.numbers.StopId.{StopId}
use Rattle.feed_rows.specs.declared.journeys.RideFacts.{RideFacts}

-- what a search compares partial journeys by: where and since when one stands, after how many rides, and what is kept of fares
pub record Facts (F : Type 0) : Type 0 where
  pub stop : StopId
  pub arrival : ℤ
  pub rides : ℕ
  pub fare : F

-- fares F that partial journeys have, and moves M that pay rides
pub record Terms (F M : Type 0) : Type 1 where
  -- the fare of a journey without rides
  pub begins : F
  -- the move pays the ride after such facts
  pub Pays : Facts F → RideFacts → M → Type 0
  -- the fare then
  pub after : Facts F → RideFacts → M → F
  -- what a journey costs that ends with such a fare
  pub price : F → ℤ
  -- no journey that goes on from such facts, or ends with them, costs less
  pub least : Facts F → ℤ
  -- the ride is late after such facts, so that further rides may cost more
  pub IsLate : Facts F → RideFacts → Type 0
  -- nothing before the ride makes a difference to it any more but what a journey costs that ends before it
  pub IsSettled : Facts F → RideFacts → Type 0
  -- partial journeys of so many rides have such a fare
  pub IsFare : ℕ → F → Type 0

-- the facts after one more ride, which the move pays
abbrev pub facts_after : {F M : Type 0} → Terms F M → Facts F → RideFacts → M → Facts F
facts_after t a ride move =
    record { stop = ride.to; arrival = ride.arrival.0; rides = a.rides + 1; fare = t.after a ride move }

-- the one is as good as the other, whatever comes after: a journey without rides stands otherwise than one with some, since it may
-- still begin where it stands
pub record Covers {F : Type 0} (at_most : F → F → Bool) (a b : Facts F) : Type 0 where
  pub stop : a.stop ≡ b.stop
  pub arrival : a.arrival ≤ℤ b.arrival
  pub rides : a.rides ≤ b.rides
  pub fresh : (a.rides == 0) ≡ (b.rides == 0)
  pub fare : at_most a.fare b.fare ≡ true

-- some move pays the ride and leads to a fare that is at most this one
pub record PaysNoWorse {F M : Type 0} (at_most : F → F → Bool) (t : Terms F M) (a : Facts F) (ride : RideFacts) (worse : F) : Type 0 where
  pub move : M
  pub pays : t.Pays a ride move
  pub below : at_most (t.after a ride move) worse ≡ true

-- what makes a search by fares right, for journeys of up to so many rides: what is as good pays each ride no worse, and costs no more;
-- what is known of all that goes on is so, more is known the further one goes, and no more of what is as good; and of facts for which a
-- ride is settled the cheaper ones pay it no worse
pub record IsLawful {F M : Type 0} (limit : ℕ) (at_most : F → F → Bool) (t : Terms F M) : Type 0 where
  pub begins : t.IsFare 0 t.begins
  pub stays : (a : Facts F) (ride : RideFacts) (move : M) → t.IsFare a.rides a.fare → t.Pays a ride move →
      t.IsFare (a.rides + 1) (t.after a ride move)
  pub follow : (a b : Facts F) (ride : RideFacts) (move : M) → t.IsFare a.rides a.fare → t.IsFare b.rides b.fare →
      Covers at_most a b → t.Pays b ride move → PaysNoWorse at_most t a ride (t.after b ride move)
  pub costs : (a b : F) → at_most a b ≡ true → t.price a ≤ℤ t.price b
  pub least_ends : (a : Facts F) → t.least a ≤ℤ t.price a.fare
  pub least_stays : (a : Facts F) (ride : RideFacts) (move : M) → a.rides < limit → t.IsFare a.rides a.fare → t.Pays a ride move →
      t.least a ≤ℤ t.least (facts_after t a ride move)
  pub least_below : (a b : Facts F) → Covers at_most a b → t.least a ≤ℤ t.least b
  pub settles : (a b : Facts F) (ride : RideFacts) (move : M) → t.IsFare a.rides a.fare → t.IsFare b.rides b.fare →
      t.IsSettled a ride → t.IsSettled b ride → t.price a.fare ≤ℤ t.price b.fare → t.Pays b ride move →
      PaysNoWorse at_most t a ride (t.after b ride move)

-- each of these moves pays the ride, and of each that pays it one of them leads to what is as good
pub record AreEnough {F M : Type 0} (at_most : F → F → Bool) (t : Terms F M) (a : Facts F) (ride : RideFacts) (moves : List M) : Type 0 where
  pub right : All (t.Pays a ride) moves
  pub enough : (move : M) → t.Pays a ride move →
      (lesser : M) × Contains moves lesser × (at_most (t.after a ride lesser) (t.after a ride move) ≡ true)
