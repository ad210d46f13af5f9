-- What a cache holds.
use Rattle.std.specs.Prelude.{List, Option, Some, Contains}
use Rattle.feed_rows.specs.declared.journeys.RideFacts.{RideFacts}
use Rattle.ride_cache.specs.declared.rides.KeptRide.{KeptRide}

-- the item stands at one of the places
abbrev pub Holds : {T : Type 0} → List (Option T) → T → Type 0
Holds cache item = Contains cache (Some item)

-- this was found of the ride, and is kept
abbrev pub HoldsFor : {T : Type 0} → List (Option (KeptRide T)) → RideFacts → T → Type 0
HoldsFor cache ride value = Holds cache (record { ride = ride; value = value })
