-- The kinds of the legs that rides are, kept by the rides.
use Rattle.std.specs.Prelude.{ℕ, List, Option}
use Rattle.feed_rows.specs.declared.journeys.LegFacts.{LegFacts}
use Rattle.feed_rows.specs.declared.journeys.RideFacts.{RideFacts}
use Rattle.feed_rows.specs.Legs.{leg_facts}
use Rattle.fare_automaton.specs.Known.{KnownPicks}
use Rattle.leg_kinds.specs.Kinds.{IsOfKind}
use Rattle.ride_cache.specs.declared.rides.KeptRide.{KeptRide}
use Rattle.ride_cache.specs.Kept.{HoldsFor}

-- what was known under a number for legs of a kind still is
abbrev pub StayKnown : KnownPicks → KnownPicks → Type 0
StayKnown old new = (leg : LegFacts) (number : ℕ) → IsOfKind old.lists leg number → IsOfKind new.lists leg number

-- the number that is kept of a ride is that of the kind of the leg that the ride is
abbrev pub AreKindsOf : KnownPicks → List (Option (KeptRide ℕ)) → Type 0
AreKindsOf known cache =
    (ride : RideFacts) (kind : ℕ) → HoldsFor cache ride kind → IsOfKind known.lists (leg_facts known.terms.feed ride) kind
