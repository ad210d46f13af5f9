-- Stops that are alike to fare rules.
use Rattle.std.specs.Prelude.{◌≡◌, ℕ, zero, suc, List, [], ◌∷◌, Option, Some, slice_get, unwrap_or}
use Rattle.transit_base.specs.declared.numbers.AreaId.{AreaId}
use Rattle.transit_base.specs.declared.numbers.StopId.{StopId}
use Rattle.feed_rows.specs.FeedRows.{FeedRows}
use Rattle.feed_rows.specs.Legs.{stop_areas}

-- the areas of the stops of a place: none at the first, and then one
abbrev pub areas_placed : ℕ → List AreaId
areas_placed zero = []
areas_placed (suc n) = record { 0 = n } ∷ []

-- each stop that is kept has the areas of its place
abbrev pub AreFirsts : FeedRows → List (Option StopId) → Type 0
AreFirsts feed firsts =
    (place : ℕ) (stop : StopId) → slice_get firsts place ≡ Some (Some stop) → stop_areas feed stop ≡ areas_placed place

-- each stop has the areas of the one beside it
abbrev pub AreLikeStops : FeedRows → List StopId → Type 0
AreLikeStops feed likes =
    (stop : StopId) → stop_areas feed (unwrap_or (slice_get likes stop.0) stop) ≡ stop_areas feed stop
