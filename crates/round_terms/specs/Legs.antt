-- What is known of the rides from a position.
use Rattle.std.specs.Prelude.{◌≡◌, ℕ, List, slice_get, Some, ℤ, ◌<ℤ◌}
use Rattle.feed_rows.specs.declared.journeys.RideFacts.{RideFacts}
use Rattle.feed_rows.specs.FeedRows.{FeedRows}
use Rattle.feed_rows.specs.Rides.{ride_facts}
use Rattle.plan_rides.specs.declared.caught.CaughtRide.{CaughtRide}
use Rattle.round_terms.specs.Terms.{Facts, Terms}

-- by its place among them it is known of each of these rides
abbrev pub AreKnown : (ℕ → RideFacts → Type 0) → List CaughtRide → Type 0
AreKnown Is rides = (place : ℕ) (caught : CaughtRide) → slice_get rides place ≡ Some caught → Is place caught.facts

-- each ride of the feed of which it is known and which departs later than the moment is settled after such facts
abbrev pub AreSettled : {F M : Type 0} → Terms F M → FeedRows → (ℕ → RideFacts → Type 0) → Facts F → ℤ → Type 0
AreSettled t feed Is a since =
    (place : ℕ) (caught : CaughtRide) → Is place caught.facts → ride_facts feed caught.ride ≡ Some caught.facts →
    since <ℤ caught.facts.departure.0 → t.IsSettled a caught.facts
