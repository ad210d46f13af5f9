-- The kinds of the legs that rides are, and the leg groups that these can be of.
use Rattle.std.specs.Prelude.{◌≡◌, ℕ, true, List, Contains, Option, Some, length, slice_get}
use Rattle.transit_base.specs.declared.numbers.LegGroupId.{LegGroupId}
use Rattle.feed_rows.specs.declared.journeys.Buyer.{Buyer}
use Rattle.feed_rows.specs.declared.fares.LegChoice.{LegChoice}
use Rattle.feed_rows.specs.declared.journeys.LegFacts.{LegFacts}
use Rattle.feed_rows.specs.FareChoices.{is_leg_choice}
use Rattle.feed_rows.specs.FeedRows.{FeedRows}
use Rattle.feed_rows.specs.Legs.{leg_facts}
use Rattle.fare_automaton.specs.Fewest.{group_of}
use Rattle.fare_automaton.specs.Known.{KnownPicks}
use Rattle.leg_kinds.specs.Kinds.{IsOfKind}
use Rattle.plan_rides.specs.declared.caught.CaughtRide.{CaughtRide}

-- ---- kinds

-- each number is that of the kind of the leg that is the ride at its place
abbrev pub FitKinds : FeedRows → KnownPicks → List CaughtRide → List ℕ → Type 0
FitKinds feed known rides kinds =
    (k : ℕ) (caught : CaughtRide) (number : ℕ) → slice_get rides k ≡ Some caught → slice_get kinds k ≡ Some number →
    IsOfKind known.lists (leg_facts feed caught.facts) number

-- such are the numbers, one for each ride
pub record AreKinds (feed : FeedRows) (known : KnownPicks) (rides : List CaughtRide) (kinds : List ℕ) : Type 0 where
  pub many : length kinds ≡ length rides
  pub fit : FitKinds feed known rides kinds

-- ---- groups

-- what was among the groups still is
abbrev pub StayGroups : List (Option LegGroupId) → List (Option LegGroupId) → Type 0
StayGroups old new = (group : Option LegGroupId) → Contains old group → Contains new group

-- the group of the option's rule is among them
abbrev pub HasGroup : FeedRows → List (Option LegGroupId) → LegChoice → Type 0
HasGroup feed groups pick = (group : Option LegGroupId) → group_of feed pick ≡ Some group → Contains groups group

-- so is that of each option of the leg
abbrev pub IsGrouped : FeedRows → Buyer → List (Option LegGroupId) → LegFacts → Type 0
IsGrouped feed buyer groups leg = (pick : LegChoice) → is_leg_choice feed buyer leg pick ≡ true → HasGroup feed groups pick

-- so it is for the leg that is the ride
abbrev pub IsRideGrouped : FeedRows → Buyer → List (Option LegGroupId) → CaughtRide → Type 0
IsRideGrouped feed buyer groups caught = IsGrouped feed buyer groups (leg_facts feed caught.facts)

-- and for each of the rides
abbrev pub AreGroupsOf : FeedRows → Buyer → List CaughtRide → List (Option LegGroupId) → Type 0
AreGroupsOf feed buyer rides groups = (caught : CaughtRide) → Contains rides caught → IsRideGrouped feed buyer groups caught
