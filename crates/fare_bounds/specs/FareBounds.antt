-- How little further rides can cost: no move leads below what was told before it.
use Rattle.std.specs.Prelude.{◌≡◌, ◌<◌, ◌^◌, ℕ, ◌+◌, Bool, true, List, Option, Some, None, slice_get, option_and_then, ℤ, pos, neg_ℤ, ◌+ℤ◌, ◌≤ℤ◌, ◌<ℤ◌}
use Rattle.std.specs.Int.{int_min}
use Rattle.std.specs.Option.{option_map_or, ForSome}
use Rattle.transit_base.specs.declared.numbers.LegGroupId.{LegGroupId}
use Rattle.feed_rows.specs.declared.journeys.Buyer.{Buyer}
use Rattle.feed_rows.specs.declared.journeys.LegFacts.{LegFacts}
use Rattle.feed_rows.specs.declared.states.FareState.{FareState}
use Rattle.feed_rows.specs.declared.states.Move.{Move}
use Rattle.feed_rows.specs.FeedRows.{FeedRows}
use Rattle.feed_rows.specs.FareSteps.{move_after}
use Rattle.fare_bounds.specs.declared.level.Level.{Level}
use Rattle.fare_bounds.specs.Amounts.{place_of}
use Rattle.fare_bounds.specs.Levels.{with_at, without_at}
use Rattle.fare_bounds.specs.Limits.{late_by}

-- what a journey costs at least that goes on so after a leg of the group: with what is held, or without where a change
-- takes it back
abbrev pub least_after : Level → Option LegGroupId → ℤ → ℤ → ℤ
least_after level group paid held =
    int_min (paid +ℤ held +ℤ with_at level (place_of group)) (paid +ℤ without_at level (place_of group))

-- the same after a fare state; before the first ride nothing is held
abbrev pub least_by : Level → Option FareState → ℤ → ℤ → ℤ
least_by level None paid held = paid +ℤ with_at level (place_of None)
least_by level (Some state) paid held = least_after level state.group paid held

-- what is told of more rides than there are levels: less than any journey costs
abbrev pub unknown : ℤ
unknown = neg_ℤ (pos (2 ^ 127))

-- the same by the level for so many rides
abbrev pub least_in : List Level → ℕ → Option FareState → ℤ → ℤ → ℤ
least_in levels more state paid held =
    option_map_or (λ level. least_by level state paid held) (slice_get levels more) unknown

-- all that tells how little further rides cost
pub record BoundLists : Type 0 where
  -- a level for each number of further rides
  pub levels : List Level
  -- the same where the next ride departs late: only transfer rules without a limit arrange a change to it
  pub lates : List Level
  -- how many seconds the limits of transfer rules last at most, by the place of the group before the change
  pub limits : List ℕ

-- the least price of a journey that goes on by one to so many rides, after this fare state, with so much paid and held
abbrev pub least_more : BoundLists → ℕ → Option FareState → ℤ → ℤ → ℤ
least_more bounds more state paid held = least_in bounds.levels more state paid held

-- the same where the next ride departs late
abbrev pub least_late : BoundLists → ℕ → Option FareState → ℤ → ℤ → ℤ
least_late bounds more state paid held = least_in bounds.lates more state paid held

-- rides that depart later than this moment after the fare state are late; each where there is none
abbrev pub late_after : BoundLists → Option FareState → Option ℤ
late_after bounds state = option_and_then (late_by bounds.limits) state

-- no move leads to where a journey can cost less than was told before it: neither one that goes on by fewer rides, nor
-- one that ends with the move, where its leg may be the last
pub record AreFareBounds (feed : FeedRows) (buyer : Buyer) (rides : ℕ) (lasts : List Bool)
    (bounds : BoundLists) : Type 0 where
  pub on : (more : ℕ) → more < rides → (state : Option FareState) (paid held : ℤ) (leg : LegFacts) (move : Move)
      → move_after feed buyer state held leg move ≡ Some move
      → least_more bounds (more + 1) state paid held
      ≤ℤ least_more bounds more (Some move.state) (paid +ℤ move.paid.0) move.held.0
  pub ends : (more : ℕ) → more < rides → (state : Option FareState) (paid held : ℤ) (leg : LegFacts) (move : Move)
      → move_after feed buyer state held leg move ≡ Some move
      → slice_get lasts (place_of move.state.group) ≡ Some true
      → least_more bounds (more + 1) state paid held ≤ℤ (paid +ℤ move.paid.0 +ℤ move.held.0)
  -- the same of legs that depart late, and don't arrive before they depart
  pub late_on : (more : ℕ) → more < rides → (state : Option FareState) (paid held : ℤ) (leg : LegFacts) (move : Move)
      → move_after feed buyer state held leg move ≡ Some move
      → ForSome (late_after bounds state) (λ moment. moment <ℤ leg.departure.0) → leg.departure.0 ≤ℤ leg.arrival.0
      → least_late bounds (more + 1) state paid held
      ≤ℤ least_more bounds more (Some move.state) (paid +ℤ move.paid.0) move.held.0
  pub late_ends : (more : ℕ) → more < rides → (state : Option FareState) (paid held : ℤ) (leg : LegFacts) (move : Move)
      → move_after feed buyer state held leg move ≡ Some move
      → ForSome (late_after bounds state) (λ moment. moment <ℤ leg.departure.0) → leg.departure.0 ≤ℤ leg.arrival.0
      → slice_get lasts (place_of move.state.group) ≡ Some true
      → least_late bounds (more + 1) state paid held ≤ℤ (paid +ℤ move.paid.0 +ℤ move.held.0)
