-- Ways to pay legs: the moves that lead to them, the choices that their steps make, and what a search keeps true of
-- them.
use Rattle.std.specs.Prelude.{◌≡◌, ℕ, zero, suc, ◌+◌, ◌*◌, ◌^◌, ◌<◌, ◌≤◌, ◌⊎◌, Bool, true, ◌&&◌, List, [], Option, Some, None, ℤ, pos, ◌+ℤ◌, nat_abs, slice_get, Contains}
use Rattle.std.specs.Option.{option_map_or}
use Rattle.feed_rows.specs.declared.journeys.Buyer.{Buyer}
use Rattle.feed_rows.specs.declared.fares.Choice.{Choice}
use Rattle.feed_rows.specs.declared.journeys.LegFacts.{LegFacts}
use Rattle.feed_rows.specs.declared.states.FareState.{FareState}
use Rattle.feed_rows.specs.declared.states.Move.{Move}
use Rattle.feed_rows.specs.FeedRows.{FeedRows}
use Rattle.feed_rows.specs.FareChoices.{is_fare_choice}
use Rattle.feed_rows.specs.FareExtensions.{extended}
use Rattle.feed_rows.specs.FareStates.{held_amount, paid_amount, fare_state}
use Rattle.feed_rows.specs.SameStates.{same_parts}
use Rattle.feed_rows.specs.FareSteps.{move_after}
use Rattle.plain_laws.specs.Lesser.{lesser_by}
use Rattle.feed_rows.specs.Amounts.{Spent, IsNoDearer, is_no_dearer, price}
use Rattle.label_bag.specs.Bags.{covers}
use Rattle.fare_price.specs.declared.ways.Way.{Way}

-- ---- which way is as good as another

-- what was paid for the legs, and what is held
abbrev pub spent_on : Way → Spent
spent_on way = record { paid = way.paid.0; held = way.step.held.0 }

-- what the legs cost
abbrev pub cost : Way → ℤ
cost way = price (spent_on way)

-- the one leads to the state of the other, and is no dearer
pub record IsBelow (a b : Way) : Type 0 where
  pub state : a.step.state ≡ b.step.state
  pub spent : IsNoDearer (spent_on a) (spent_on b)

-- the test of that
unfoldable pub is_as_good : Way → Way → Bool
is_as_good a b = is_no_dearer (spent_on a) (spent_on b) && same_parts a.step.state b.step.state

-- ---- what moves lead to

-- the way by the move, where so much was paid for the legs before, in the way of this number
abbrev pub way_by : ℤ → ℕ → Move → Way
way_by paid before move = record { paid = record { 0 = paid +ℤ move.paid.0 }; step = move; before = before }

-- what was paid for n legs lies within n times that
pub record IsBounded (n : ℕ) (way : Way) : Type 0 where
  pub paid : nat_abs way.paid.0 ≤ n * (3 * 10 ^ 12)
  pub held : nat_abs way.step.held.0 ≤ 10 ^ 12

-- the last move of the way is one for the leg after the state, where so much is held, in the way of this number; and
-- so much was paid before
pub record IsMadeAfter (feed : FeedRows) (buyer : Buyer) (leg : LegFacts) (state : Option FareState)
    (held paid : ℤ) (number : ℕ) (way : Way) : Type 0 where
  pub is : move_after feed buyer state held leg way.step ≡ Some way.step
  pub same : way_by paid number way.step ≡ way

-- such ways were added: each is covered
pub record AddsWays (feed : FeedRows) (buyer : Buyer) (leg : LegFacts) (state : Option FareState)
    (held paid : ℤ) (number : ℕ) (old new : List Way) : Type 0 where
  pub still : (way : Way) → covers is_as_good old way ≡ true → covers is_as_good new way ≡ true
  pub each : (move : Move) → move_after feed buyer state held leg move ≡ Some move → covers is_as_good new (way_by paid number move) ≡ true
  pub from : (way : Way) → Contains new way → Contains old way ⊎ IsMadeAfter feed buyer leg state held paid number way

-- the same after the way of this number
abbrev pub AddsAfter : FeedRows → Buyer → LegFacts → ℕ → Way → List Way → List Way → Type 0
AddsAfter feed buyer leg number last old new =
    AddsWays feed buyer leg (Some last.step.state) last.step.held.0 last.paid.0 number old new

-- the best ways to pay one leg
abbrev pub AreFirstWays : FeedRows → Buyer → LegFacts → List Way → Type 0
AreFirstWays feed buyer leg new = AddsWays feed buyer leg None (pos 0) (pos 0) 0 [] new

-- the way is one leg more after one of these ways, which are numbered on from `base`
pub record IsAfterOne (feed : FeedRows) (buyer : Buyer) (leg : LegFacts) (base : ℕ) (ways : List Way)
    (way : Way) : Type 0 where
  pub place : ℕ
  pub last : Way
  pub at : slice_get ways place ≡ Some last
  pub made : IsMadeAfter feed buyer leg (Some last.step.state) last.step.held.0 last.paid.0 (base + place) way

-- the best ways to pay one leg more after the first n of these ways
pub record AreNextWays (feed : FeedRows) (buyer : Buyer) (leg : LegFacts) (base : ℕ) (ways : List Way) (n : ℕ)
    (new : List Way) : Type 0 where
  pub each : (place : ℕ) (last : Way) (move : Move) → place < n → slice_get ways place ≡ Some last
      → move_after feed buyer (Some last.step.state) last.step.held.0 leg move ≡ Some move
      → covers is_as_good new (way_by last.paid.0 (base + place) move) ≡ true
  pub from : (way : Way) → Contains new way → IsAfterOne feed buyer leg base ways way

-- the one that costs less: the first, where both cost the same
abbrev pub cheaper : Option Way → Way → Way
cheaper = lesser_by cost

-- ---- the choice that steps make

-- the choice for no leg
abbrev pub no_choice : Choice
no_choice = record { legs = []; changes = [] }

-- the choice that the steps to a way make, over n + 1 legs, where `steps` holds the ways to pay fewer
abbrev pub choice_of : List Way → ℕ → Way → Choice
choice_of steps zero way = extended no_choice way.step
choice_of steps (suc n) way = extended (option_map_or (choice_of steps n) (slice_get steps way.before) no_choice) way.step

-- the ways to pay fewer legs are there
abbrev pub IsTraced : List Way → ℕ → Way → Type 0
IsTraced steps zero way = Unit {0}
IsTraced steps (suc n) way = (before : Way) × (slice_get steps way.before ≡ Some before) × IsTraced steps n before

-- ---- what a search keeps true

-- fares after the legs that the choice pays are as the way says
pub record IsStateOf (feed : FeedRows) (legs : List LegFacts) (choice : Choice) (way : Way) : Type 0 where
  pub state : fare_state feed legs choice ≡ Some way.step.state
  pub paid : paid_amount feed choice ≡ way.paid.0
  pub held : held_amount feed choice ≡ way.step.held.0

-- the steps to the way make a choice that pays n + 1 legs, and fares are as the way says
pub record IsReal (feed : FeedRows) (buyer : Buyer) (legs : List LegFacts) (steps : List Way) (n : ℕ)
    (way : Way) : Type 0 where
  pub traced : IsTraced steps n way
  pub pays : is_fare_choice feed legs (choice_of steps n way) buyer ≡ true
  pub of : IsStateOf feed legs (choice_of steps n way) way
  pub bounded : IsBounded (n + 1) way

-- some way leads to the state that the choice leads to, and is no dearer
pub record HasNoDearer (feed : FeedRows) (legs : List LegFacts) (ways : List Way) (choice : Choice) : Type 0 where
  pub way : Way
  pub is_in : Contains ways way
  pub state : fare_state feed legs choice ≡ Some way.step.state
  pub spent : IsNoDearer (spent_on way) (record { paid = paid_amount feed choice; held = held_amount feed choice })

-- each way pays n + 1 legs, and beside each choice that pays them stands such a way
pub record AreWaysOf (feed : FeedRows) (buyer : Buyer) (legs : List LegFacts) (steps : List Way) (n : ℕ)
    (ways : List Way) : Type 0 where
  pub real : (way : Way) → Contains ways way → IsReal feed buyer legs steps n way
  pub complete : (choice : Choice) → is_fare_choice feed legs choice buyer ≡ true → HasNoDearer feed legs ways choice
