-- Options of a leg that are enough for a search of the cheapest, and moves that are.
use Rattle.std.specs.Prelude.{◌≡◌, true, List, ◌++◌, All, Contains, Option, Some, is_none, ℤ, ◌≤ℤ◌, option_map, slice_get}
use Rattle.std.specs.Option.{is_some}
use Rattle.transit_base.specs.declared.numbers.LegGroupId.{LegGroupId}
use Rattle.feed_rows.specs.declared.journeys.Buyer.{Buyer}
use Rattle.feed_rows.specs.declared.fares.ChangeChoice.{ChangeChoice}
use Rattle.feed_rows.specs.declared.fares.LegChoice.{LegChoice}
use Rattle.feed_rows.specs.declared.journeys.LegFacts.{LegFacts}
use Rattle.feed_rows.specs.declared.states.FareState.{FareState}
use Rattle.feed_rows.specs.declared.states.Move.{Move}
use Rattle.feed_rows.specs.FeedRows.{FeedRows}
use Rattle.feed_rows.specs.FareChoices.{is_leg_choice}
use Rattle.feed_rows.specs.FareSteps.{place_kind, move_after}
use Rattle.feed_rows.specs.FareSums.{amount_of}
use Rattle.feed_rows.specs.Amounts.{IsNoDearer, spent_by}

-- the leg group of the option's rule; none where there is no such rule
abbrev pub group_of : FeedRows → LegChoice → Option (Option LegGroupId)
group_of feed pick = option_map (λ rule. rule.group) (slice_get feed.leg_rules pick.rule.0)

-- the one is by a rule of the same leg group as the other, and costs no more
pub record IsLesserPick (feed : FeedRows) (a b : LegChoice) : Type 0 where
  pub group : group_of feed a ≡ group_of feed b
  pub amount : amount_of feed a.product ≤ℤ amount_of feed b.product

-- some of the options is such
abbrev pub HasLesser : FeedRows → List LegChoice → LegChoice → Type 0
HasLesser feed picks pick = (lesser : LegChoice) × Contains picks lesser × IsLesserPick feed lesser pick

-- they are some of the options, and beside each of the options stands such a one
pub record AreFewer (feed : FeedRows) (picks fewer : List LegChoice) : Type 0 where
  pub from : All (Contains picks) fewer
  pub each : All (HasLesser feed fewer) picks

-- they can pay the leg, and beside whatever can stands such a one
pub record AreEnough (feed : FeedRows) (buyer : Buyer) (leg : LegFacts) (picks : List LegChoice) : Type 0 where
  pub right : All (λ pick. is_leg_choice feed buyer leg pick ≡ true) picks
  pub enough : (pick : LegChoice) → is_leg_choice feed buyer leg pick ≡ true → HasLesser feed picks pick

-- the one leads to the same state as the other, and is no dearer
pub record IsLesserMove (a b : Move) : Type 0 where
  pub state : a.state ≡ b.state
  pub cost : IsNoDearer (spent_by a) (spent_by b)

-- there are these moves, and beside each that there is stands such a one
pub record AreEnoughMoves (feed : FeedRows) (buyer : Buyer) (state : Option FareState) (held : ℤ) (leg : LegFacts)
    (moves : List Move) : Type 0 where
  pub right : All (λ move. move_after feed buyer state held leg move ≡ Some move) moves
  pub enough : (move : Move) → move_after feed buyer state held leg move ≡ Some move →
      (lesser : Move) × Contains moves lesser × IsLesserMove lesser move

-- ---- fewer moves

-- some of the moves is such
abbrev pub HasLesserMove : List Move → Move → Type 0
HasLesserMove moves move = (lesser : Move) × Contains moves lesser × IsLesserMove lesser move

-- they are some of the moves, and beside each of the moves stands such a one
pub record AreFewerMoves (moves fewer : List Move) : Type 0 where
  pub from : All (Contains moves) fewer
  pub each : All (HasLesserMove fewer) moves

-- fewer of these moves are added
pub record AddsFewer (moves before now : List Move) : Type 0 where
  pub added : List Move
  pub adds : now ≡ before ++ added
  pub fewer : AreFewerMoves moves added

-- the places are all for changes that are arranged, or all for such that aren't
abbrev pub AreAlike : FeedRows → List (Option ChangeChoice) → Type 0
AreAlike feed places =
    (a b : Option ChangeChoice) → Contains places a → Contains places b
    → (is_some a ≡ is_some b) × (is_none (place_kind feed a) ≡ is_none (place_kind feed b))
