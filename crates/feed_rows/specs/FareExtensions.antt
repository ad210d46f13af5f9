-- Moves as what extends a choice: one more leg after legs that the choice pays.
use Rattle.std.specs.Prelude.{◌≡◌, ◌≢◌, ℕ, zero, suc, true, List, [], ◌∷◌, ◌++◌, length, All, AllPairs, Contains, Option, Some, None, ◌+ℤ◌}
use Rattle.feed_rows.specs.declared.journeys.Buyer.{Buyer}
use Rattle.feed_rows.specs.declared.fares.ChangeChoice.{ChangeChoice}
use Rattle.feed_rows.specs.declared.fares.Choice.{Choice}
use Rattle.feed_rows.specs.declared.journeys.LegFacts.{LegFacts}
use Rattle.feed_rows.specs.declared.states.Move.{Move}
use Rattle.feed_rows.specs.FeedRows.{FeedRows}
use Rattle.feed_rows.specs.FareChoices.{is_fare_choice}
use Rattle.feed_rows.specs.FareStates.{held_amount, paid_amount, fare_state}
use Rattle.feed_rows.specs.FareSteps.{leg_taken, place_taken, is_whole}

-- the places of changes with one more; a first leg has none before it, and a change that is named there is one too many
abbrev pub changes_with : ℕ → List (Option ChangeChoice) → Option ChangeChoice → List (Option ChangeChoice)
changes_with zero changes None = changes
changes_with zero changes (Some pick) = changes ++ Some pick ∷ []
changes_with (suc before) changes place = changes ++ place ∷ []

-- the choice with what the move takes
abbrev pub extended : Choice → Move → Choice
extended choice move =
    record {
      legs = choice.legs ++ leg_taken move ∷ [];
      changes = changes_with (length choice.legs) choice.changes (place_taken move);
    }

-- with what the move takes the choice pays one more leg, and the move says what this adds to what is paid, what is held
-- then, and the state
pub record Extends (feed : FeedRows) (buyer : Buyer) (legs : List LegFacts) (choice : Choice)
    (leg : LegFacts) (move : Move) : Type 0 where
  pub whole : is_whole move ≡ true
  pub pays : is_fare_choice feed (legs ++ leg ∷ []) (extended choice move) buyer ≡ true
  pub paid : paid_amount feed (extended choice move) ≡ paid_amount feed choice +ℤ move.paid.0
  pub held : held_amount feed (extended choice move) ≡ move.held.0
  pub state : fare_state feed (legs ++ leg ∷ []) (extended choice move) ≡ Some move.state

-- the list begins with the other
abbrev pub StartsWith : {X : Type 0} → List X → List X → Type 0
StartsWith {X} front xs = (rest : List X) × (xs ≡ front ++ rest)

-- the longer choice begins with the other
pub record BeginsWith (choice longer : Choice) : Type 0 where
  pub legs : StartsWith choice.legs longer.legs
  pub changes : StartsWith choice.changes longer.changes

-- the moves are exactly those that extend the choice by the leg, each once: every choice that pays the longer legs and
-- begins with this one is made by one of them
pub record AreExtensions (feed : FeedRows) (buyer : Buyer) (legs : List LegFacts) (choice : Choice)
    (leg : LegFacts) (moves : List Move) : Type 0 where
  pub right : All (Extends feed buyer legs choice leg) moves
  pub all : (longer : Choice) → is_fare_choice feed (legs ++ leg ∷ []) longer buyer ≡ true → BeginsWith choice longer
      → (move : Move) × Contains moves move × (longer ≡ extended choice move)
  pub once : AllPairs (λ a b. extended choice a ≢ extended choice b) moves
