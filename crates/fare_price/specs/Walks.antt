-- Where fares stand after the first legs that a given choice pays.
use Rattle.std.specs.Prelude.{◌≡◌, ℕ, zero, suc, ◌-◌, ◌*◌, ◌^◌, ◌≤◌, true, List, Option, Some, None, pos, ◌+ℤ◌, nat_abs, slice_get}
use Rattle.std.proofs.Common.{take}
use Rattle.feed_rows.specs.declared.journeys.Buyer.{Buyer}
use Rattle.feed_rows.specs.declared.fares.ChangeChoice.{ChangeChoice}
use Rattle.feed_rows.specs.declared.fares.Choice.{Choice}
use Rattle.feed_rows.specs.declared.journeys.LegFacts.{LegFacts}
use Rattle.feed_rows.specs.declared.states.Move.{Move}
use Rattle.feed_rows.specs.FeedRows.{FeedRows}
use Rattle.feed_rows.specs.FareChoices.{is_fare_choice}
use Rattle.feed_rows.specs.FareStates.{held_amount, paid_amount, fare_state}
use Rattle.fare_price.specs.declared.checks.Walked.{Walked}

-- before the first leg
abbrev pub at_start : Walked
at_start = record { state = None; paid = record { 0 = pos 0 }; held = record { 0 = pos 0 } }

-- after one move more
abbrev pub walked_after : Walked → Move → Walked
walked_after walked move =
    record { state = Some move.state; paid = record { 0 = walked.paid.0 +ℤ move.paid.0 }; held = move.held }

-- the place of the change to the leg with this number, which is empty for the first leg
abbrev pub IsPlaceBefore : List (Option ChangeChoice) → ℕ → Option ChangeChoice → Type 0
IsPlaceBefore places zero place = place ≡ None
IsPlaceBefore places (suc n) place = slice_get places n ≡ Some place

-- what the choice has for the first n legs
abbrev pub front : Choice → ℕ → Choice
front choice n = record { legs = take n choice.legs; changes = take (n - 1) choice.changes }

-- the choice pays the first n legs, and fares are so after them
pub record IsPaidUpTo (feed : FeedRows) (buyer : Buyer) (legs : List LegFacts) (choice : Choice) (n : ℕ)
    (walked : Walked) : Type 0 where
  pub pays : is_fare_choice feed (take n legs) (front choice n) buyer ≡ true
  pub state : fare_state feed (take n legs) (front choice n) ≡ walked.state
  pub paid : paid_amount feed (front choice n) ≡ walked.paid.0
  pub held : held_amount feed (front choice n) ≡ walked.held.0
  pub bound : nat_abs walked.paid.0 ≤ n * (3 * 10 ^ 12)
  pub low : nat_abs walked.held.0 ≤ 10 ^ 12
