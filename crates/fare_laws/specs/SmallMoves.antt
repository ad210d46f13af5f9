-- Moves whose amounts are small enough to be added up.
use Rattle.std.specs.Prelude.{◌*◌, ◌^◌, ◌≤◌, nat_abs}
use Rattle.feed_rows.specs.declared.states.Move.{Move}
use Rattle.feed_rows.specs.Amounts.{IsLow}

-- the move adds no more than one leg and the change to it can cost
pub record IsSmall (move : Move) : Type 0 where
  pub paid : nat_abs move.paid.0 ≤ 3 * 10 ^ 12
  pub held : IsLow move.held.0
