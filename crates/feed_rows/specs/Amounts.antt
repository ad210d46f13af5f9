-- Amounts of fares: how great those of a sound feed are, and when what was paid and what is held are no more than another's.
use Rattle.std.specs.Prelude.{Bool, ◌&&◌, ◌^◌, ◌≤◌, ℤ, ◌+ℤ◌, ◌≤ℤ◌, int_le, nat_abs}
use Rattle.feed_rows.specs.declared.states.Move.{Move}

-- the amount is one that a sound feed can have
abbrev pub IsLow : ℤ → Type 0
IsLow amount = nat_abs amount ≤ 10 ^ 12

-- what was paid, and what a later change could take back
pub record Spent : Type 0 where
  pub paid : ℤ
  pub held : ℤ

-- what a move adds to what was paid, and what is held after it
abbrev pub spent_by : Move → Spent
spent_by move = record { paid = move.paid.0; held = move.held.0 }

-- what it costs so far
abbrev pub price : Spent → ℤ
price spent = spent.paid +ℤ spent.held

-- neither is more paid by the one than by the other, nor does it cost more
pub record IsNoDearer (a b : Spent) : Type 0 where
  pub paid : a.paid ≤ℤ b.paid
  pub price : price a ≤ℤ price b

-- the test of that
unfoldable pub is_no_dearer : Spent → Spent → Bool
is_no_dearer a b = int_le a.paid b.paid && int_le (price a) (price b)
