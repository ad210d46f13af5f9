-- When one partial journey is as good as another in all that its continuations can tell.
use Rattle.std.specs.Prelude.{◌≡◌, ◌≤◌, ◌≤ℤ◌, ℤ}
use Rattle.feed_rows.specs.Amounts.{Spent, price, IsNoDearer}
use Rattle.feed_rows.specs.PartialJourneys.{LabelFacts}

-- what was paid so far, and what is held
abbrev pub spent_so_far : LabelFacts → Spent
spent_so_far a = record { paid = a.paid; held = a.held }

-- the price so far, with what is held
abbrev pub price_so_far : LabelFacts → ℤ
price_so_far a = price (spent_so_far a)

-- at the same stop with the same state of fares, the one arrives no later, by no more rides, and is no dearer
pub record Covers (a b : LabelFacts) : Type 0 where
  pub stop : a.stop ≡ b.stop
  pub arrival : a.arrival ≤ℤ b.arrival
  pub rides : a.rides ≤ b.rides
  pub spent : IsNoDearer (spent_so_far a) (spent_so_far b)
  pub state : a.state ≡ b.state
