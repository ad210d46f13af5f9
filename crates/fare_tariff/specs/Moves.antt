-- Moves of a leg that needn't be tried beside others.
use Rattle.std.specs.Prelude.{◌≡◌, ℕ, ◌<◌, Bool, ◌&&◌, List, slice_get, Some, IsTrue}
use Rattle.feed_rows.specs.declared.states.Move.{Move}
use Rattle.feed_rows.specs.Amounts.{is_no_dearer, spent_by}
use Rattle.feed_rows.specs.SameStates.{same_parts}

-- the one leads to the same state of fares as the other, and neither pays more nor costs more
unfoldable pub betters : Move → Move → Bool
betters a b = is_no_dearer (spent_by a) (spent_by b) && same_parts a.state b.state

-- a move before the one with this number is as good as it
pub record HasBetter (moves : List Move) (number : ℕ) : Type 0 where
  pub earlier : ℕ
  pub before : earlier < number
  pub better : Move
  pub is : slice_get moves earlier ≡ Some better
  pub other : Move
  pub at : slice_get moves number ≡ Some other
  pub betters : IsTrue (betters better other)
