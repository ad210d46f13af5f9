use Rattle.std.proofs.Common.{rules}
use Rattle.std.proofs.lemmas.List.Sorted.{IsNonDecreasingBy-from_sort_by_key}
use Rattle.fare_timeframes.proofs.FrameLaws.{grouped_by_start}
use Rattle.fare_timeframes.proofs.rows_by_frame.Goals as goal

pub returns : goal.returns
returns c =
    grouped_by_start _ _ _ _ (rw c.in_ok-members.ensures at c.sort_unstable_by_key.ensures.permutation)
    (IsNonDecreasingBy-from_sort_by_key (λ m. m.item.start) _ c.sort_unstable_by_key.ensures.sorted (λ a r q k. search rules))
    c.in_ok-groups.ensures
