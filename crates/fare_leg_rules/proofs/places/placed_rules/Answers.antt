use Rattle.std.proofs.Common.{rules}
use Rattle.std.proofs.lemmas.List.Sorted.{IsNonDecreasingBy-from_sort_by_key}
use Rattle.fare_leg_rules.proofs.PlaceLaws.{placed_from_sorted}
use Rattle.fare_leg_rules.proofs.places.placed_rules.Goals as goal

pub returns : goal.returns
returns c =
    placed_from_sorted _ _ _ c.in_ok-placed.ensures c.sort_unstable_by_key.ensures.permutation
    (IsNonDecreasingBy-from_sort_by_key (λ p. p.place) _ c.sort_unstable_by_key.ensures.sorted (λ a r q k. search rules))
