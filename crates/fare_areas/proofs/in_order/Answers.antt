use Rattle.std.proofs.Common.{◌∙◌}
use Rattle.std.proofs.lemmas.List.Filters.{dedup_is}
use Rattle.fare_areas.proofs.AreaLaws.{area_eq, ordered_from_sorted}
use Rattle.fare_areas.proofs.in_order.Goals as goal

pub returns : goal.returns
returns c = λ most within.
    dedup_is area_eq _ _ c.dedup.ensures.filtered
    ∙ ordered_from_sorted _ _ most (rw c.in_ok-kept.ensures.items at c.sort_unstable.ensures.permutation) c.sort_unstable.ensures.sorted within
