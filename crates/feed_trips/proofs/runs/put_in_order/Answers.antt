use Rattle.std.proofs.Common.{◌∙◌}
use Rattle.std.specs.Ordering.{int_eq}
use Rattle.std.proofs.lemmas.List.Filters.{dedup_is}
use Rattle.feed_trips.proofs.NumberLaws.{ascending_of_sorted}
use Rattle.feed_trips.proofs.runs.put_in_order.Goals as goal

pub returns : goal.returns
returns c = dedup_is int_eq _ _ c.dedup.ensures.filtered ∙ ascending_of_sorted _ _ c.sort_unstable.ensures.permutation c.sort_unstable.ensures.sorted
