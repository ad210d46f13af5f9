use Rattle.std.proofs.Common.{rules}
use Rattle.std.proofs.lemmas.List.Filters.{dedup_is}
use Rattle.std.proofs.lemmas.List.Sorted.{answers_always}
use Rattle.fare_audit.proofs.ReportLaws.{pair_eq, pair_key, pairs_in_order}
use Rattle.fare_audit.proofs.pairs.put_in_order.Goals as goal

pub returns : goal.returns
returns c =
    rw (dedup_is pair_eq _ _ c.dedup.ensures.filtered)
    (pairs_in_order _ _ c.sort_unstable_by_key.ensures.permutation (c.sort_unstable_by_key.ensures.sorted pair_key (answers_always _ _ _ (λ f a r g h. search rules))))
