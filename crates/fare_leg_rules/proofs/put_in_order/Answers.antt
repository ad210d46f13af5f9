use Rattle.std.proofs.Common.{rules}
use Rattle.std.proofs.lemmas.List.Filters.{dedup_is}
use Rattle.std.proofs.lemmas.List.Sorted.{answers_always}
use Rattle.fare_leg_rules.proofs.OrderLaws.{rule_eq, put_in_order}
use Rattle.fare_leg_rules.proofs.put_in_order.Goals as goal

pub returns : goal.returns
returns c =
    rw (dedup_is rule_eq _ _ c.dedup.ensures.filtered)
    (put_in_order _ _ c.sort_unstable_by_key.ensures.permutation (c.sort_unstable_by_key.ensures.sorted (λ r. r.0) (answers_always _ _ _ (λ f a r g h. search rules))))
