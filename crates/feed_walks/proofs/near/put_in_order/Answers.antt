use Rattle.std.proofs.Common.{rules}
use Rattle.std.proofs.lemmas.Fn.{dedup_same}
use Rattle.std.proofs.lemmas.List.Sorted.{answers_always}
use Rattle.feed_walks.proofs.OrderLaws.{same, in_order}
use Rattle.feed_walks.proofs.near.put_in_order.Goals as goal

pub returns : goal.returns
returns c =
    in_order _ _ _ c.sort_unstable_by_key.ensures.permutation
    (c.sort_unstable_by_key.ensures.sorted (λ stop. stop.0) (answers_always _ _ _ (λ f a r h k. search rules)))
    (dedup_same _ same _ (λ x y b f' x' y' k. search rules) _ _ c.dedup_by_key.ensures.filtered)
