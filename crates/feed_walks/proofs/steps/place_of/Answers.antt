use Rattle.std.proofs.Common.{rules, ltb}
use Rattle.std.proofs.lemmas.List.Sorted.{IsPartitionPoint-from_clause, IsPartitionedBy-ltb}
use Rattle.feed_walks.proofs.PlaceLaws.{parts_there}
use Rattle.feed_walks.proofs.steps.place_of.Goals as goal

pub returns : goal.returns
returns c = λ rises.
    let parted = IsPartitionedBy-ltb (λ step. step.to.0) _ c.args.to.0 rises in
    parts_there (λ step. step.to.0) c.args.to.0 _ _ c.partition_point.ensures.bound (IsPartitionPoint-from_clause (λ step. ltb step.to.0 c.args.to.0) _ _ c.partition_point.ensures.partitioned parted (λ a r q k. search rules))
