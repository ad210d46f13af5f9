use Rattle.std.proofs.Common.{ltb, leb, rules}
use Rattle.std.proofs.lemmas.List.Sorted.{IsPartitionPoint-from_clause, IsPartitionedBy-leb, IsPartitionedBy-ltb}
use Rattle.fare_transfer_rules.proofs.ClassLaws.{part_of_key}
use Rattle.fare_transfer_rules.proofs.groups.rows_to.Goals as goal

pub returns : goal.returns
returns c = λ up.
    let rows = c.args.rows.now in
    let class = c.args.class in
    let first = c.partition_point-first in
    let end = c.partition_point-end in
    let below = IsPartitionPoint-from_clause (λ r. ltb r.to_class class) rows _ first.ensures.partitioned
    (IsPartitionedBy-ltb (λ r. r.to_class) rows class up) (λ a r q k. search rules) in
    let upto = IsPartitionPoint-from_clause (λ r. leb r.to_class class) rows _ end.ensures.partitioned
    (IsPartitionedBy-leb (λ r. r.to_class) rows class up) (λ a r q k. search rules) in
    rw c.max.ensures
    (part_of_key (λ r. r.to_class) rows class first.result end.result first.ensures.bound end.ensures.bound below.0 below.1 upto.0 upto.1)
