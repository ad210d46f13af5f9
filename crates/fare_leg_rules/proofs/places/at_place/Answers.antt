use Rattle.std.proofs.Common.{ltb, leb, rules}
use Rattle.std.proofs.lemmas.List.Sorted.{IsPartitionPoint-from_clause, IsPartitionedBy-leb, IsPartitionedBy-ltb}
use Rattle.fare_leg_rules.proofs.PlaceLaws.{part_at_place}
use Rattle.fare_leg_rules.proofs.places.at_place.Goals as goal

pub returns : goal.returns
returns c = λ up.
    let placed = c.args.rules.now in
    let place = c.args.place in
    let first = c.partition_point-first in
    let end = c.partition_point-end in
    let below = IsPartitionPoint-from_clause (λ p. ltb p.place place) placed _ first.ensures.partitioned (IsPartitionedBy-ltb (λ p. p.place) placed place up) (λ a r q k. search rules) in
    let upto = IsPartitionPoint-from_clause (λ p. leb p.place place) placed _ end.ensures.partitioned (IsPartitionedBy-leb (λ p. p.place) placed place up) (λ a r q k. search rules) in
    rw c.max.ensures (part_at_place placed place first.result end.result first.ensures.bound end.ensures.bound below.0 below.1 upto.0 upto.1)
