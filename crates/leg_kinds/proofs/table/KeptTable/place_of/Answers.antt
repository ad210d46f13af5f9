use Rattle.std.proofs.Common.{ℕ, rules, sym, subst}
use Rattle.std.specs.Prelude.{◌==◌}
use Rattle.std.specs.List.Sorted.{IsPartitionedBy}
use Rattle.std.proofs.lemmas.List.Sorted.{IsPartitionPoint-from_clause}
use Rattle.leg_kinds.specs.Kinds.{rank, IsPlaceFor}
use Rattle.leg_kinds.proofs.OrderLaws.{parted}
use Rattle.leg_kinds.proofs.table.KeptTable.place_of.Goals as goal

pub returns-clause-place : goal.returns-clause-place
returns-clause-place g c =
    let kept = c.args.self.now.kept.items in
    let leg = c.args.leg.now in
    let first = λ (n : ℕ). rank kept leg n == 0 in
    let parts = subst (IsPartitionedBy first) (sym c.deref.ensures.value) (parted kept _ leg c.requires) in
    let clause = c.partition_point.ensures.partitioned in
    subst (λ order. IsPlaceFor kept order leg c.partition_point.result) c.deref.ensures.value
    (IsPartitionPoint-from_clause first _ _ clause parts (λ a r q k. search rules))
