use Rattle.std.proofs.Common.{rules}
use Rattle.std.proofs.lemmas.List.Sorted.{IsPartitionPoint-from_clause}
use Rattle.plan_rides.specs.Cutoffs.{cutoff_of, is_early}
use Rattle.plan_rides.proofs.CutoffLaws.{parted_early}
use Rattle.plan_rides.proofs.departures.first_late.Goals as goal

pub returns : goal.returns
returns c =
    let lasts = cutoff_of c.args.lasts.now in
    let point = IsPartitionPoint-from_clause (λ b. is_early lasts c.args.stop.0 b.at.0) _ _ c.partition_point.ensures.partitioned (parted_early _ lasts c.args.stop.0 c.requires) (λ a r q k. search rules) in
    record { within = c.partition_point.ensures.bound; late = λ k d low lt. point.1 k d low lt }
