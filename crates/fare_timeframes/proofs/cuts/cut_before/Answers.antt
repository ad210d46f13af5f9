use Rattle.std.proofs.Common.{◌≡◌, subst, ℕ, length, leb, false, rules, arith, refl}
use Rattle.std.specs.List.{AllWithin}
use Rattle.std.proofs.lemmas.List.Sorted.{IsPartitionPoint-from_clause, IsPartitionedBy-leb}
use Rattle.fare_timeframes.proofs.CutLaws.{cut_at, cut_none}
use Rattle.fare_timeframes.proofs.cuts.cut_before.Goals as goal

pub returns-then-passed-eq0 : goal.returns-then-passed-eq0
returns-then-passed-eq0 c =
    λ up.
    let cuts = c.args.cuts.now in
    let started = c.partition_point-passed in
    let parted = IsPartitionedBy-leb (λ (cut : ℕ). cut) cuts c.args.time up in
    let point = IsPartitionPoint-from_clause (λ cut. leb cut c.args.time) cuts _ started.ensures.partitioned parted (λ a r q k. search rules) in
    cut_none cuts c.args.time (subst (λ n. AllWithin (λ cut. leb cut c.args.time ≡ false) cuts n (length cuts)) c.if-passed-eq0.true point.1)

pub returns-else-passed-eq0 : goal.returns-else-passed-eq0
returns-else-passed-eq0 c =
    λ up.
    let cuts = c.args.cuts.now in
    let started = c.partition_point-passed in
    let parted = IsPartitionedBy-leb (λ (cut : ℕ). cut) cuts c.args.time up in
    let point = IsPartitionPoint-from_clause (λ cut. leb cut c.args.time) cuts _ started.ensures.partitioned parted (λ a r q k. search rules) in
    let some = c.if-passed-eq0.false in
    cut_at cuts c.args.time started.result _ up (omega (arith, some)) started.ensures.bound refl point.0 point.1
