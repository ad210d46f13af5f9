use Rattle.std.proofs.Common.{refl, leb, rules, arith}
use Rattle.std.proofs.lemmas.Bool.Decides.{nat_tests}
use Rattle.std.proofs.lemmas.List.Sorted.{IsPartitionPoint-from_clause, IsPartitionedBy-leb}
use Rattle.fare_timeframes.proofs.DayLaws.{time_in_last}
use Rattle.fare_timeframes.proofs.days.has_time.Goals as goal

pub returns-then-started-gt0 : goal.returns-then-started-gt0
returns-then-started-gt0 c = λ steps.
    let spans = c.args.spans.now in
    let started = c.partition_point-started in
    let parted = IsPartitionedBy-leb (λ span. span.start) spans c.args.time steps.starts in
    let point = IsPartitionPoint-from_clause (λ span. leb span.start c.args.time) spans _ started.ensures.partitioned parted (λ a r q k. search rules) in
    time_in_last spans c.args.time started.result steps started.ensures.bound point.0 point.1 _ (λ none. absurd (omega arith)) (λ some. refl)

pub returns-else-started-gt0 : goal.returns-else-started-gt0
returns-else-started-gt0 c = λ steps.
    let spans = c.args.spans.now in
    let started = c.partition_point-started in
    let parted = IsPartitionedBy-leb (λ span. span.start) spans c.args.time steps.starts in
    let point = IsPartitionPoint-from_clause (λ span. leb span.start c.args.time) spans _ started.ensures.partitioned parted (λ a r q k. search rules) in
    time_in_last spans c.args.time started.result steps started.ensures.bound point.0 point.1 _ (λ none. grind (arith, nat_tests, none)) (λ some. absurd (omega arith))
