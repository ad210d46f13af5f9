use Rattle.std.proofs.Common.{rules, int_lt}
use Rattle.std.proofs.lemmas.List.Sorted.{IsPartitionPoint-from_clause}
use Rattle.std.proofs.lemmas.List.{take_rest}
use Rattle.plain_laws.proofs.Laws.{int_lt-true}
use Rattle.plan_patterns.proofs.ColumnLaws.{parted, not_before}
use Rattle.plan_patterns.proofs.pattern.since.Goals as goal

pub returns : goal.returns
returns c =
    let point = IsPartitionPoint-from_clause (λ b. int_lt b.at.0 c.args.from.0) _ _ c.partition_point-first.ensures.partitioned (parted _ c.args.from.0 c.requires) (λ a r q k. search rules) in
    record {
      first = c.partition_point-first.result;
      within = c.partition_point-first.ensures.bound;
      before = λ k d low lt. int_lt-true _ _ (point.0 k d low lt);
      since = λ k d low lt. not_before _ _ (point.1 k d low lt);
      is = take_rest c.args.column.now c.partition_point-first.result;
    }
