use Rattle.std.proofs.Common.{◌≡◌, ◌-◌, ◌∙◌, ap, sym, leb, take, rules, arith}
use Rattle.std.proofs.lemmas.List.Sorted.{IsPartitionPoint-from_clause, IsPartitionedBy-leb}
use Rattle.plain_laws.proofs.Laws.{filter_part}
use Rattle.fare_timeframes.proofs.started_by.Goals as goal

pub returns : goal.returns
returns c = λ up.
    let rows = c.args.rows.now in
    let started = c.partition_point-started in
    let parted = IsPartitionedBy-leb (λ row. row.start) rows c.args.time up in
    let point = IsPartitionPoint-from_clause (λ row. leb row.start c.args.time) rows _ started.ensures.partitioned parted (λ a r q k. search rules) in
    let all : started.result ≡ started.result - 0 = omega arith in
    ap (λ n. take n rows) all
    ∙ sym (filter_part (λ row. leb row.start c.args.time) rows 0 started.result (omega arith) started.ensures.bound
    (λ k d low lt. absurd (omega arith)) point.0 point.1)
