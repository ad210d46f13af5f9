use Rattle.std.proofs.Common.{◌≡◌, ◌∙◌, sym, ap, subst, arith, ◌<◌, ℕ, List, length}
use Rattle.plain_laws.proofs.Laws.{find_below_tells}
use Rattle.feed_faults.specs.declared.checks.RowRule.{RowRule}
use Rattle.feed_faults.specs.Records.{row_count}
use Rattle.feed_faults.specs.FeedTables.{FeedTables, table_in}
use Rattle.feed_faults.specs.FileColumns.{checks_of}
use Rattle.feed_faults.specs.RowChecks.{fault_of_check, relation_fault_of_row}
use Rattle.feed_relations.proofs.FittingLaws.{fits, knows, check_passed, check_failed}
use Rattle.feed_relations.proofs.LeastLaws.{IsLeast, least_end}
use Rattle.feed_relations.proofs.pass.fault_of_table.Goals as goal
use Rattle.feed_relations.proofs.pass.fault_of_table.Goals.{in-Some, in_default}

pub first_failing-requires-clause-fits : goal.first_failing-requires-clause-fits
first_failing-requires-clause-fits g c =
    rw c.rule_of.ensures.checks (fits c.args.feed.now c.args.file c.loop-i.i _ c.requires (subst (λ (checks : List RowRule). c.loop-i.i < length checks) c.rule_of.ensures.checks c.loop-i-test.true))

pub first_failing-requires-clause-known : goal.first_failing-requires-clause-known
first_failing-requires-clause-known g c =
    rw c.rule_of.ensures.checks (λ row lt. knows c.args.feed.now c.args.file c.loop-i.i _ row c.requires (subst (λ (checks : List RowRule). c.loop-i.i < length checks) c.rule_of.ensures.checks c.loop-i-test.true) (c.loop-i.invariant.none row lt))

pub field_fault-requires : goal.field_fault-requires
field_fault-requires g c =
    let first = find_below_tells _ c.loop-i.below c.in-Some.row (sym c.in_ok-row.ensures ∙ c.in-Some.is) in
    let less = first.within in
    let rows : c.rows-below.result ≡ row_count (table_in c.args.feed.now c.args.file) = c.rows-below.ensures.count ∙ ap (λ (t : FeedTables). row_count (table_in t c.args.file)) c.tables.ensures in
    let few = c.rows-below.ensures.few in
    let le = c.loop-i.invariant.within in
    omega arith

pub loop-i-preserved : goal.loop-i-preserved
loop-i-preserved g c =
    elim c.match-branch-2.branch [
      | in-Some w ↦
          rw (w.below-is, w.fault-is, w.field_fault.ensures)
          (check_failed c.args.feed.now c.args.file c.rule_of.result.checks.now c.rule_of.ensures.checks _ c.loop-i.i c.loop-i.below c.loop-i.fault _ c.loop-i-test.true c.loop-i.invariant w.in-Some.row (sym c.in_ok-row.ensures ∙ w.in-Some.is))
      | in_default w ↦
          rw (w.below-is, w.fault-is)
          (check_passed c.args.feed.now c.args.file c.rule_of.result.checks.now c.rule_of.ensures.checks _ c.loop-i.i c.loop-i.below c.loop-i.fault _ c.loop-i-test.true c.loop-i.invariant (sym c.in_ok-row.ensures ∙ w.in_default.is))
    ]

pub returns : goal.returns
unfolding relation_fault_of_row
returns g c =
    let checks = checks_of c.args.file in
    let n = row_count (table_in c.args.feed.now c.args.file) in
    let all : c.loop-i.i ≡ length checks = subst (λ (xs : List RowRule). c.loop-i.i ≡ length xs) c.rule_of.ensures.checks (omega (arith, c.loop-i-test.false, c.loop-i.auto.i-end)) in
    least_end checks (fault_of_check c.args.feed.now c.args.file) n c.loop-i.below c.loop-i.fault (subst (λ (i : ℕ). IsLeast checks (fault_of_check c.args.feed.now c.args.file) i n c.loop-i.below c.loop-i.fault) all c.loop-i.invariant)
