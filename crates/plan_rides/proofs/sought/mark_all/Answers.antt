use Rattle.std.proofs.Common.{◌∙◌, arith}
use Rattle.plan_rides.proofs.MarkLaws.{marks_first}
use Rattle.plan_rides.proofs.sought.mark_all.Goals as goal

pub loop-k-init : goal.loop-k-init
loop-k-init c = record {
  many = c.requires;
  firsts = λ query first among. let below = among.1 in absurd
      (omega (arith, below));
}

pub loop-k-preserved : goal.loop-k-preserved
loop-k-preserved c = record {
  many = c.mark_from.ensures.adds.right ∙ c.loop-k.invariant.many;
  firsts = λ query. marks_first c.args.timetable.now query c.args.firsts.now c.loop-k.k _ _ _ _ c.loop-k-test.true
      (c.loop-k.invariant.firsts query) c.mark_from.ensures.adds (c.mark_from.ensures.all query);
}

pub returns-clause-all : goal.returns-clause-all
returns-clause-all c = λ query first among.
    let below = among.1 in
    let past = c.loop-k-test.false in
    c.loop-k.invariant.firsts query first (among.0, omega (arith, below, past), among.2)
