use Rattle.std.proofs.Common.{arith}
use Rattle.std.proofs.lemmas.Result.{IfOk-weaker}
use Rattle.plan_rides.proofs.sought.marks_of.Goals as goal

pub returns : goal.returns
returns c =
    let few = c.if-scope-gt1.false in
    IfOk-weaker c.first_marks.result _ _
    (λ marks first. record {
      first = first;
      all = λ more stop. absurd
          (omega (arith, few, more));
    }) c.first_marks.ensures
