use Rattle.std.proofs.Common.{◌∙◌, sym, arith, take_all}
use Rattle.fare_audit.proofs.RunLaws.{same_more}
use Rattle.fare_audit.proofs.ends.are_same_ends.Goals as goal

pub loop-place-preserved : goal.loop-place-preserved
loop-place-preserved c =
    same_more c.args.a.now c.args.b.now c.loop-place.place _ _ (omega arith) (omega arith) c.loop-place.invariant (c.is_same_end.ensures c.if-not-is_same_end.false)

pub returns : goal.returns
returns c = λ same.
    sym (take_all c.loop-place.place c.args.a.now (omega arith)) ∙ c.loop-place.invariant ∙ take_all c.loop-place.place c.args.b.now (omega arith)
