use Rattle.std.proofs.Common.{◌∙◌, ap, map, ◌++◌, ◌∷◌, [], take_all, arith}
use Rattle.plan_patterns.specs.Halts.{halt_of}
use Rattle.plan_patterns.proofs.ColumnLaws.{made_more}
use Rattle.plan_patterns.proofs.halts.halts_of.Goals as goal

pub loop-position-preserved : goal.loop-position-preserved
loop-position-preserved c =
    made_more halt_of c.args.calls.now c.loop-position.position c.at.result _ _ c.at.ensures c.loop-position.invariant
    (c.in_ok-push.ensures.items ∙ ap (λ h. c.loop-position.halts.items ++ h ∷ []) c.halt_of.ensures)

pub returns : goal.returns
returns c =
    c.loop-position.invariant
    ∙ ap (map halt_of) (take_all c.loop-position.position c.args.calls.now (omega (arith, c.loop-position-test.false, c.len-position-end.ensures)))
