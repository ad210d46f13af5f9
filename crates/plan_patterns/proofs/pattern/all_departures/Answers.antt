use Rattle.std.proofs.Common.{◌∙◌, ap, ◌++◌, ◌∷◌, []}
use Rattle.plan_patterns.proofs.ColumnLaws.{columns_more}
use Rattle.plan_patterns.proofs.pattern.all_departures.Goals as goal

pub loop-position-preserved : goal.loop-position-preserved
loop-position-preserved c = columns_more _ _ _ _ _ _ c.loop-position.invariant c.in_ok-own.ensures (c.in_ok-push.ensures.ok ∙ ap (λ own. c.loop-position.departures ++ own ∷ []) c.deref.ensures.value)
