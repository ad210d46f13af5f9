use Rattle.plan_patterns.proofs.ColumnLaws.{column_of}
use Rattle.plan_patterns.proofs.pattern.column.Goals as goal

pub returns : goal.returns
returns c = column_of _ _ _ _ _ c.in_ok-boardings.ensures c.in_ok-put_in_order.ensures.moved c.in_ok-put_in_order.ensures.rises
