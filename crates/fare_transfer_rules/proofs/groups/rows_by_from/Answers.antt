use Rattle.fare_transfer_rules.proofs.ClassLaws.{grouped_by_class}
use Rattle.fare_transfer_rules.proofs.groups.rows_by_from.Goals as goal

pub returns : goal.returns
returns c = grouped_by_class _ _ _ _ _ c.in_ok-members.ensures c.in_ok-put_by_to.ensures c.in_ok-by_from.ensures
