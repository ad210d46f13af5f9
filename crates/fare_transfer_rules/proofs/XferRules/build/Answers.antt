use Rattle.fare_transfer_rules.proofs.RowLaws.{built}
use Rattle.fare_transfer_rules.proofs.XferRules.build.Goals as goal

pub returns : goal.returns
returns c =
    built _ _ _ _ _ c.feed.view_is c.feed.invariant c.items-rows.ensures.value c.items-groups.ensures.len
    c.in_ok-from_slice.ensures.items c.in_ok-rows_by_from.ensures c.in_ok-marked.ensures c.in_ok-marked-2.ensures
