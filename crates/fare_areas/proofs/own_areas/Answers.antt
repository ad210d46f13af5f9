use Rattle.std.proofs.Common.{◌∙◌, ap, length}
use Rattle.std.proofs.lemmas.Result.{IfOk-weaker}
use Rattle.item_groups.specs.Groups.{groups_below}
use Rattle.fare_areas.proofs.AreaLaws.{own_from_groups}
use Rattle.fare_areas.proofs.own_areas.Goals as goal

pub returns : goal.returns
returns c =
    let rows = c.in_ok-rows.ensures ∙ ap (groups_below (length c.items.result.now)) c.in_ok-members.ensures in
    IfOk-weaker c.each_in_order.result _ _
    (λ own made. rw (← c.feed.view_is) (own_from_groups _ c.feed.invariant.stop_areas _ _ own _ c.items-2.ensures.value (ap length c.items.ensures.value) rows made))
    c.each_in_order.ensures
