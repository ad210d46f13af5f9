use Rattle.std.proofs.Common.{◌∙◌, ◌++◌, ap}
use Rattle.std.proofs.lemmas.Result.{IfOk-weaker}
use Rattle.fare_leg_rules.specs.Fits.{chosen_among, own_rules}
use Rattle.fare_leg_rules.specs.Places.{candidates}
use Rattle.fare_leg_rules.proofs.OrderLaws.{own_has, selected_in_order}
use Rattle.fare_leg_rules.proofs.LegRules.selected.Goals as goal

pub returns : goal.returns
returns c =
    let rules = c.args.self.now in
    let leg = c.args.leg.now in
    let top = c.top_priority-least.result in
    let first = rw c.own.ensures at c.in_ok-push_candidates.ensures in
    let second = rw c.deref.ensures.value at c.in_ok-push_candidates-2.ensures in
    IfOk-weaker c.rule_list.result _ _
    (λ list is feed are.
    let own = first (own_has feed rules are leg).rises ∙ ap (λ ids. ids ++ chosen_among rules leg top (candidates (own_rules rules leg) leg.from_areas)) c.new-chosen.ensures.items in
    let both = second are.common.rises ∙ ap (λ ids. ids ++ chosen_among rules leg top (candidates rules.common.items leg.from_areas)) own in
    is ∙ c.as_slice.ensures.value
    ∙ selected_in_order feed rules are leg top _ _ (c.top_priority-least.ensures feed are) both c.put_in_order.ensures)
    c.rule_list.ensures
