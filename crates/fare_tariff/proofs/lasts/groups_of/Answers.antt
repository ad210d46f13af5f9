-- One rule more, and at the end all rules.
use Rattle.std.proofs.Common.{◌∙◌, ap, subst}
use Rattle.feed_rows.specs.FeedRows.{FeedRows}
use Rattle.fare_tariff.specs.Lasts.{IsMarkedAt}
use Rattle.fare_tariff.proofs.LastLaws.{IsGroupMarked, first_contained, group_more, group_past}
use Rattle.fare_tariff.proofs.lasts.groups_of.Goals as goal
use Rattle.fare_tariff.proofs.lasts.groups_of.Goals.{then-is_of_marked, else-is_of_marked}

pub loop-rule-preserved : goal.loop-rule-preserved
loop-rule-preserved c =
    elim c.if-is_of_marked.branch [
      | then-is_of_marked w ↦ rw w.lasts-is (
        w.mark.ensures.len ∙ c.loop-rule.invariant.0,
        group_more c.args.networks.now c.loop-rule.lasts.items w.mark.new.marks.items c.items-rule-items.result.now
            c.loop-rule.rule-index _ c.loop-rule.invariant.1 w.mark.ensures.still
            (subst (IsMarkedAt w.mark.new.marks.items) w.place_of.ensures w.mark.ensures.there),
      )
      | else-is_of_marked w ↦ rw w.lasts-is (
        c.loop-rule.invariant.0,
        group_past c.args.networks.now c.loop-rule.lasts.items c.items-rule-items.result.now c.loop-rule.rule-index _
            c.is_of_marked.result w.if-is_of_marked.false c.is_of_marked.ensures c.loop-rule.invariant.1,
      )
    ]

pub returns : goal.returns
returns c =
    first_contained (IsGroupMarked c.args.networks.now c.loop-rule.lasts.items)
    c.items-rule-items.result.now c.args.feed.now.leg_rules c.loop-rule.rule-index
    (c.items-rule-items.ensures.value ∙ ap (λ (f : FeedRows). f.leg_rules) c.feed.view_is) c.loop-rule-test.false
    c.loop-rule.invariant.1
