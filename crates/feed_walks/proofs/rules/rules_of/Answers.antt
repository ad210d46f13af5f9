use Rattle.std.proofs.Common.{◌∙◌, ap}
use Rattle.item_groups.specs.Groups.{groups_below}
use Rattle.feed_walks.proofs.RuleLaws.{rules_from_groups}
use Rattle.feed_walks.proofs.rules.rules_of.Goals as goal

pub returns : goal.returns
returns c =
    rules_from_groups c.args.links.now c.items.result.now _ _ c.args.count c.requires.froms c.requires.tos
    (c.in_ok-by_end.ensures ∙ ap (groups_below c.args.count) c.in_ok-with_ends.ensures) c.items.ensures
    (c.in_ok-rules.ensures ∙ ap (groups_below c.args.count) c.in_ok-with_starts.ensures)
