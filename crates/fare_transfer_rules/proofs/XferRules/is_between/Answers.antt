-- Both groups match, as the rules of the feed say.
use Rattle.std.proofs.Common.{◌∙◌, ap, ◌&&◌}
use Rattle.feed_rows.specs.TransferRules.{group_matches}
use Rattle.fare_transfer_rules.proofs.XferRules.is_between.Goals as goal

pub returns-then-matches_from : goal.returns-then-matches_from
returns-then-matches_from c = λ feed are.
    c.matches_to.ensures feed are
    ∙ ap (λ b. b && group_matches feed (λ r. r.to) c.args.row.now.to c.args.change.now.to) (c.if-matches_from.ensures feed are)

pub returns-else-matches_from : goal.returns-else-matches_from
returns-else-matches_from c = λ feed are.
    c.if-matches_from.false
    ∙ ap (λ b. b && group_matches feed (λ r. r.to) c.args.row.now.to c.args.change.now.to) (c.if-matches_from.ensures feed are)
