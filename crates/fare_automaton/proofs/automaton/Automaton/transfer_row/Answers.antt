-- What the feed has at the number.
use Rattle.std.proofs.Common.{◌≡◌, ◌∙◌, ap, List, arith}
use Rattle.std.specs.Prelude.{slice_get}
use Rattle.std.specs.Option.{option_copied}
use Rattle.std.proofs.lemmas.Option.{gets}
use Rattle.feed_rows.specs.declared.rows.TransferRuleRow.{TransferRuleRow}
use Rattle.feed_rows.specs.FeedRows.{FeedRows}
use Rattle.fare_automaton.proofs.automaton.Automaton.transfer_row.Goals as goal

pub returns : goal.returns
returns c =
    let found : option_copied c.get.result ≡ slice_get c.items.result.now c.args.rule.0 = grind (arith, gets, c.get.ensures.lookup) in
    found
    ∙ ap (λ (rows : List TransferRuleRow). slice_get rows c.args.rule.0)
    (c.items.ensures.value ∙ ap (λ (f : FeedRows). f.transfer_rules) (c.behind-self.view_is ∙ c.feed.ensures.value))
