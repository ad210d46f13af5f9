-- The row is judged by the least count that suffices.
use Rattle.std.proofs.Common.{◌∙◌, ap, subst, sym}
use Rattle.feed_rows.specs.TransferRules.{is_selected}
use Rattle.fare_transfer_rules.specs.BuiltTransferRules.{IsLeastFor}
use Rattle.fare_transfer_rules.specs.Changes.{asked_of}
use Rattle.fare_automaton.specs.Terms.{FareTerms}
use Rattle.fare_automaton.proofs.automaton.Automaton.selects.Goals as goal

pub returns : goal.returns
returns c =
    let change = asked_of c.args.change.now in
    c.is_selected.ensures c.self.inside.feed.now c.self.invariant.1
    (subst (λ (t : FareTerms). IsLeastFor t.feed change c.least_for-least.result) (sym c.self.view_is) c.least_for-least.ensures)
    ∙ ap (λ (t : FareTerms). is_selected t.feed change c.args.row.now) c.self.view_is
