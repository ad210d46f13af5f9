-- The open rows of the rule's product; past the rules there is nothing to add.
use Rattle.std.proofs.Common.{◌∙◌, sym, ap, List, ◌++◌}
use Rattle.std.specs.Prelude.{map}
use Rattle.std.proofs.lemmas.Result.{on_ok_weaker}
use Rattle.transit_base.specs.declared.numbers.ProductRowId.{ProductRowId}
use Rattle.fare_automaton.specs.Options.{pick_of}
use Rattle.fare_automaton.proofs.OptionLaws.{rule_picks-rows, rule_picks-past}
use Rattle.fare_automaton.proofs.automaton.Automaton.push_rule.Goals as goal

pub returns-in-Some : goal.returns-in-Some
returns-in-Some c =
    let rule = c.args.rule in
    on_ok_weaker c.push_rows.result
    (λ is. is
    ∙ ap (λ (rows : List ProductRowId). c.args.picks.now.items ++ map (λ (row : ProductRowId). pick_of rule.0 row.0) rows) c.open_rows.ensures
    ∙ ap (λ xs. c.args.picks.now.items ++ xs)
    (rule_picks-rows c.args.self.now.feed c.args.self.now.buyer rule c.in-Some.own.now (sym c.in-Some.ensures)))
    c.push_rows.ensures

pub returns-in-None : goal.returns-in-None
returns-in-None c =
    rule_picks-past c.args.self.now.feed c.args.self.now.buyer c.args.rule c.args.picks.now.items (sym c.in-None.ensures)
