-- A row that is chosen, one that isn't, and none.
use Rattle.std.proofs.Common.{sym, ◌∙◌, ap, true, false}
use Rattle.std.specs.Option.{option_copied}
use Rattle.std.proofs.lemmas.List.{append-nil}
use Rattle.std.proofs.lemmas.Result.{on_ok_weaker}
use Rattle.fare_transfer_rules.specs.Changes.{asked_of}
use Rattle.fare_automaton.proofs.OptionLaws.{chosen_places-where, chosen_places-past}
use Rattle.fare_automaton.proofs.automaton.Automaton.push_chosen.Goals as goal

pub returns-in-Some : goal.returns-in-Some
returns-in-Some c =
    on_ok_weaker c.push_product.result
    (λ is. is
    ∙ chosen_places-where c.args.self.now.feed c.args.self.now.buyer (asked_of c.args.change.now) c.args.least c.args.rule c.in-Some.row.now true
    c.args.places.now.items (sym c.in-Some.ensures) c.if-is_chosen.ensures)
    c.push_product.ensures

pub returns-in_default : goal.returns-in_default
returns-in_default c =
    sym (append-nil c.args.places.now.items)
    ∙ chosen_places-where c.args.self.now.feed c.args.self.now.buyer (asked_of c.args.change.now) c.args.least c.args.rule c.in-Some.row.now false
    c.args.places.now.items (sym c.in-Some.ensures) c.if-is_chosen.ensures

pub returns-in_default-2 : goal.returns-in_default-2
returns-in_default-2 c =
    chosen_places-past c.args.self.now.feed c.args.self.now.buyer (asked_of c.args.change.now) c.args.least c.args.rule c.args.places.now.items
    (sym c.transfer_row.ensures ∙ ap option_copied c.in_default.is)
