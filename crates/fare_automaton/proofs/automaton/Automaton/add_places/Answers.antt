-- The places of a change that is arranged, and of one that isn't.
use Rattle.std.proofs.Common.{◌∙◌, ap, List, ◌++◌}
use Rattle.std.specs.Prelude.{Option}
use Rattle.std.proofs.lemmas.Result.{on_ok_weaker}
use Rattle.feed_rows.specs.declared.fares.ChangeChoice.{ChangeChoice}
use Rattle.fare_transfer_rules.specs.Changes.{asked_of}
use Rattle.fare_automaton.proofs.OptionLaws.{list_arranged, list_unarranged, places_are}
use Rattle.fare_automaton.proofs.automaton.Automaton.add_places.Goals as goal

pub returns-then-is_some : goal.returns-then-is_some
returns-then-is_some c =
    let feed = c.args.self.now.feed in
    let buyer = c.args.self.now.buyer in
    let change = asked_of c.args.change.now in
    let among = c.rows_between-among.result.now in
    let are = c.rows_between-among.ensures in
    let least = c.least_for-least.result in
    let is_least = c.least_for-least.ensures in
    on_ok_weaker c.push_places.result
    (λ is. is ∙ ap (λ (xs : List (Option ChangeChoice)). c.args.places.now.items ++ xs)
    (places_are feed buyer change among are least is_least
    ∙ list_arranged feed buyer change (c.if-is_some.ensures ∙ is_least.some)))
    c.push_places.ensures

pub returns-else-is_some : goal.returns-else-is_some
returns-else-is_some c =
    let feed = c.args.self.now.feed in
    let change = asked_of c.args.change.now in
    on_ok_weaker c.push_place.result
    (λ is. is ∙ ap (λ (xs : List (Option ChangeChoice)). c.args.places.now.items ++ xs)
    (list_unarranged feed c.args.self.now.buyer change
    (c.if-is_some.ensures ∙ c.least_for-least.ensures.some)))
    c.push_place.ensures
