-- What is held already, and what is found.
use Rattle.std.proofs.Common.{◌∙◌, ap}
use Rattle.std.proofs.lemmas.Result.{on_ok_weaker}
use Rattle.feed_rows.specs.TransferRules.{FareLeg}
use Rattle.feed_rows.specs.FareSteps.{asked_after}
use Rattle.fare_automaton.specs.Options.{place_list}
use Rattle.fare_automaton.proofs.automaton.Automaton.keep_places.Goals as goal

pub returns-else-is_known : goal.returns-else-is_known
returns-else-is_known c =
    let feed = c.args.self.now.feed in
    let buyer = c.args.self.now.buyer in
    on_ok_weaker c.places_into.result
    (λ is. is ∙ ap (place_list feed buyer) c.change_after.ensures
    ∙ ap (λ (l : FareLeg). place_list feed buyer (asked_after c.args.state.now l)) c.requires.next)
    c.places_into.ensures
