-- Whether the row is open to the buyer.
use Rattle.std.proofs.Common.{◌∙◌, ap}
use Rattle.feed_rows.specs.FareChoices.{is_open}
use Rattle.plain_laws.specs.Plain.{filled_and}
use Rattle.fare_automaton.proofs.automaton.Automaton.is_open_row.Goals as goal

pub returns-in-Some : goal.returns-in-Some
returns-in-Some c =
    c.is_open.ensures ∙ ap (λ o. filled_and o (is_open c.args.product c.args.buyer)) c.in-Some.ensures.value
