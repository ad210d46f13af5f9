-- A change that isn't arranged leaves a leg as a first one is.
use Rattle.std.proofs.Common.{◌∙◌, sym, ap}
use Rattle.std.specs.Prelude.{Option}
use Rattle.feed_rows.specs.declared.fares.ChangeChoice.{ChangeChoice}
use Rattle.feed_rows.specs.declared.states.Move.{Move}
use Rattle.feed_rows.specs.FareSteps.{first_move, next_move}
use Rattle.fare_laws.specs.BareMoves.{bare}
use Rattle.fare_automaton.specs.Changes.{leg_of}
use Rattle.fare_automaton.proofs.StateLaws.{unarranged}
use Rattle.fare_automaton.proofs.automaton.Automaton.move_by.Goals as goal

pub returns-in-None : goal.returns-in-None
returns-in-None c =
    let feed = c.args.self.now.feed in
    let next = leg_of c.args.next.now in
    ap (λ (m : Move). record m { paid = c.args.held })
    (c.first_move.ensures ∙ ap (first_move feed next) c.bare-in-None.ensures)
    ∙ unarranged feed c.args.state.now c.args.held.0 next c.args.pick.now
    ∙ ap (λ (place : Option ChangeChoice). next_move feed c.args.state.now c.args.held.0 next (bare c.args.pick.now place)) (sym c.in-None.is)
