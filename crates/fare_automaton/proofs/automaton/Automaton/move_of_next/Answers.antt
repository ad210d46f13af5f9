-- The move of a leg after a state: whether there is a rule, and whether the move is an option.
use Rattle.std.proofs.Common.{◌∙◌, sym, ap, true, false}
use Rattle.std.specs.Prelude.{Some}
use Rattle.feed_rows.specs.FareChoices.{chosen_leg}
use Rattle.fare_automaton.specs.Changes.{leg_of}
use Rattle.fare_laws.proofs.MoveLaws.{next_none, next_when}
use Rattle.fare_automaton.proofs.automaton.Automaton.move_of_next.Goals as goal

pub returns-in_default : goal.returns-in_default
returns-in_default c =
    let feed = c.args.self.now.feed in
    next_none feed c.args.buyer c.args.leg.now c.args.taken.now c.args.state.now c.args.held.0
    (ap (chosen_leg feed c.args.leg.now) (sym c.leg_taken.ensures) ∙ sym c.in_default.ensures)

pub returns-then-not-is_next : goal.returns-then-not-is_next
returns-then-not-is_next c =
    let feed = c.args.self.now.feed in
    next_when feed c.args.buyer c.args.leg.now c.args.taken.now c.args.state.now c.args.held.0
    (leg_of c.in-Some.next) false
    (ap (chosen_leg feed c.args.leg.now) (sym c.leg_taken.ensures) ∙ sym c.in-Some.ensures) c.if-not-is_next.ensures

pub returns : goal.returns
returns c =
    let feed = c.args.self.now.feed in
    ap Some c.next_move.ensures
    ∙ next_when feed c.args.buyer c.args.leg.now c.args.taken.now c.args.state.now c.args.held.0
    (leg_of c.in-Some.next) true
    (ap (chosen_leg feed c.args.leg.now) (sym c.leg_taken.ensures) ∙ sym c.in-Some.ensures) c.if-not-is_next.ensures
