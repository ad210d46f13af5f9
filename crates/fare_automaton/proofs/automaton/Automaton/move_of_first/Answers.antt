-- The move of a first leg: whether there is a rule, and whether the move is an option.
use Rattle.std.proofs.Common.{◌∙◌, sym, ap, true, false}
use Rattle.std.specs.Prelude.{Some}
use Rattle.feed_rows.specs.FareChoices.{chosen_leg}
use Rattle.fare_automaton.specs.Changes.{leg_of}
use Rattle.fare_laws.proofs.MoveLaws.{first_none, first_when}
use Rattle.fare_automaton.proofs.automaton.Automaton.move_of_first.Goals as goal

pub returns-in_default : goal.returns-in_default
returns-in_default c =
    let feed = c.args.self.now.feed in
    first_none feed c.args.buyer c.args.leg.now c.args.taken.now
    (ap (chosen_leg feed c.args.leg.now) (sym c.leg_taken.ensures) ∙ sym c.in_default.ensures)

pub returns-then-not-is_first : goal.returns-then-not-is_first
returns-then-not-is_first c =
    let feed = c.args.self.now.feed in
    first_when feed c.args.buyer c.args.leg.now c.args.taken.now (leg_of c.in-Some.first) false
    (ap (chosen_leg feed c.args.leg.now) (sym c.leg_taken.ensures) ∙ sym c.in-Some.ensures) c.if-not-is_first.ensures

pub returns : goal.returns
returns c =
    let feed = c.args.self.now.feed in
    ap Some c.first_move.ensures
    ∙ first_when feed c.args.buyer c.args.leg.now c.args.taken.now (leg_of c.in-Some.first) true
    (ap (chosen_leg feed c.args.leg.now) (sym c.leg_taken.ensures) ∙ sym c.in-Some.ensures) c.if-not-is_first.ensures
