-- The moves by the places of the change to the leg.
use Rattle.std.proofs.Common.{◌∙◌, ap, List, ◌++◌}
use Rattle.std.specs.Prelude.{map, Option}
use Rattle.feed_rows.specs.declared.fares.ChangeChoice.{ChangeChoice}
use Rattle.feed_rows.specs.declared.states.Move.{Move}
use Rattle.feed_rows.specs.FareSteps.{next_move}
use Rattle.fare_laws.specs.BareMoves.{bare}
use Rattle.fare_automaton.specs.Changes.{leg_of}
use Rattle.fare_automaton.proofs.MadeLaws.{chosen_moments, made_by_places}
use Rattle.fare_automaton.proofs.automaton.Automaton.push_next.Goals as goal

pub keep_places-requires-clause-next : goal.keep_places-requires-clause-next
keep_places-requires-clause-next c =
    chosen_moments c.args.self.now.feed c.args.self.now.buyer c.args.state.now c.args.held.0 c.args.times c.args.pick.now
    c.in-Some.next c.in-Some.ensures

pub returns-in_ok-push_moves-in-Some-clause-moves : goal.returns-in_ok-push_moves-in-Some-clause-moves
returns-in_ok-push_moves-in-Some-clause-moves c =
    let feed = c.args.self.now.feed in
    let state = c.args.state.now in
    let held = c.args.held.0 in
    let next = c.in-Some.next in
    let pick = c.args.pick.now in
    c.in_ok-push_moves-in-Some.ensures
    ∙ ap (λ (places : List (Option ChangeChoice)). c.args.moves.now.items
    ++ map (λ place. next_move feed state held (leg_of next) (bare pick place)) places) c.deref.ensures.value
    ∙ ap (λ (xs : List Move). c.args.moves.now.items ++ xs)
    (made_by_places feed c.args.self.now.buyer state held c.args.times pick next c.keep_places.new.places.items
    c.in-Some.ensures c.in_ok-keep_places-in-Some.ensures)
