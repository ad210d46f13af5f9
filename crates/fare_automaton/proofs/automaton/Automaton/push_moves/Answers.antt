-- One place more.
use Rattle.std.proofs.Common.{sym, ◌∙◌, ap, [], ◌∷◌, ◌++◌}
use Rattle.std.proofs.lemmas.List.{append-nil}
use Rattle.feed_rows.specs.declared.states.Move.{Move}
use Rattle.feed_rows.specs.FareSteps.{next_move}
use Rattle.fare_laws.specs.BareMoves.{bare}
use Rattle.fare_automaton.specs.Changes.{leg_of}
use Rattle.fare_automaton.proofs.AddedLaws.{map_added, map_whole}
use Rattle.fare_automaton.proofs.automaton.Automaton.push_moves.Goals as goal

pub loop-place-init : goal.loop-place-init
loop-place-init c = sym (append-nil c.args.moves.now.items)

pub loop-place-preserved : goal.loop-place-preserved
loop-place-preserved c =
    map_added
    (λ place. next_move c.args.self.now.feed c.args.state.now c.args.held.0 (leg_of c.args.next.now) (bare c.args.pick.now place))
    c.args.places.now c.loop-place.place-index _ _ _ _ c.loop-place-test.true c.loop-place.invariant
    (c.in_ok-push.ensures.items ∙ ap (λ (m : Move). c.loop-place.moves.items ++ m ∷ []) c.move_by.ensures)

pub returns : goal.returns
returns c =
    map_whole (λ place. next_move c.args.self.now.feed c.args.state.now c.args.held.0 (leg_of c.args.next.now) (bare c.args.pick.now place))
    c.args.places.now c.loop-place.place-index _ _ c.loop-place-test.false c.loop-place.invariant
