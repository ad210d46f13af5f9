-- The moves of one option more; and those of all options are all that there are.
use Rattle.std.proofs.Common.{arith}
use Rattle.std.proofs.lemmas.Option.{none-some}
use Rattle.fare_automaton.specs.Options.{next_made}
use Rattle.fare_automaton.proofs.MadeLaws.{added_made, whole_made, steps_are}
use Rattle.fare_automaton.proofs.FewestLaws.{steps_enough}
use Rattle.fare_laws.proofs.ExtensionLaws.{step_extends}
use Rattle.fare_automaton.proofs.automaton.Automaton.step_into.Goals as goal

pub loop-number-init : goal.loop-number-init
loop-number-init c = record { moves = c.clear.ensures.items; known = λ group is. absurd (none-some group is) }

pub loop-number-preserved : goal.loop-number-preserved
loop-number-preserved c = record {
  moves = added_made _ _
      (next_made c.args.self.now.feed c.args.self.now.buyer c.args.state.now c.args.held.0 c.args.times)
      c.args.options.now c.loop-number.number _ (omega arith) c.loop-number.invariant.moves c.in_ok-known.ensures.moves;
  known = c.in_ok-known.ensures.known;
}

pub returns-clause-all : goal.returns-clause-all
returns-clause-all c leg same picks =
    let feed = c.args.self.now.feed in
    let buyer = c.args.self.now.buyer in
    let state = c.args.state.now in
    let held = c.args.held.0 in
    let moves = c.loop-number.moves.items in
    let are = steps_are feed buyer state held leg c.args.options.now moves picks
    (whole_made (next_made feed buyer state held) c.args.options.now moves c.loop-number.number c.args.times _ (omega arith) same c.loop-number.invariant.moves) in
    record {
      exact = are;
      extends = λ legs choice pays has_state has_held.
          step_extends feed buyer legs choice leg state held moves pays has_state has_held are;
    }

pub returns-clause-enough : goal.returns-clause-enough
returns-clause-enough c leg same picks =
    steps_enough c.args.self.now.feed c.args.self.now.buyer c.args.state.now c.args.held.0 leg c.args.options.now c.loop-number.moves.items picks
    (whole_made (next_made c.args.self.now.feed c.args.self.now.buyer c.args.state.now c.args.held.0) c.args.options.now _ c.loop-number.number c.args.times _
    (omega arith) same c.loop-number.invariant.moves)
