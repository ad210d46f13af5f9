-- One option more; and fewer of enough moves are enough.
use Rattle.std.proofs.Common.{◌≡◌, sym, ap, subst, ℕ, length, arith}
use Rattle.std.specs.Prelude.{Some}
use Rattle.std.proofs.lemmas.Option.{none-some}
use Rattle.plain_laws.specs.Plain.{joined_below}
use Rattle.fare_automaton.specs.declared.changes.LegTimes.{LegTimes}
use Rattle.fare_automaton.specs.Fewest.{AreFewerMoves}
use Rattle.fare_automaton.specs.Options.{next_made, made_at}
use Rattle.fare_automaton.proofs.CheapestLaws.{enough_fewer, fewer_more, fewer_none}
use Rattle.fare_automaton.proofs.FewestLaws.{steps_enough}
use Rattle.fare_automaton.proofs.automaton.Automaton.cheapest_into.Goals as goal

pub loop-number-init : goal.loop-number-init
loop-number-init c = record {
  moves = rw c.clear.ensures.items fewer_none;
  known = λ group is. absurd (none-some group is);
}

pub loop-number-preserved : goal.loop-number-preserved
loop-number-preserved c = record {
  moves = fewer_more
      (next_made c.args.self.now.feed c.args.self.now.buyer c.args.state.now c.args.held.0 c.args.times)
      c.args.options.now c.loop-number.number _ _ _ (omega arith) c.loop-number.invariant.moves c.in_ok-known.ensures.moves;
  known = c.in_ok-known.ensures.known;
}

pub returns : goal.returns
returns c leg same picks =
    let feed = c.args.self.now.feed in
    let buyer = c.args.self.now.buyer in
    let state = c.args.state.now in
    let held = c.args.held.0 in
    let options = c.args.options.now in
    let all = λ (n : ℕ) (times : LegTimes). joined_below n (made_at (next_made feed buyer state held times) options) in
    let whole : c.loop-number.number ≡ length options = omega arith in
    enough_fewer feed buyer (Some state) held leg (all (length options) c.args.times) c.loop-number.moves.items
    (steps_enough feed buyer state held leg options (all (length options) c.args.times) picks
    (ap (all (length options)) (sym same)))
    (subst (λ (n : ℕ). AreFewerMoves (all n c.args.times) c.loop-number.moves.items) whole c.loop-number.invariant.moves)
