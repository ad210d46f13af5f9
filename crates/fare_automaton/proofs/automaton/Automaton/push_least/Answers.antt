-- The move by the cheapest place; none without places.
use Rattle.std.proofs.Common.{◌∙◌, ap, subst, [], ◌∷◌, ◌++◌, ℤ}
use Rattle.std.specs.Prelude.{map}
use Rattle.feed_rows.specs.declared.states.Move.{Move}
use Rattle.fare_automaton.specs.Changes.{leg_of}
use Rattle.fare_automaton.proofs.CheapestLaws.{IsCheapest, adds_none, by_place, fewer_by_place}
use Rattle.fare_automaton.proofs.automaton.Automaton.push_least.Goals as goal

pub returns-in_ok-push-in-Some : goal.returns-in_ok-push-in-Some
returns-in_ok-push-in-Some c =
    let feed = c.args.self.now.feed in
    let next = leg_of c.args.next.now in
    let move = by_place feed c.args.state.now c.args.held.0 next c.args.pick.now c.in-Some.place in
    record {
      added = move ∷ [];
      adds = c.in_ok-push-in-Some.ensures.items ∙ ap (λ (m : Move). c.args.moves.now.items ++ m ∷ []) c.move_by.ensures;
      fewer = fewer_by_place feed c.args.state.now c.args.held.0 next c.args.pick.now c.args.places.now c.in-Some.place c.requires.alike
          (subst (λ (amount : ℤ). IsCheapest feed c.args.held.0 amount c.args.places.now c.in-Some.place)
          c.price_of-amount.ensures.value c.in-Some.ensures);
    }

pub returns-in-None : goal.returns-in-None
returns-in-None c =
    adds_none _ c.args.moves.now.items
    (ap (map (by_place c.args.self.now.feed c.args.state.now c.args.held.0 (leg_of c.args.next.now) c.args.pick.now)) c.in-None.ensures)
