-- One place more.
use Rattle.std.proofs.Common.{subst, sym, arith, take, map, ◌+◌, ◌∙◌, ap}
use Rattle.fare_automaton.specs.Cheapest.{cheaper}
use Rattle.fare_automaton.proofs.CheapestLaws.{IsLeastOf, IsLeastSoFar, least_more, least_of_all, with_paid}
use Rattle.fare_automaton.proofs.automaton.Automaton.cheapest_place.Goals as goal

pub loop-number-preserved : goal.loop-number-preserved
loop-number-preserved c =
    let feed = c.args.self.now.feed in
    let held = c.args.held.0 in
    let amount = c.args.amount.0 in
    let paid = map (with_paid feed held amount) c.args.places.now in
    subst (IsLeastOf paid (take (c.loop-number.number + 1) paid))
    (sym (c.cheaper.ensures ∙ ap (cheaper c.loop-number.least) c.paid_place.ensures))
    (least_more feed held amount c.args.places.now c.loop-number.number _ c.loop-number.least (omega arith) c.loop-number.invariant)

pub returns-in-Some : goal.returns-in-Some
returns-in-Some c =
    let feed = c.args.self.now.feed in
    let held = c.args.held.0 in
    let amount = c.args.amount.0 in
    let places = c.args.places.now in
    least_of_all feed held amount places c.loop-number.number c.in-Some.found (omega arith)
    (subst (IsLeastSoFar feed held amount places c.loop-number.number) c.in-Some.is c.loop-number.invariant)
