-- A move by the places of the change to the leg; none without a leg.
use Rattle.std.proofs.Common.{◌∙◌, ap, sym, subst, List, []}
use Rattle.std.specs.Prelude.{Option, map}
use Rattle.std.specs.Option.{option_map_or}
use Rattle.feed_rows.specs.declared.fares.ChangeChoice.{ChangeChoice}
use Rattle.feed_rows.specs.declared.states.Move.{Move}
use Rattle.feed_rows.specs.FareSteps.{asked_after, next_move}
use Rattle.feed_rows.specs.TransferRules.{FareLeg}
use Rattle.fare_laws.specs.BareMoves.{bare}
use Rattle.fare_automaton.specs.Changes.{leg_by, leg_of}
use Rattle.fare_automaton.specs.Fewest.{AddsFewer, AreAlike}
use Rattle.fare_automaton.specs.Options.{place_list}
use Rattle.fare_automaton.proofs.CheapestLaws.{adds_none, places_alike}
use Rattle.fare_automaton.proofs.MadeLaws.{chosen_moments, made_by_places}
use Rattle.fare_automaton.proofs.automaton.Automaton.push_cheapest.Goals as goal

pub keep_places-requires-clause-next : goal.keep_places-requires-clause-next
keep_places-requires-clause-next c =
    chosen_moments c.args.self.now.feed c.args.self.now.buyer c.args.state.now c.args.held.0 c.args.times c.args.pick.now
    c.in-Some.next c.in-Some.ensures

pub push_least-requires-clause-alike : goal.push_least-requires-clause-alike
push_least-requires-clause-alike c =
    subst (AreAlike c.args.self.now.feed) (sym c.deref.ensures.value)
    (places_alike c.args.self.now.feed c.args.self.now.buyer
    (asked_after c.args.state.now (leg_by c.args.times c.in-Some.next.group)) c.keep_places.new.places.items
    c.in_ok-keep_places-in-Some.ensures)

pub returns-in_ok-push_least-in-Some-clause-moves : goal.returns-in_ok-push_least-in-Some-clause-moves
returns-in_ok-push_least-in-Some-clause-moves c =
    let feed = c.args.self.now.feed in
    let made = made_by_places feed c.args.self.now.buyer c.args.state.now c.args.held.0 c.args.times c.args.pick.now c.in-Some.next
    c.keep_places.new.places.items c.in-Some.ensures c.in_ok-keep_places-in-Some.ensures in
    let by = λ (places : List (Option ChangeChoice)).
    map (λ place. next_move feed c.args.state.now c.args.held.0 (leg_of c.in-Some.next) (bare c.args.pick.now place)) places in
    subst (λ (moves : List Move). AddsFewer moves c.args.moves.now.items c.push_least.new.moves.items)
    (ap by c.deref.ensures.value ∙ made)
    c.in_ok-push_least-in-Some.ensures

pub returns-in-None-clause-moves : goal.returns-in-None-clause-moves
returns-in-None-clause-moves c =
    adds_none _ c.args.moves.now.items
    (ap (λ (o : Option FareLeg). option_map_or (λ l.
    map (λ place. next_move c.args.self.now.feed c.args.state.now c.args.held.0 l (bare c.args.pick.now place))
    (place_list c.args.self.now.feed c.args.self.now.buyer (asked_after c.args.state.now l))) o []) (sym c.in-None.ensures))
