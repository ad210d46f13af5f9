use Rattle.std.proofs.Common.{◌∙◌, ap, sym, subst}
use Rattle.feed_rows.specs.Legs.{leg_facts}
use Rattle.fare_automaton.specs.Fewest.{AreEnough}
use Rattle.fare_automaton.specs.Terms.{FareTerms, terms}
use Rattle.fare_tariff.specs.FareTerms.{TariffOf}
use Rattle.fare_tariff.proofs.MoveLaws.{moves_of_starts, moves_of_steps, ride_times}
use Rattle.fare_tariff.proofs.tariff.FareTariff.all_into.Goals as goal

pub returns-in-None : goal.returns-in-None
returns-in-None c =
    let of = c.args.self.now in
    let leg = leg_facts of.feed c.args.ride.now in
    let own = ap (terms c.self.inside.automaton.now.feed) c.self.invariant.0
    ∙ ap (λ (t : TariffOf). terms t.feed t.query.buyer) c.self.view_is in
    let picks = subst (λ (t : FareTerms). AreEnough t.feed t.buyer leg c.args.options.now) (sym own) c.requires.options in
    moves_of_starts c.start_into.result c.self.inside.automaton.now of.feed of.query.buyer c.args.fare.now.state c.args.fare.now.held.0 leg
    c.start_into.new.moves.items own c.in-None.is (c.start_into.ensures.enough leg (ride_times of.feed c.args.ride.now) picks)

pub returns-in-Some : goal.returns-in-Some
returns-in-Some c =
    let of = c.args.self.now in
    let leg = leg_facts of.feed c.args.ride.now in
    let own = ap (terms c.self.inside.automaton.now.feed) c.self.invariant.0
    ∙ ap (λ (t : TariffOf). terms t.feed t.query.buyer) c.self.view_is in
    let picks = subst (λ (t : FareTerms). AreEnough t.feed t.buyer leg c.args.options.now) (sym own) c.requires.options in
    moves_of_steps c.cheapest_into.result c.self.inside.automaton.now of.feed of.query.buyer c.args.fare.now.state c.in-Some.state
    c.args.fare.now.held.0 leg c.cheapest_into.new.moves.items own c.in-Some.is
    (c.cheapest_into.ensures leg (ride_times of.feed c.args.ride.now) picks)
