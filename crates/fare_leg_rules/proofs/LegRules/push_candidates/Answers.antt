use Rattle.std.proofs.Common.{◌∙◌, sym, ap, filter, ◌++◌, take_all}
use Rattle.std.proofs.lemmas.List.{append-nil}
use Rattle.fare_leg_rules.specs.Fits.{chosen_among}
use Rattle.fare_leg_rules.specs.Places.{stands_at, candidates}
use Rattle.fare_leg_rules.proofs.OrderLaws.{chosen_more}
use Rattle.fare_leg_rules.proofs.LegRules.push_candidates.Goals as goal

pub loop-i-preserved : goal.loop-i-preserved
loop-i-preserved c = λ up.
    let rules = c.args.rules.now in
    chosen_more c.args.self.now c.args.leg.now c.args.least _ _ _ rules c.at_place-named.result.now c.items-areas.result.now c.loop-i.i _ c.loop-i-test.true (c.loop-i.invariant up)
    (c.at_place-named.ensures up ∙ ap (λ n. filter (stands_at n) rules) c.place_of.ensures) c.in_ok-push_chosen-2.ensures

pub loop-i-init : goal.loop-i-init
loop-i-init c = λ up.
    c.in_ok-push_chosen.ensures
    ∙ ap (λ among. c.args.chosen.now.items ++ chosen_among c.args.self.now c.args.leg.now c.args.least among) (c.at_place.ensures up ∙ sym (append-nil _))

pub returns : goal.returns
returns c = λ up.
    c.loop-i.invariant up
    ∙ ap (λ areas. c.args.chosen.now.items ++ chosen_among c.args.self.now c.args.leg.now c.args.least (candidates c.args.rules.now areas))
    (take_all c.loop-i.i c.items-areas.result.now c.loop-i-test.false ∙ c.items-areas.ensures.value)
