use Rattle.std.proofs.Common.{◌≤ℤ◌, refl, sym, ap, subst, ◌+◌, add-one, arith}
use Rattle.std.proofs.lemmas.Int.{ints}
use Rattle.transit_base.specs.declared.moments.Moment.{Moment}
use Rattle.plan_rides.specs.InTime.{deadline}
use Rattle.search_laws.specs.Ways.{LeadsBy}
use Rattle.round_terms.specs.Costs.{CostOn, IsLateIf}
use Rattle.round_terms.specs.Labels.{facts_of}
use Rattle.round_terms.specs.Steps.{ways}
use Rattle.round_terms.specs.Tasks.{Asked, task_of}
use Rattle.round_search.proofs.BoundLaws.{by_found, by_none, costs_of, leads_more, none_dearer}
use Rattle.round_search.proofs.search.Search.until_by.Goals as goal

pub returns-in_default : goal.returns-in_default
returns-in_default g c =
    let task = task_of g.T.Fare.LabelOrder.at_most g.T.Tariff.terms c.args.self.now in
    let a = facts_of c.args.label.now in
    let Part = IsLateIf task.terms a c.args.late in
    let own = sym (ap (λ (s : Asked _). s.tariff) c.self.view_is) in
    let serves = subst g.T.Tariff.Serves c.self.view_is c.self.invariant.1 in
    let costs = costs_of g.T.Fare.LabelOrder.at_most g.T.Tariff.terms g.T.Tariff.Serves c.self.inside.tariff.now c.args.self.now a c.args.late
    c.args.behind c.least_on.result own c.least_on.ensures serves c.requires.fit.within c.requires.few in
    by_none task c.args.finals.now a Part c.args.behind c.departure.result.0
    (subst (λ (m : Moment). m.0 ≤ℤ deadline task.query) (sym c.departure.ensures.is) (omega (arith, ints)))
    (λ triple leads. none_dearer c.least_on.result triple c.in_default.is (costs triple leads))

pub returns-then-is_off : goal.returns-then-is_off
returns-then-is_off g c =
    let task = task_of g.T.Fare.LabelOrder.at_most g.T.Tariff.terms c.args.self.now in
    let a = facts_of c.args.label.now in
    let Part = IsLateIf task.terms a c.args.late in
    let n = c.args.behind in
    by_none task c.args.finals.now a Part n c.departure-then-is_off.result.0
    (subst (λ (m : Moment). m.0 ≤ℤ deadline task.query) (sym c.departure-then-is_off.ensures.is) (omega (arith, ints)))
    (λ triple leads. c.is_off.ensures c.if-is_off.true triple
    (subst (λ m. LeadsBy (ways task) m a triple) (sym (add-one n)) (leads_more task c.args.finals.now a Part n triple leads)))

pub returns : goal.returns
returns g c =
    let task = task_of g.T.Fare.LabelOrder.at_most g.T.Tariff.terms c.args.self.now in
    let a = facts_of c.args.label.now in
    let Part = IsLateIf task.terms a c.args.late in
    let own = sym (ap (λ (s : Asked _). s.tariff) c.self.view_is) in
    let serves = subst g.T.Tariff.Serves c.self.view_is c.self.invariant.1 in
    let costs = costs_of g.T.Fare.LabelOrder.at_most g.T.Tariff.terms g.T.Tariff.Serves c.self.inside.tariff.now c.args.self.now a c.args.late
    c.args.behind c.least_on.result own c.least_on.ensures serves c.requires.fit.within c.requires.few in
    by_found task c.args.finals.now a Part c.args.behind (a.rides + c.args.behind + 1) c.in-Some.price c.last_end.result c.found_by.result refl
    c.last_end.ensures (subst (CostOn task Part c.args.behind a) c.in-Some.is costs) c.found_by.ensures
