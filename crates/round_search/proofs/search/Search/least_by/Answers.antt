use Rattle.std.proofs.Common.{◌≡◌, refl, false, sym, ap, subst, ℕ, zero, suc, ◌+◌, ◌-◌, ◌<◌, ◌≤◌, arith}
use Rattle.round_search.specs.Bounds.{CostBy}
use Rattle.round_terms.specs.Labels.{facts_of}
use Rattle.round_terms.specs.Tasks.{Asked, task_of}
use Rattle.round_search.proofs.BoundLaws.{costs_more, costs_of, pred_suc}
use Rattle.round_search.proofs.search.Search.least_by.Goals as goal

fewer : (r f q : ℕ) → r + f ≤ q → (f ≡ 0 → ⊥) → r + (f - 1) < q
fewer r zero q le nz = absurd (nz refl)
fewer r (suc n) q le nz = omega (arith, le)

pub returns : goal.returns
returns g c =
    let task = task_of g.T.Fare.LabelOrder.at_most g.T.Tariff.terms c.args.self.now in
    let a = facts_of c.args.label.now in
    let n = c.args.further - 1 in
    let bounded = c.requires.few in
    let further = c.if-further-eq0.false in
    let few : a.rides + n < c.args.self.now.query.rides = fewer a.rides c.args.further _ bounded further in
    let own = sym (ap (λ (s : Asked _). s.tariff) c.self.view_is) in
    let serves = subst g.T.Tariff.Serves c.self.view_is c.self.invariant.1 in
    let costs = costs_of g.T.Fare.LabelOrder.at_most g.T.Tariff.terms g.T.Tariff.Serves c.self.inside.tariff.now c.args.self.now a false n
    c.least_on.result own c.least_on.ensures serves c.requires.fit.within few in
    subst (λ m. CostBy task m a c.least_on.result) (pred_suc c.args.further c.if-further-eq0.false) (costs_more task n a c.least_on.result costs)
