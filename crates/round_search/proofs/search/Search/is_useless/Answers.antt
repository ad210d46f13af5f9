use Rattle.std.proofs.Common.{◌≡◌, false, subst, arith}
use Rattle.round_terms.specs.Labels.{facts_of}
use Rattle.round_terms.specs.Tasks.{Asked, task_of}
use Rattle.round_search.proofs.BoundLaws.{useless_all}
use Rattle.round_search.proofs.search.Search.is_useless.Goals as goal

pub returns : goal.returns
returns g c e =
    let task = task_of g.T.Fare.LabelOrder.at_most g.T.Tariff.terms c.args.self.now in
    let lean = subst (λ (s : Asked _). s.whole ≡ false) c.self.view_is c.if-self.false in
    let limit = c.limit.ensures.is in
    let few = c.requires.few in
    useless_all task c.args.finals.now (facts_of c.args.label.now) c.loop-further.further lean
    (omega (arith, c.loop-further-test.false, c.loop-further.auto.further-end, limit, few))
    (omega (arith, c.loop-further-test.false, c.loop-further.auto.further-end, limit, few)) c.loop-further.invariant
