use Rattle.std.proofs.Common.{ap, ◌∙◌, slice_index_or}
use Rattle.std.proofs.lemmas.List.Elements.{Contains-get_or}
use Rattle.round_terms.specs.Labels.{facts_of}
use Rattle.round_terms.specs.Tasks.{Asked, task_of}
use Rattle.round_search.proofs.BoundLaws.{cut_deadline, cut_sooner, no_final}
use Rattle.round_search.proofs.search.Search.cut_after.Goals as goal

pub returns-then-not-self : goal.returns-then-not-self
returns-then-not-self g c =
    let task = task_of g.T.Fare.LabelOrder.at_most g.T.Tariff.terms c.args.self.now in
    cut_deadline task c.args.finals.now (facts_of c.args.label.now) c.last_end-after.result.0 c.last_end-after.ensures

pub loop-k-init : goal.loop-k-init
loop-k-init g c =
    let task = task_of g.T.Fare.LabelOrder.at_most g.T.Tariff.terms c.args.self.now in
    cut_deadline task c.args.finals.now (facts_of c.args.label.now) c.last_end-after.result.0 c.last_end-after.ensures

pub loop-k-preserved : goal.loop-k-preserved
loop-k-preserved g c =
    let task = task_of g.T.Fare.LabelOrder.at_most g.T.Tariff.terms c.args.self.now in
    let finals = c.args.finals.now in
    let final = slice_index_or finals c.loop-k.k no_final in
    cut_sooner task finals (facts_of c.args.label.now) final _ c.loop-k.after c.sooner-after.result c.loop-k.invariant
    (Contains-get_or finals c.loop-k.k no_final c.loop-k-test.true)
    (c.least-price.ensures ∙ ap (λ (a : Asked _). (g.T.Tariff.terms a.tariff).least (facts_of c.args.label.now)) c.self.view_is)
    c.sooner-after.ensures.is
