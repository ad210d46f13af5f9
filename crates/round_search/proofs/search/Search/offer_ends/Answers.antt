use Rattle.std.proofs.Common.{arith}
use Rattle.std.proofs.lemmas.Option.{slice_get-get_or}
use Rattle.round_search.proofs.FinalLaws.{ends_more, ends_none, ends_same, stops_all, stops_more}
use Rattle.round_terms.specs.Tasks.{task_of}
use Rattle.round_search.proofs.search.Search.offer_ends.Goals as goal

pub loop-k-init : goal.loop-k-init
loop-k-init g c =
    let task = task_of g.T.Fare.LabelOrder.at_most g.T.Tariff.terms c.args.self.now in
    ends_none task c.args.source.now.labels.now _ c.args.front.now
    (λ triple among. let below = among.1 in omega (arith, below))

pub loop-k-preserved : goal.loop-k-preserved
loop-k-preserved g c =
    let task = task_of g.T.Fare.LabelOrder.at_most g.T.Tariff.terms c.args.self.now in
    ends_more task c.args.source.now.labels.now _ _ _ _ _ _ c.loop-k.invariant c.in_ok-offer_end.ensures
    (λ triple. stops_more task c.args.source.now c.requires c.lasts-lasts.result.now c.loop-k.k _ triple
    (slice_get-get_or c.lasts-lasts.result.now c.loop-k.k _ c.loop-k-test.true))

pub returns : goal.returns
returns g c =
    let task = task_of g.T.Fare.LabelOrder.at_most g.T.Tariff.terms c.args.self.now in
    ends_same task c.args.source.now.labels.now _ _ _ _ c.loop-k.invariant
    (λ triple. stops_all task c.args.source.now c.requires c.lasts-lasts.result.now c.loop-k.k triple c.lasts-lasts.ensures c.loop-k-test.false)
