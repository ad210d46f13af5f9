use Rattle.std.proofs.Common.{refl, length}
use Rattle.std.proofs.lemmas.Option.{slice_get_read}
use Rattle.round_search.proofs.FinalLaws.{below_all, ends_more, ends_same, labels_more}
use Rattle.round_terms.specs.Tasks.{task_of}
use Rattle.round_search.proofs.search.Search.add_ends.Goals as goal

pub loop-number-init : goal.loop-number-init
loop-number-init g c = c.requires.before

pub loop-number-preserved : goal.loop-number-preserved
loop-number-preserved g c =
    let task = task_of g.T.Fare.LabelOrder.at_most g.T.Tariff.terms c.args.self.now in
    let labels = c.args.labels.now in
    ends_more task labels _ _ _ _ _ _ c.loop-number.invariant c.in_ok-offer_ends.ensures
    (λ triple. labels_more task labels c.loop-number.number c.index-labels-number.result triple
    (slice_get_read labels (length labels) c.loop-number.number c.index-labels-number.result refl c.loop-number-test.true c.index-labels-number.is))

pub returns : goal.returns
returns g c =
    let task = task_of g.T.Fare.LabelOrder.at_most g.T.Tariff.terms c.args.self.now in
    let labels = c.args.labels.now in
    ends_same task labels _ _ _ _ c.loop-number.invariant
    (λ triple. below_all task labels c.loop-number.number triple c.loop-number-test.false)
