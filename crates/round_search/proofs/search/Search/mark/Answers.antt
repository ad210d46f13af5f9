use Rattle.std.proofs.Common.{◌≡◌, refl, sym, subst, ◌≤ℤ◌, length, arith}
use Rattle.std.proofs.lemmas.Int.{ints}
use Rattle.std.proofs.lemmas.Option.{slice_get-get_or}
use Rattle.transit_base.specs.declared.moments.Moment.{Moment}
use Rattle.plan_rides.specs.InTime.{deadline}
use Rattle.round_search.specs.Scans.{AreMarksTo}
use Rattle.round_search.proofs.ScanLaws.{marks_moved, marks_more, marks_none, source_of}
use Rattle.round_terms.specs.Tasks.{HasLaws, task_of}
use Rattle.round_search.proofs.search.Search.mark.Goals as goal

pub loop-number-init : goal.loop-number-init
loop-number-init g c =
    let task = task_of g.T.Fare.LabelOrder.at_most g.T.Tariff.terms c.args.self.now in
    let laws : HasLaws task = c.limit-limit.ensures.laws in
    marks_none task laws c.args.round.now c.requires c.clear.new.self c.clear.ensures.reached c.clear.ensures.untils
    (subst (λ (m : Moment). m.0 ≤ℤ deadline task.query) (sym c.clear.ensures.last)
    (subst (λ (m : Moment). m.0 ≤ℤ deadline task.query) (sym c.departure.ensures.is) (omega (arith, ints))))

pub mark_label-requires-clause-source : goal.mark_label-requires-clause-source
mark_label-requires-clause-source g c =
    let task = task_of g.T.Fare.LabelOrder.at_most g.T.Tariff.terms c.args.self.now in
    let labels = c.args.round.now.labels.now in
    let number = c.loop-number.number in
    let at = slice_get-get_or labels number c.index-round-number.result c.loop-number-test.true in
    source_of task _ c.requires.usual at (c.requires.origins number _ at c.loop-number.auto.number)

pub mark_label-requires-clause-counts : goal.mark_label-requires-clause-counts
mark_label-requires-clause-counts g c =
    let labels = c.args.round.now.labels.now in
    let number = c.loop-number.number in
    let at = slice_get-get_or labels number c.index-round-number.result c.loop-number-test.true in
    c.requires.last.last number _ at c.loop-number.auto.number

pub loop-number-preserved : goal.loop-number-preserved
loop-number-preserved g c =
    let task = task_of g.T.Fare.LabelOrder.at_most g.T.Tariff.terms c.args.self.now in
    let laws : HasLaws task = c.limit-limit.ensures.laws in
    let labels = c.args.round.now.labels.now in
    let number = c.loop-number.number in
    let at = slice_get-get_or labels number c.index-round-number.result c.loop-number-test.true in
    marks_more task laws c.args.round.now c.requires _ number c.loop-number.marks c.mark_label.new.marks refl at c.loop-number.auto.number
    c.loop-number.invariant c.in_ok-mark_label.ensures

pub returns : goal.returns
returns g c =
    let task = task_of g.T.Fare.LabelOrder.at_most g.T.Tariff.terms c.args.self.now in
    let laws : HasLaws task = c.limit-limit.ensures.laws in
    let round = c.args.round.now in
    let below = c.loop-number.auto.number-end c.requires.last.within in
    let same : c.loop-number.number ≡ length round.labels.now = omega (arith, c.loop-number-test.false, below) in
    marks_moved task laws round c.requires (length round.labels.now) c.loop-number.marks _ c.put_in_order.ensures.moved
    (subst (λ n. AreMarksTo task round n c.loop-number.marks) same c.loop-number.invariant)
