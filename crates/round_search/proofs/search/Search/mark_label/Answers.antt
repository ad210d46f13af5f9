use Rattle.std.proofs.Common.{sym, subst, ◌∙◌, ◌≤ℤ◌, arith}
use Rattle.std.proofs.lemmas.Int.{ints}
use Rattle.transit_base.specs.declared.moments.Moment.{Moment}
use Rattle.plan_rides.specs.InTime.{deadline}
use Rattle.round_search.proofs.ScanLaws.{adds_cut}
use Rattle.round_terms.specs.Tasks.{HasLaws, task_of}
use Rattle.round_search.proofs.search.Search.mark_label.Goals as goal

pub is_cut-requires-clause-few : goal.is_cut-requires-clause-few
is_cut-requires-clause-few g c =
    let few = c.requires.source.few in
    let rides = c.requires.source.usual.rides in
    omega (arith, few, rides)

pub returns-then-is_cut : goal.returns-then-is_cut
returns-then-is_cut g c =
    let task = task_of g.T.Fare.LabelOrder.at_most g.T.Tariff.terms c.args.self.now in
    let laws : HasLaws task = c.limit-limit.ensures.laws in
    let push = c.push.ensures in
    adds_cut task laws c.args.round.now c.requires.round c.args.source.now c.args.marks.now c.push.new.self c.push.result
    (sym c.is_cut.ensures ∙ c.if-is_cut.true) c.departure-departure.result
    (subst (λ (m : Moment). m.0 ≤ℤ deadline task.query) (sym c.departure-departure.ensures.is) (omega (arith, ints)))
    push.untils push.reached push.later push.last push.is
