use Rattle.std.proofs.Common.{ap, subst, ℤ}
use Rattle.plan_rides.specs.InTime.{deadline}
use Rattle.round_terms.specs.Costs.{AreLate}
use Rattle.round_search.specs.Bounds.{DepartsAfter}
use Rattle.round_terms.specs.Labels.{facts_of}
use Rattle.round_terms.specs.Tasks.{Asked, HasLaws, task_of}
use Rattle.round_search.proofs.BoundLaws.{until_any, until_late, until_some}
use Rattle.round_search.proofs.search.Search.untils.Goals as goal

pub returns-in-Some : goal.returns-in-Some
returns-in-Some g c =
    let task = task_of g.T.Fare.LabelOrder.at_most g.T.Tariff.terms c.args.self.now in
    let laws : HasLaws task = c.limit-limit.ensures.laws in
    let a = facts_of c.args.label.now in
    let sound = c.feed-feed.ensures.sound in
    let last = c.last_end-last.ensures in
    let late = subst (λ (z : ℤ). AreLate (g.T.Tariff.terms c.self.inside.tariff.now) a c.in-Some.since.0 z) last (c.late_since.ensures c.in-Some.since c.in-Some.is) in
    record {
      all = until_any task laws sound c.args.finals.now a c.until-all.result.0 c.until-all.ensures;
      late = until_late task laws sound c.args.finals.now a c.in-Some.since.0 c.until.result.0 (subst (λ (t : _). AreLate (g.T.Tariff.terms t) a c.in-Some.since.0 (deadline task.query)) (ap (λ (s : Asked _). s.tariff) c.self.view_is) late) c.until.ensures;
    }

pub returns-in-None : goal.returns-in-None
returns-in-None g c =
    let task = task_of g.T.Fare.LabelOrder.at_most g.T.Tariff.terms c.args.self.now in
    let laws : HasLaws task = c.limit-limit.ensures.laws in
    let a = facts_of c.args.label.now in
    let all = until_any task laws c.feed-feed.ensures.sound c.args.finals.now a c.until-all.result.0 c.until-all.ensures in
    record { all = all; late = until_some task c.args.finals.now a (DepartsAfter c.last_end-last.result.0) c.until-all.result.0 all }
