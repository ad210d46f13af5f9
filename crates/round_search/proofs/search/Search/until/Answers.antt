use Rattle.std.proofs.Common.{arith}
use Rattle.round_terms.specs.Costs.{IsLateIf}
use Rattle.round_terms.specs.Labels.{facts_of}
use Rattle.round_terms.specs.Tasks.{task_of}
use Rattle.round_search.proofs.BoundLaws.{until_all, until_before, until_deadline, until_more}
use Rattle.round_search.proofs.search.Search.until.Goals as goal

pub returns-then-self : goal.returns-then-self
returns-then-self g c =
    let task = task_of g.T.Fare.LabelOrder.at_most g.T.Tariff.terms c.args.self.now in
    let a = facts_of c.args.label.now in
    until_deadline task c.args.finals.now a (IsLateIf task.terms a c.args.late) c.last_end.result.0 c.last_end.ensures

pub loop-behind-preserved : goal.loop-behind-preserved
loop-behind-preserved g c =
    let task = task_of g.T.Fare.LabelOrder.at_most g.T.Tariff.terms c.args.self.now in
    let a = facts_of c.args.label.now in
    until_more task c.args.finals.now a (IsLateIf task.terms a c.args.late) c.loop-behind.behind
    c.loop-behind.until c.until_by-by.result c.later-until.result c.loop-behind.invariant c.until_by-by.ensures
    c.later-until.ensures.first c.later-until.ensures.second c.later-until.ensures.is

pub returns : goal.returns
returns g c =
    let task = task_of g.T.Fare.LabelOrder.at_most g.T.Tariff.terms c.args.self.now in
    let a = facts_of c.args.label.now in
    let Part = IsLateIf task.terms a c.args.late in
    let limit = c.limit.ensures.is in
    let few = c.requires.few in
    until_before task c.args.finals.now a Part c.loop-behind.until c.before_horizon.result
    (until_all task c.args.finals.now a Part c.loop-behind.behind c.loop-behind.until.0 c.loop-behind.invariant
    (omega (arith, c.loop-behind-test.false, c.loop-behind.auto.behind-end, limit, few)))
    c.before_horizon.ensures.before c.before_horizon.ensures.same
