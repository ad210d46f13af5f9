use Rattle.std.proofs.Common.{◌≡◌, true, sym, subst}
use Rattle.plan_rides.specs.Cutoffs.{cutoff_by}
use Rattle.plan_rides.specs.Spans.{AreSpans, no_spans}
use Rattle.round_search.specs.Bounds.{DepartsAfter, IsAnyRide, IsFair}
use Rattle.round_terms.specs.Tasks.{Asked, task_of}
use Rattle.round_search.proofs.BoundLaws.{fair_by}
use Rattle.round_search.proofs.search.Search.cutoffs_by.Goals as goal

pub returns-clause-fair : goal.returns-clause-fair
returns-clause-fair g c finals a within is left =
    let task = task_of g.T.Fare.LabelOrder.at_most g.T.Tariff.terms c.args.self.now in
    let lists = c.self.inside.spans.now in
    let are = subst (λ (s : Asked _). AreSpans s.feed s.query lists) c.self.view_is c.self.invariant.2 in
    let none = subst (λ (s : Asked _). s.whole ≡ true → lists ≡ no_spans) c.self.view_is c.self.invariant.3 in
    subst (λ spans. IsFair task finals a IsAnyRide (cutoff_by spans c.args.until.0)) (sym c.stands.ensures)
    (fair_by task lists finals a IsAnyRide c.args.until.0 c.args.more c.feed-feed.ensures.sound are none within is left)

pub returns-clause-late : goal.returns-clause-late
returns-clause-late g c finals a since within is left =
    let task = task_of g.T.Fare.LabelOrder.at_most g.T.Tariff.terms c.args.self.now in
    let lists = c.self.inside.spans.now in
    let are = subst (λ (s : Asked _). AreSpans s.feed s.query lists) c.self.view_is c.self.invariant.2 in
    let none = subst (λ (s : Asked _). s.whole ≡ true → lists ≡ no_spans) c.self.view_is c.self.invariant.3 in
    subst (λ spans. IsFair task finals a (DepartsAfter since) (cutoff_by spans c.args.until.0)) (sym c.stands.ensures)
    (fair_by task lists finals a (DepartsAfter since) c.args.until.0 c.args.more c.feed-feed.ensures.sound are none within is left)
