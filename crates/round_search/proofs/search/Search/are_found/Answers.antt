use Rattle.std.proofs.Common.{refl, sym, ◌∙◌, ap, subst, ◌+◌, ℤ}
use Rattle.std.specs.Prelude.{Some, slice_get}
use Rattle.plan_rides.specs.Spans.{AreSpans, stands_of}
use Rattle.round_search.specs.Bounds.{CostBy}
use Rattle.round_search.specs.Cuts.{has_ahead}
use Rattle.round_terms.specs.Labels.{facts_of}
use Rattle.round_terms.specs.Tasks.{Asked, task_of}
use Rattle.round_search.proofs.BoundLaws.{found_early, found_none}
use Rattle.round_search.proofs.search.Search.are_found.Goals as goal

pub returns-in-Some : goal.returns-in-Some
returns-in-Some g c ahead =
    let task = task_of g.T.Fare.LabelOrder.at_most g.T.Tariff.terms c.args.self.now in
    let lists = c.self.inside.spans.now in
    let are = subst (λ (s : Asked _). AreSpans s.feed s.query lists) c.self.view_is c.self.invariant.2 in
    let x = c.args.label.now in
    let n = c.args.further in
    found_early task lists c.args.finals.now (facts_of x) n c.feed-feed.ensures.sound are c.requires.ridden c.requires.fit.within
    c.in-Some-Some.span (x.rides + n) c.in-Some.price
    (ap (λ m. slice_get (stands_of lists m) x.stop.0) (sym c.from.ensures) ∙ sym (ap (λ spans. slice_get spans x.stop.0) c.stands.ensures)
    ∙ sym c.span_at.ensures ∙ c.in-Some-Some.is ∙ ap Some c.in-Some-Some.field-0-is)
    refl (subst (CostBy task n (facts_of x)) c.in-Some.is c.least_by.ensures)
    (ap (λ (z : ℤ). has_ahead task c.args.finals.now z (x.rides + n) c.in-Some.price.0) (sym c.plus-at.ensures) ∙ sym c.has_ahead.ensures ∙ ahead)

pub returns-in-Some-None : goal.returns-in-Some-None
returns-in-Some-None g c e =
    let task = task_of g.T.Fare.LabelOrder.at_most g.T.Tariff.terms c.args.self.now in
    let lists = c.self.inside.spans.now in
    let are = subst (λ (s : Asked _). AreSpans s.feed s.query lists) c.self.view_is c.self.invariant.2 in
    let x = c.args.label.now in
    found_none task lists c.args.finals.now (facts_of x) c.args.further c.feed-feed.ensures.sound are c.requires.ridden c.requires.fit.within
    (ap (λ m. slice_get (stands_of lists m) x.stop.0) (sym c.from.ensures) ∙ sym (ap (λ spans. slice_get spans x.stop.0) c.stands.ensures)
    ∙ sym c.span_at.ensures ∙ c.in-Some-None.is ∙ ap Some c.in-Some-None.field-0-is)
