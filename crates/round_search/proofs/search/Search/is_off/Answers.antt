use Rattle.std.proofs.Common.{[], sym, ◌∙◌, ap, subst}
use Rattle.std.specs.Prelude.{Some, not, slice_get}
use Rattle.std.proofs.lemmas.Bool.{ne_eqb}
use Rattle.plan_rides.specs.Spans.{AreSpans, stands_of}
use Rattle.round_terms.specs.Labels.{facts_of}
use Rattle.round_terms.specs.Tasks.{Asked, task_of}
use Rattle.round_search.proofs.BoundLaws.{leads_not, none_of}
use Rattle.round_search.proofs.search.Search.is_off.Goals as goal

pub returns-in-Some : goal.returns-in-Some
returns-in-Some g c none triple =
    let task = task_of g.T.Fare.LabelOrder.at_most g.T.Tariff.terms c.args.self.now in
    let lists = c.self.inside.spans.now in
    let are = subst (λ (s : Asked _). AreSpans s.feed s.query lists) c.self.view_is c.self.invariant.2 in
    let x = c.args.label.now in
    leads_not task lists [] (facts_of x) c.args.further c.feed-feed.ensures.sound are (ne_eqb x.rides 0 c.if-label-eq0.false) c.requires.within
    (ap (λ n. slice_get (stands_of lists n) x.stop.0) (sym c.from.ensures)
    ∙ sym (ap (λ spans. slice_get spans x.stop.0) c.stands.ensures) ∙ sym c.span_at.ensures ∙ c.in-Some.is
    ∙ ap Some (none_of c.in-Some.span (c.is_none.ensures ∙ ap not none))) triple
