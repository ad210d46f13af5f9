use Rattle.std.proofs.Common.{sym, ◌∙◌, ap, subst, ◌<◌, []}
use Rattle.feed_rows.specs.declared.journeys.Query.{Query}
use Rattle.search_laws.proofs.SpreadLaws.{spreads_taken}
use Rattle.round_search.specs.Bags.{in_bags}
use Rattle.round_search.specs.Searches.{IsNever, search_of}
use Rattle.round_search.proofs.LawfulLaws.{cover_test, ways_lawful}
use Rattle.round_search.proofs.RideLaws.{fresh_start, start_is, started}
use Rattle.plan_rides.proofs.StopLaws.{stands_inside}
use Rattle.round_terms.specs.Tasks.{Asked, HasLaws, task_of}
use Rattle.round_search.proofs.search.Search.offer_start.Goals as goal

pub offer-requires : goal.offer-requires
offer-requires g c =
    subst (λ n. c.args.first.0 < n) (sym c.requires.stops)
    (stands_inside c.args.self.now.feed c.args.self.now.query.from c.args.first c.requires.first)

pub returns-clause-spreads : goal.returns-clause-spreads
returns-clause-spreads g c =
    let task = task_of g.T.Fare.LabelOrder.at_most g.T.Tariff.terms c.args.self.now in
    let laws : HasLaws task = c.limit-limit.ensures.laws in
    spreads_taken (search_of task) (ways_lawful task laws) (cover_test task laws)
    IsNever [] 0 c.offer.result (in_bags c.args.bags.now) (in_bags c.offer.new.self) _
    (started task laws c.args.first) c.offer.ensures.takes
    (start_is task laws c.args.first _ c.begin.result
    (ap (λ (q : Query). q.departure) (c.query.ensures.is ∙ ap (λ (a : Asked _). a.query) c.self.view_is))
    (c.begin.ensures ∙ ap (λ (a : Asked _). (g.T.Tariff.terms a.tariff).begins) c.self.view_is))
    (fresh_start task laws c.args.first c.requires.first)
