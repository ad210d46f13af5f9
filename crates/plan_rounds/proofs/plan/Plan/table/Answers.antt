use Rattle.std.proofs.Common.{refl, sym, ◌∙◌, ap, subst}
use Rattle.feed_rows.specs.ParetoTriples.{at_most, is_before}
use Rattle.feed_rows.specs.SoundFeed.{IsSoundFeed}
use Rattle.pareto_front.specs.Fronts.{IsFront}
use Rattle.plan_rides.specs.InTime.{IsUsualQuery}
use Rattle.round_terms.specs.declared.finals.Final.{Final}
use Rattle.round_terms.specs.Tasks.{Asked, asked_by, task_of}
use Rattle.round_search.specs.Searches.{IsSearched}
use Rattle.fare_tariff.specs.FareTerms.{Serves, TariffOf, at_most as fare_at_most, fare_terms, tariff_of}
use Rattle.round_table.specs.Tables.{table_in}
use Rattle.plan_rounds.specs.Planned.{PlanOf}
use Rattle.plan_rounds.specs.Searched.{IsTableOf, aim_of, searched}
use Rattle.plan_rounds.proofs.SearchedLaws.{table_of}
use Rattle.plan_rounds.proofs.plan.Plan.table.Goals as goal

pub of-search-requires-clause-serves : goal.of-search-requires-clause-serves
of-search-requires-clause-serves c =
    let inside = c.self.inside in
    subst (λ (of : TariffOf). Serves (asked_by of inside.rides.now c.args.aim)) (sym c.of-tariff.ensures) (record {
      feed = refl;
      query = refl;
      whole = ap (λ (p : PlanOf). p.whole) c.self.view_is ∙ sym c.requires.whole;
      sound = subst (λ (p : PlanOf). IsSoundFeed p.asked.feed) (sym c.self.view_is) c.feed-feed.ensures.sound;
      usual = subst (λ (p : PlanOf). IsUsualQuery p.asked.query) (sym c.self.view_is) c.query-query.ensures.usual;
      least = record {
        lasts = inside.prices.now.lasts.items;
        bounds = c.self.invariant.3.bounds;
        are = c.self.invariant.3.lasts;
      };
    })

pub returns-clause-is : goal.returns-clause-is
returns-clause-is c =
    let inside = c.self.inside in
    let aim = c.args.aim in
    let of : TariffOf = tariff_of inside.rides.now inside.prices.now aim.whole in
    let labels = c.in_ok-labels.labels.items in
    let finals = c.into_items.result.items in
    let front = c.into_items.ensures in
    let whole = ap (λ (p : PlanOf). p.whole) c.self.view_is ∙ sym c.requires.whole in
    let tariff = c.of-tariff.ensures ∙ ap (λ w. tariff_of inside.rides.now inside.prices.now w) whole in
    let asked = c.of-search.ensures ∙ ap (λ (t : TariffOf). asked_by t inside.rides.now aim) tariff in
    let all = subst (λ (a : Asked TariffOf). IsSearched (task_of fare_at_most fare_terms a) labels c.in_ok-labels.front) asked
    c.in_ok-labels.ensures.searched in
    subst (IsTableOf (searched c.args.self.now.asked (aim_of aim))) (sym c.of.ensures)
    (subst (λ (p : PlanOf). IsTableOf (searched p.asked (aim_of aim)) (table_in labels finals)) c.self.view_is
    (table_of of aim.loose aim.given.now
    (subst (λ (p : PlanOf). IsSoundFeed p.asked.feed) (sym c.self.view_is) c.feed-feed.ensures.sound) c.requires.aim.strict
    c.requires.aim.alone labels finals
    (subst (IsSearched (task_of fare_at_most fare_terms (asked_by of inside.rides.now aim)) labels) (sym front.value) all)
    (subst (IsFront (λ (a : Final) (b : Final). at_most a.triple b.triple) (λ (a : Final) (b : Final). is_before a.triple b.triple))
    (sym front.value) front.front)))
