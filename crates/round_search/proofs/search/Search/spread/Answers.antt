use Rattle.std.proofs.Common.{refl, ap, subst, ◌∙◌, ◌+◌}
use Rattle.std.specs.Prelude.{OnOk}
use Rattle.feed_rows.specs.SoundFeed.{IsSoundFeed}
use Rattle.search_laws.specs.Stores.{Spreads, StepsFrom}
use Rattle.round_terms.specs.Tasks.{Asked, task_of}
use Rattle.round_search.specs.Bags.{in_bags}
use Rattle.round_search.specs.Cuts.{Lacks}
use Rattle.round_search.specs.Searches.{search_of}
use Rattle.round_search.proofs.OfferLaws.{round_of}
use Rattle.round_search.proofs.search.Search.spread.Goals as goal

pub offer_round-requires-clause-round : goal.offer_round-requires-clause-round
offer_round-requires-clause-round g c =
    let task = task_of g.T.Fare.LabelOrder.at_most g.T.Tariff.terms c.args.self.now in
    round_of task _ c.args.found.now (in_bags c.args.store.now.bags)
    (c.positions.ensures.feed ∙ ap (λ (a : Asked _). a.feed) c.self.view_is)
    (c.positions.ensures.query ∙ ap (λ (a : Asked _). a.query) c.self.view_is)
    (subst (λ (a : Asked _). IsSoundFeed a.feed) c.self.view_is c.positions.ensures.sound)
    c.limit-limit.ensures.usual c.requires.few c.requires.gathered c.deref.ensures.value c.items.ensures.value refl

pub returns-clause-spreads : goal.returns-clause-spreads
returns-clause-spreads g c =
    let task = task_of g.T.Fare.LabelOrder.at_most g.T.Tariff.terms c.args.self.now in
    let s = search_of task in
    let count = c.args.count in
    let old = in_bags c.args.store.now.bags in
    let new = in_bags c.offer_round.new.store.bags in
    subst (λ ls. OnOk c.offer_round.result (Spreads s (Lacks task c.args.found.now.front) ls (count + 1) (StepsFrom s ls count) old new))
    c.deref.ensures.value
    (subst (λ fs. OnOk c.offer_round.result
    (Spreads s (Lacks task fs) c.deref.result.now (count + 1) (StepsFrom s c.deref.result.now count) old new))
    c.items.ensures.value c.offer_round.ensures.spreads)
