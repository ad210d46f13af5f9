use Rattle.std.proofs.Common.{◌≡◌, true, false, sym, ◌∙◌, ap, subst, ◌+◌, ◌<◌, arith}
use Rattle.std.proofs.lemmas.Bool.{ne_eqb}
use Rattle.plan_rides.proofs.DepartureLaws.{ride_end}
use Rattle.search_laws.proofs.SpreadLaws.{spreads_none, spreads_taken}
use Rattle.round_terms.specs.declared.label.Label.{Label}
use Rattle.round_search.specs.Bags.{in_bags}
use Rattle.round_search.specs.Cuts.{Lacks, is_cut}
use Rattle.round_terms.specs.Labels.{facts_of}
use Rattle.round_search.specs.Searches.{IsFit, search_of}
use Rattle.round_terms.specs.Tasks.{Asked, HasLaws, task_of}
use Rattle.round_search.proofs.FoundLaws.{cut_lacks, uncut_of}
use Rattle.round_search.proofs.LawfulLaws.{cover_test, ways_lawful}
use Rattle.round_search.proofs.RideLaws.{after_is, fits_after, fresh_after, went_on}
use Rattle.round_search.proofs.search.Search.offer_move.Goals as goal

pub is_useless-requires-clause-few : goal.is_useless-requires-clause-few
is_useless-requires-clause-few g c = let is = c.requires.source.few in omega (arith, is)

pub is_useless-requires-clause-ridden : goal.is_useless-requires-clause-ridden
is_useless-requires-clause-ridden g c = ne_eqb (c.args.source.now.label.now.rides + 1) 0 (λ e. omega (arith, e))

pub is_useless-requires-clause-fit : goal.is_useless-requires-clause-fit
is_useless-requires-clause-fit g c =
    let task = task_of g.T.Fare.LabelOrder.at_most g.T.Tariff.terms c.args.self.now in
    let laws : HasLaws task = c.limit-limit.ensures.laws in
    let source = c.args.source.now in
    let caught = c.args.caught.now in
    let taken = c.args.taken.now in
    let finals = c.args.finals.now in
    let next =
    after_is task laws source c.requires.source caught c.requires.right taken c.after.result
    (c.after.ensures ∙ ap (λ (a : Asked _). (g.T.Tariff.terms a.tariff).after (facts_of source.label.now) caught.facts taken) c.self.view_is) in
    let fits = fits_after task laws source c.requires.source caught c.requires.right taken c.feed-feed.ensures.sound c.requires.pays in
    subst (IsFit task) (sym next) fits

pub returns-then-is_useless-clause-spreads : goal.returns-then-is_useless-clause-spreads
returns-then-is_useless-clause-spreads g c =
    let task = task_of g.T.Fare.LabelOrder.at_most g.T.Tariff.terms c.args.self.now in
    let laws : HasLaws task = c.limit-limit.ensures.laws in
    let source = c.args.source.now in
    let caught = c.args.caught.now in
    let taken = c.args.taken.now in
    let finals = c.args.finals.now in
    let next =
    after_is task laws source c.requires.source caught c.requires.right taken c.after.result
    (c.after.ensures ∙ ap (λ (a : Asked _). (g.T.Tariff.terms a.tariff).after (facts_of source.label.now) caught.facts taken) c.self.view_is) in
    let lack = subst (λ (x : Label _ _). Lacks task finals (facts_of x)) next (c.is_useless.ensures c.if-is_useless.true) in
    spreads_none (search_of task) (Lacks task finals) source.labels.now _ _ (in_bags c.args.store.now.bags)
    (λ b same. subst (Lacks task finals) (sym same) lack)

pub is_cut-requires-clause-fare : goal.is_cut-requires-clause-fare
is_cut-requires-clause-fare g c =
    let task = task_of g.T.Fare.LabelOrder.at_most g.T.Tariff.terms c.args.self.now in
    let laws : HasLaws task = c.limit-limit.ensures.laws in
    let source = c.args.source.now in
    let caught = c.args.caught.now in
    let taken = c.args.taken.now in
    let finals = c.args.finals.now in
    let next =
    after_is task laws source c.requires.source caught c.requires.right taken c.after.result
    (c.after.ensures ∙ ap (λ (a : Asked _). (g.T.Tariff.terms a.tariff).after (facts_of source.label.now) caught.facts taken) c.self.view_is) in
    let fits = fits_after task laws source c.requires.source caught c.requires.right taken c.feed-feed.ensures.sound c.requires.pays in
    subst (λ (x : Label _ _). task.terms.IsFare x.rides x.fare) (sym next) fits.fare

pub is_cut-requires-clause-few : goal.is_cut-requires-clause-few
is_cut-requires-clause-few g c =
    let is = c.requires.source.few in
    let rides = c.requires.source.usual.rides in
    omega (arith, is, rides)

pub returns-then-is_cut-clause-spreads : goal.returns-then-is_cut-clause-spreads
returns-then-is_cut-clause-spreads g c =
    let task = task_of g.T.Fare.LabelOrder.at_most g.T.Tariff.terms c.args.self.now in
    let laws : HasLaws task = c.limit-limit.ensures.laws in
    let source = c.args.source.now in
    let caught = c.args.caught.now in
    let taken = c.args.taken.now in
    let finals = c.args.finals.now in
    let next =
    after_is task laws source c.requires.source caught c.requires.right taken c.after.result
    (c.after.ensures ∙ ap (λ (a : Asked _). (g.T.Tariff.terms a.tariff).after (facts_of source.label.now) caught.facts taken) c.self.view_is) in
    let cut = subst (λ (x : Label _ _). is_cut task finals (facts_of x) ≡ true) next (sym c.is_cut.ensures ∙ c.if-is_cut.true) in
    let lack = cut_lacks task laws c.feed-feed.ensures.sound finals (facts_of (went_on task laws source c.requires.source caught c.requires.right taken)) cut in
    spreads_none (search_of task) (Lacks task finals) source.labels.now _ _ (in_bags c.args.store.now.bags)
    (λ b same. subst (Lacks task finals) (sym same) lack)

pub offer-requires : goal.offer-requires
offer-requires g c =
    subst (λ n. c.args.caught.now.facts.to.0 < n) (sym c.requires.stops)
    (ride_end c.args.self.now.feed c.args.caught.now.ride c.args.caught.now.facts c.feed-feed.ensures.sound c.requires.right.facts)

pub returns-clause-spreads : goal.returns-clause-spreads
returns-clause-spreads g c =
    let task = task_of g.T.Fare.LabelOrder.at_most g.T.Tariff.terms c.args.self.now in
    let laws : HasLaws task = c.limit-limit.ensures.laws in
    let source = c.args.source.now in
    let caught = c.args.caught.now in
    let taken = c.args.taken.now in
    let finals = c.args.finals.now in
    let next =
    after_is task laws source c.requires.source caught c.requires.right taken c.after.result
    (c.after.ensures ∙ ap (λ (a : Asked _). (g.T.Tariff.terms a.tariff).after (facts_of source.label.now) caught.facts taken) c.self.view_is) in
    let on = went_on task laws source c.requires.source caught c.requires.right taken in
    let uncut = subst (λ (x : Label _ _). is_cut task finals (facts_of x) ≡ false) next (sym c.is_cut.ensures ∙ c.if-is_cut.false) in
    spreads_taken (search_of task) (ways_lawful task laws) (cover_test task laws) (Lacks task finals) _ _ c.offer.result
    (in_bags c.args.store.now.bags) (in_bags c.offer.new.self) _ on c.offer.ensures.takes next
    (fresh_after task laws source c.requires.source caught c.requires.right taken c.feed-feed.ensures.sound c.requires.pays
    (uncut_of task finals source.labels.now on c.requires.ended uncut))
