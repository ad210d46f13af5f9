use Rattle.std.proofs.Common.{refl, ◌∙◌, subst, ◌<◌, length, arith}
use Rattle.std.proofs.lemmas.Option.{slice_get_read}
use Rattle.search_laws.proofs.SpreadLaws.{spreads_more, spreads_none}
use Rattle.round_search.specs.Cuts.{Lacks}
use Rattle.round_search.specs.Bags.{in_bags}
use Rattle.round_terms.specs.Labels.{facts_of}
use Rattle.round_search.specs.Searches.{search_of}
use Rattle.round_terms.specs.Terms.{AreEnough}
use Rattle.round_search.proofs.RideLaws.{leads_more, spreads_by}
use Rattle.round_terms.specs.Tasks.{Asked, HasLaws, task_of}
use Rattle.round_search.proofs.search.Search.offer_ride.Goals as goal

pub loop-k-init : goal.loop-k-init
loop-k-init g c =
    let task = task_of g.T.Fare.LabelOrder.at_most g.T.Tariff.terms c.args.self.now in
    record {
      spreads = spreads_none (search_of task) (Lacks task c.args.finals.now) c.args.source.now.labels.now _ _ (in_bags c.args.store.now.bags)
          (λ b leads. let below = leads.1 in absurd (omega (arith, below)));
      stops = refl;
    }

pub offer_move-requires-clause-stops : goal.offer_move-requires-clause-stops
offer_move-requires-clause-stops g c = c.loop-k.invariant.stops ∙ c.requires.stops

pub loop-k-preserved : goal.loop-k-preserved
loop-k-preserved g c =
    let task = task_of g.T.Fare.LabelOrder.at_most g.T.Tariff.terms c.args.self.now in
    let laws : HasLaws task = c.limit-limit.ensures.laws in
    let source = c.args.source.now in
    let moves = c.moves_into.new.moves in
    let lt : c.loop-k.k < length moves.items = omega (arith, c.loop-k-test.true, c.len-k-end.ensures, moves.ok.0) in
    let at = slice_get_read moves.items (length moves.items) c.loop-k.k c.index.result.now refl lt c.index.ensures in
    record {
      spreads = spreads_more (search_of task) (Lacks task c.args.finals.now) source.labels.now _ _ _ _ _ _ _ c.loop-k.invariant.spreads
          c.in_ok-offer_move.ensures.spreads
          (λ b. leads_more task laws source c.requires.source c.args.leg.now.caught.now c.requires.right moves.items c.loop-k.k
          c.index.result.now b at);
      stops = c.in_ok-offer_move.ensures.stops ∙ c.loop-k.invariant.stops;
    }

pub returns-clause-spreads : goal.returns-clause-spreads
returns-clause-spreads g c =
    let task = task_of g.T.Fare.LabelOrder.at_most g.T.Tariff.terms c.args.self.now in
    let laws : HasLaws task = c.limit-limit.ensures.laws in
    let source = c.args.source.now in
    let caught = c.args.leg.now.caught.now in
    let moves = c.moves_into.new.moves in
    spreads_by task laws source c.requires.source caught c.requires.right c.feed-feed.ensures.sound c.args.finals.now moves.items c.loop-k.k _ _
    (subst (λ (a : Asked _). AreEnough task.at_most (g.T.Tariff.terms a.tariff) (facts_of source.label.now) caught.facts moves.items) c.self.view_is
    c.in_ok-moves_into.ensures)
    (omega (arith, c.loop-k-test.false, c.len-k-end.ensures, moves.ok.0)) c.loop-k.invariant.spreads

pub returns-clause-stops : goal.returns-clause-stops
returns-clause-stops g c = c.loop-k.invariant.stops
