use Rattle.std.proofs.Common.{refl, ◌∙◌, [], arith}
use Rattle.std.proofs.lemmas.Option.{slice_get-get_or}
use Rattle.search_laws.proofs.SpreadLaws.{spreads_more, spreads_none, spreads_same}
use Rattle.round_search.specs.Bags.{in_bags}
use Rattle.round_search.specs.Searches.{IsNever, search_of}
use Rattle.round_search.proofs.RideLaws.{starts_among, starts_one}
use Rattle.round_terms.specs.Tasks.{HasLaws, task_of}
use Rattle.round_search.proofs.search.Search.offer_starts.Goals as goal

pub loop-k-init : goal.loop-k-init
loop-k-init g c =
    let task = task_of g.T.Fare.LabelOrder.at_most g.T.Tariff.terms c.args.self.now in
    record {
      spreads = spreads_none (search_of task) IsNever [] 0 _ (in_bags c.args.bags.now)
          (λ b among. let below = among.1 in absurd (omega (arith, below)));
      stops = refl;
    }

pub offer_start-requires-clause-stops : goal.offer_start-requires-clause-stops
offer_start-requires-clause-stops g c = c.loop-k.invariant.stops ∙ c.requires

pub loop-k-preserved : goal.loop-k-preserved
loop-k-preserved g c =
    let task = task_of g.T.Fare.LabelOrder.at_most g.T.Tariff.terms c.args.self.now in
    let laws : HasLaws task = c.limit-limit.ensures.laws in
    record {
      spreads = spreads_more (search_of task) IsNever [] 0 _ _ _ _ _ _ c.loop-k.invariant.spreads c.in_ok-offer_start.ensures.spreads
          (λ b. starts_one task laws c.firsts-firsts.result.now c.loop-k.k _ b (slice_get-get_or _ c.loop-k.k _ c.loop-k-test.true));
      stops = c.offer_start.ensures.stops ∙ c.loop-k.invariant.stops;
    }

pub returns-clause-spreads : goal.returns-clause-spreads
returns-clause-spreads g c =
    let task = task_of g.T.Fare.LabelOrder.at_most g.T.Tariff.terms c.args.self.now in
    let laws : HasLaws task = c.limit-limit.ensures.laws in
    spreads_same (search_of task) IsNever [] 0 _ _ _ _ c.loop-k.invariant.spreads
    (λ b. starts_among task laws c.firsts-firsts.result.now c.loop-k.k b c.firsts-firsts.ensures c.loop-k-test.false)

pub returns-clause-stops : goal.returns-clause-stops
returns-clause-stops g c = c.loop-k.invariant.stops
