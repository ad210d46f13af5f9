use Rattle.std.proofs.Common.{refl, ◌∙◌, pos, arith, slice_index_or}
use Rattle.std.proofs.lemmas.List.Elements.{All-contains, Contains-get_or}
use Rattle.std.proofs.lemmas.Option.{slice_get-get_or}
use Rattle.plan_rides.specs.declared.positions.Reached.{Reached}
use Rattle.search_laws.proofs.SpreadLaws.{spreads_more, spreads_none, spreads_same}
use Rattle.round_search.specs.Bags.{in_bags}
use Rattle.round_search.specs.Cuts.{Lacks}
use Rattle.round_search.specs.Offers.{IsPlace}
use Rattle.round_search.specs.Searches.{search_of}
use Rattle.round_search.proofs.ScanLaws.{steps_all, steps_more}
use Rattle.round_terms.specs.Tasks.{task_of}
use Rattle.round_search.proofs.search.Search.offer_marked.Goals as goal

-- (what is read doesn't hang on this)
abbrev none : Reached
none = record {
  serving = record { pattern = 0; position = 0 };
  stop = record { 0 = 0 };
  earliest = record { 0 = pos 0 };
  number = 0;
}

pub loop-k-init : goal.loop-k-init
loop-k-init g c =
    let task = task_of g.T.Fare.LabelOrder.at_most g.T.Tariff.terms c.args.self.now in
    let round = c.args.scan.now.round.now in
    record {
      knows = c.requires.knows;
      kept = c.requires.kept;
      spreads = spreads_none (search_of task) (Lacks task round.finals.now) round.labels.now _ _ (in_bags c.args.store.now.bags)
          (λ b steps. let below = steps.1 in absurd (omega (arith, below)));
      stops = refl;
    }

pub offer_from-requires-clause-place : goal.offer_from-requires-clause-place
offer_from-requires-clause-place g c =
    let task = task_of g.T.Fare.LabelOrder.at_most g.T.Tariff.terms c.args.self.now in
    let list = c.args.reached.now in
    All-contains (IsPlace task c.args.scan.now) list (slice_index_or list c.loop-k.k none) c.requires.places
    (Contains-get_or list c.loop-k.k none c.loop-k-test.true)

pub offer_from-requires-clause-stops : goal.offer_from-requires-clause-stops
offer_from-requires-clause-stops g c = c.loop-k.invariant.stops ∙ c.requires.stops

pub loop-k-preserved : goal.loop-k-preserved
loop-k-preserved g c =
    let task = task_of g.T.Fare.LabelOrder.at_most g.T.Tariff.terms c.args.self.now in
    let round = c.args.scan.now.round.now in
    let list = c.args.reached.now in
    let k = c.loop-k.k in
    let was = c.loop-k.invariant in
    record {
      knows = c.in_ok-offer_from.ensures.knows;
      kept = c.in_ok-offer_from.ensures.kept;
      spreads = spreads_more (search_of task) (Lacks task round.finals.now) round.labels.now _ _ _ _ _ _ _ was.spreads
          c.in_ok-offer_from.ensures.spreads
          (λ b. steps_more task round list k (slice_index_or list k none) b (slice_get-get_or list k none c.loop-k-test.true));
      stops = c.in_ok-offer_from.ensures.stops ∙ was.stops;
    }

pub returns-clause-knows : goal.returns-clause-knows
returns-clause-knows g c = c.loop-k.invariant.knows

pub returns-clause-spreads : goal.returns-clause-spreads
returns-clause-spreads g c =
    let task = task_of g.T.Fare.LabelOrder.at_most g.T.Tariff.terms c.args.self.now in
    let round = c.args.scan.now.round.now in
    spreads_same (search_of task) (Lacks task round.finals.now) round.labels.now _ _ _ _ _ c.loop-k.invariant.spreads
    (λ b among. steps_all task round c.args.reached.now c.loop-k.k b (omega (arith, c.loop-k-test.false)) among)

pub returns-clause-stops : goal.returns-clause-stops
returns-clause-stops g c = c.loop-k.invariant.stops
