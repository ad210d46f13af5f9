use Rattle.std.proofs.Common.{refl, sym, subst, ◌∙◌, pos, arith, length, slice_index_or}
use Rattle.std.specs.Prelude.{None}
use Rattle.std.proofs.lemmas.List.Elements.{Contains-get_or}
use Rattle.std.proofs.lemmas.Option.{slice_get-get_or}
use Rattle.plan_rides.specs.declared.caught.CaughtRide.{CaughtRide}
use Rattle.search_laws.proofs.SpreadLaws.{spreads_but, spreads_done, spreads_more, spreads_none, spreads_same}
use Rattle.round_search.specs.Finals.{HasEnds}
use Rattle.round_search.specs.Cuts.{Lacks}
use Rattle.round_search.specs.Bags.{in_bags}
use Rattle.round_terms.specs.Labels.{facts_of}
use Rattle.round_search.specs.Searches.{search_of}
use Rattle.round_search.proofs.RideLaws.{by_first, rides_more}
use Rattle.round_search.proofs.ScanLaws.{by_left_out, by_passed, right_from, steps_from}
use Rattle.round_search.proofs.search.Search.offer_rides.Goals as goal
use Rattle.round_terms.specs.Tasks.{HasLaws, task_of}
use Rattle.round_search.proofs.search.Search.offer_rides.Goals.{then-departs_since+then-is_tried+in_ok-offer_ride, then-departs_since+else-is_tried, else-departs_since}

abbrev none : CaughtRide
none =
    record {
      ride = record { trip = record { 0 = 0 }; day = record { 0 = pos 0 }; shift = pos 0; from = 0; to = 0 };
      facts = record { from = record { 0 = 0 }; to = record { 0 = 0 }; network = None; departure = record { 0 = pos 0 }; arrival = record { 0 = pos 0 } };
    }

pub loop-place-init : goal.loop-place-init
loop-place-init g c =
    let task = task_of g.T.Fare.LabelOrder.at_most g.T.Tariff.terms c.args.self.now in
    record {
      spreads = spreads_none (search_of task) (Lacks task c.args.round.now.finals.now) c.args.source.now.labels.now _ _ (in_bags c.args.store.now.bags)
          (λ b steps. let below = steps.1 in absurd (omega (arith, below)));
      stops = refl;
    }

pub offer_ride-requires-clause-right : goal.offer_ride-requires-clause-right
offer_ride-requires-clause-right g c =
    let task = task_of g.T.Fare.LabelOrder.at_most g.T.Tariff.terms c.args.self.now in
    let laws : HasLaws task = c.limit-limit.ensures.laws in
    let served = c.args.served.now in
    let rides = served.rides.now in
    let is = c.requires.served in
    right_from task laws c.args.round.now c.requires.round c.args.source.now c.requires.source served.reached.now is.serve.latest rides
    is.from is.serve.holds
    (slice_index_or rides c.loop-place.place none) (Contains-get_or rides c.loop-place.place none c.loop-place-test.true)
    (sym c.departs_since.ensures ∙ c.if-departs_since.true)

pub offer_ride-requires-clause-ended : goal.offer_ride-requires-clause-ended
offer_ride-requires-clause-ended g c =
    let task = task_of g.T.Fare.LabelOrder.at_most g.T.Tariff.terms c.args.self.now in
    subst (λ labels. HasEnds task labels c.args.round.now.finals.now) (sym c.requires.served.labels) c.requires.round.ended

pub offer_ride-requires-clause-known : goal.offer_ride-requires-clause-known
offer_ride-requires-clause-known g c =
    let rides = c.args.served.now.rides.now in
    let place = c.loop-place.place in
    record {
      knows = c.requires.knows;
      known = c.requires.served.known place (slice_index_or rides place none) (slice_get-get_or rides place none c.loop-place-test.true);
    }

pub offer_ride-requires-clause-stops : goal.offer_ride-requires-clause-stops
offer_ride-requires-clause-stops g c = c.loop-place.invariant.stops ∙ c.requires.stops

pub loop-place-preserved : goal.loop-place-preserved
loop-place-preserved g c =
    let task = task_of g.T.Fare.LabelOrder.at_most g.T.Tariff.terms c.args.self.now in
    let laws : HasLaws task = c.limit-limit.ensures.laws in
    let round = c.args.round.now in
    let source = c.args.source.now in
    let served = c.args.served.now in
    let reached = served.reached.now in
    let rides = served.rides.now in
    let is = c.requires.served in
    let k = c.loop-place.place in
    let search = search_of task in
    let lack = Lacks task round.finals.now in
    let was = c.loop-place.invariant in
    let caught = slice_index_or rides k none in
    let at = slice_get-get_or rides k none c.loop-place-test.true in
    elim c.if-departs_since.branch [
      | then-departs_since+then-is_tried+in_ok-offer_ride w ↦ record {
        spreads = rw w.store-is (spreads_more search lack source.labels.now _ _ _ _ _ _ _ was.spreads w.in_ok-offer_ride.ensures.spreads
            (λ b. rides_more task laws source c.requires.source rides k caught b at));
        stops = rw w.store-is (w.in_ok-offer_ride.ensures.stops ∙ was.stops);
      }
      | then-departs_since+else-is_tried w ↦ record {
        spreads = rw w.store-is (spreads_done search lack source.labels.now _ _ _ _ _ was.spreads
            (λ b. by_left_out task laws round c.requires.round source c.requires.source reached is.serve.latest rides is.from is.serve.holds
            served (in_bags c.args.store.now.bags) k caught b at (sym c.departs_since.ensures ∙ w.if-departs_since.true) is.limits is.passed
            (w.is_tried.ensures w.if-is_tried.false)));
        stops = rw w.store-is was.stops;
      }
      | else-departs_since w ↦ record {
        spreads = rw w.store-is (spreads_same search lack source.labels.now _ _ _ _ _ was.spreads
            (λ b. by_passed task laws round c.requires.round source c.requires.source reached is.serve.latest rides is.from
            is.serve.holds k caught b at (sym c.departs_since.ensures ∙ w.if-departs_since.false)));
        stops = rw w.store-is was.stops;
      }
    ]

pub returns-clause-each : goal.returns-clause-each
returns-clause-each g c =
    let task = task_of g.T.Fare.LabelOrder.at_most g.T.Tariff.terms c.args.self.now in
    let rides = c.args.served.now.rides.now in
    spreads_same (search_of task) (Lacks task c.args.round.now.finals.now) c.args.source.now.labels.now _ _ _ _ _ c.loop-place.invariant.spreads
    (λ b by. by_first task (facts_of c.args.source.now.label.now) rides (length rides) c.loop-place.place b c.loop-place-test.false by)

pub returns-clause-all : goal.returns-clause-all
returns-clause-all g c =
    let task = task_of g.T.Fare.LabelOrder.at_most g.T.Tariff.terms c.args.self.now in
    let laws : HasLaws task = c.limit-limit.ensures.laws in
    let round = c.args.round.now in
    let source = c.args.source.now in
    let served = c.args.served.now in
    let is = c.requires.served in
    spreads_but (search_of task) (Lacks task round.finals.now) source.labels.now _ _ _ _ _ c.loop-place.invariant.spreads
    (λ b. steps_from task laws round c.requires.round source c.requires.source served.reached.now is.serve.latest served.rides.now is.from
    is.serve.holds c.loop-place.place b (omega (arith, c.loop-place-test.false)) is.serve.fair)

pub returns-clause-stops : goal.returns-clause-stops
returns-clause-stops g c = c.loop-place.invariant.stops
