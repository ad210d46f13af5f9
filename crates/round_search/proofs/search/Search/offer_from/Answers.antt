use Rattle.std.proofs.Common.{refl, sym, subst, ◌-◌, List, slice_index_or}
use Rattle.std.specs.Prelude.{All}
use Rattle.std.proofs.lemmas.Option.{slice_get-get_or}
use Rattle.std.proofs.lemmas.Result.{on_ok_weaker}
use Rattle.plan_rides.specs.Cutoffs.{cutoff_of}
use Rattle.plan_rides.specs.Reached.{HoldsFrom}
use Rattle.plan_rides.specs.declared.caught.CaughtRide.{CaughtRide}
use Rattle.round_terms.specs.Legs.{AreKnown}
use Rattle.round_terms.specs.Tasks.{HasLaws, task_of}
use Rattle.round_search.specs.Bags.{in_bags}
use Rattle.round_search.specs.Settled.{IsTried}
use Rattle.round_search.proofs.OfferLaws.{counts, few, from, kept_here, origin, passed_here, spreads_here}
use Rattle.round_search.proofs.ScanLaws.{no_until, source_of}
use Rattle.round_search.proofs.SettledLaws.{tried_kept}
use Rattle.round_search.proofs.search.Search.offer_from.Goals as goal

pub settled_label-own-requires-clause-fare : goal.settled_label-own-requires-clause-fare
settled_label-own-requires-clause-fare g c =
    let task = task_of g.T.Fare.LabelOrder.at_most g.T.Tariff.terms c.args.self.now in
    let laws : HasLaws task = c.limit-limit.ensures.laws in
    let place = c.requires.place in
    let reached = c.args.reached.now in
    let round = c.args.scan.now.round.now in
    let at = slice_get-get_or round.labels.now reached.number c.index-round-reached.result place.marked.within in
    (origin task laws round place.round reached place.marked _ at).fit.fare

pub settled_label-own-requires-clause-few : goal.settled_label-own-requires-clause-few
settled_label-own-requires-clause-few g c =
    let task = task_of g.T.Fare.LabelOrder.at_most g.T.Tariff.terms c.args.self.now in
    let laws : HasLaws task = c.limit-limit.ensures.laws in
    let place = c.requires.place in
    let reached = c.args.reached.now in
    let round = c.args.scan.now.round.now in
    let at = slice_get-get_or round.labels.now reached.number c.index-round-reached.result place.marked.within in
    few task laws round place.round reached place.marked _ at

pub limits-requires-clause-fit : goal.limits-requires-clause-fit
limits-requires-clause-fit g c =
    let task = task_of g.T.Fare.LabelOrder.at_most g.T.Tariff.terms c.args.self.now in
    let laws : HasLaws task = c.limit-limit.ensures.laws in
    let place = c.requires.place in
    let reached = c.args.reached.now in
    let round = c.args.scan.now.round.now in
    let at = slice_get-get_or round.labels.now reached.number c.index-round-reached.result place.marked.within in
    (origin task laws round place.round reached place.marked _ at).fit

pub limits-requires-clause-counts : goal.limits-requires-clause-counts
limits-requires-clause-counts g c =
    let task = task_of g.T.Fare.LabelOrder.at_most g.T.Tariff.terms c.args.self.now in
    let laws : HasLaws task = c.limit-limit.ensures.laws in
    let place = c.requires.place in
    let reached = c.args.reached.now in
    let round = c.args.scan.now.round.now in
    let at = slice_get-get_or round.labels.now reached.number c.index-round-reached.result place.marked.within in
    counts task laws round place.round reached place.marked _ at

pub limits-requires-clause-until : goal.limits-requires-clause-until
limits-requires-clause-until g c =
    let place = c.requires.place in
    let reached = c.args.reached.now in
    let round = c.args.scan.now.round.now in
    let untils = c.args.scan.now.untils.now in
    place.until _ _ (slice_get-get_or round.labels.now reached.number c.index-round-reached.result place.marked.within)
    (slice_get-get_or untils (reached.number - round.begin) no_until place.some)

pub offer_rides-requires-clause-source : goal.offer_rides-requires-clause-source
offer_rides-requires-clause-source g c =
    let task = task_of g.T.Fare.LabelOrder.at_most g.T.Tariff.terms c.args.self.now in
    let laws : HasLaws task = c.limit-limit.ensures.laws in
    let place = c.requires.place in
    let reached = c.args.reached.now in
    let round = c.args.scan.now.round.now in
    let at = slice_get-get_or round.labels.now reached.number c.index-round-reached.result place.marked.within in
    source_of task _ place.round.usual at (origin task laws round place.round reached place.marked _ at)

pub offer_rides-requires-clause-served : goal.offer_rides-requires-clause-served
offer_rides-requires-clause-served g c =
    let task = task_of g.T.Fare.LabelOrder.at_most g.T.Tariff.terms c.args.self.now in
    let laws : HasLaws task = c.limit-limit.ensures.laws in
    let place = c.requires.place in
    let reached = c.args.reached.now in
    let round = c.args.scan.now.round.now in
    let finals = round.finals.now in
    let kept = c.keep.new.kept in
    let Is = g.T.Tariff.IsKnown c.args.self.now.tariff kept.legs in
    let latest = cutoff_of c.args.scan.now.cutoffs.latest in
    let rides = c.rides.result.now in
    let bags = in_bags c.args.store.now.bags in
    let x = slice_index_or round.labels.now reached.number c.index-round-reached.result in
    let at = slice_get-get_or round.labels.now reached.number c.index-round-reached.result place.marked.within in
    let known = subst (AreKnown Is) (sym c.rides.ensures) c.in_ok-keep.ensures.known in
    let holds = subst (HoldsFrom round.positions.now latest reached) (sym c.rides.ensures) c.in_ok-keep.ensures.holds in
    let tried =
    tried_kept task finals round.count bags c.args.kept.now.rides kept.rides c.args.kept.now.settled kept.settled c.in_ok-keep.ensures.labels
    c.requires.kept.tried in
    record {
      labels = refl;
      from = from task laws round place.round reached place.marked x at;
      serve = record { latest = latest; fair = place.fair x at; holds = holds };
      known = known;
      limits = c.limits.ensures;
      passed = passed_here task laws round place.round reached place.marked x at latest rides holds Is known bags kept.settled.labels.items
          (subst (λ (rs : List CaughtRide). All (IsTried task finals round.count rs bags) kept.settled.labels.items) (sym c.rides.ensures) tried)
          c.settled_label-own.result c.settled_label-own.ensures c.passed.result c.last_end.result c.last_end.ensures c.passed.ensures;
    }

pub returns-clause-kept : goal.returns-clause-kept
returns-clause-kept g c =
    let task = task_of g.T.Fare.LabelOrder.at_most g.T.Tariff.terms c.args.self.now in
    let laws : HasLaws task = c.limit-limit.ensures.laws in
    let place = c.requires.place in
    let reached = c.args.reached.now in
    let round = c.args.scan.now.round.now in
    let finals = round.finals.now in
    let kept = c.keep.new.kept in
    let Is = g.T.Tariff.IsKnown c.args.self.now.tariff kept.legs in
    let latest = cutoff_of c.args.scan.now.cutoffs.latest in
    let rides = c.rides.result.now in
    let old = in_bags c.args.store.now.bags in
    let new = in_bags c.offer_rides.new.store.bags in
    let x = slice_index_or round.labels.now reached.number c.index-round-reached.result in
    let at = slice_get-get_or round.labels.now reached.number c.index-round-reached.result place.marked.within in
    let known = subst (AreKnown Is) (sym c.rides.ensures) c.in_ok-keep.ensures.known in
    let holds = subst (HoldsFrom round.positions.now latest reached) (sym c.rides.ensures) c.in_ok-keep.ensures.holds in
    let tried =
    tried_kept task finals round.count old c.args.kept.now.rides kept.rides c.args.kept.now.settled kept.settled c.in_ok-keep.ensures.labels
    c.requires.kept.tried in
    let labels = kept.settled.labels.items in
    on_ok_weaker c.add.result
    (λ adds. record {
      are = c.in_ok-keep.ensures.kept;
      known = c.in_ok-keep.ensures.known;
      tried = subst (λ (rs : List CaughtRide). All (IsTried task finals round.count rs new) c.add.new.self.labels.items) c.rides.ensures
          (kept_here task laws round place.round reached place.marked x at latest rides holds Is known old new c.in_ok-offer_rides.ensures.each
          c.settled_label-own.result c.settled_label-own.ensures labels c.add.new.self.labels.items adds
          (subst (λ (rs : List CaughtRide). All (IsTried task finals round.count rs old) labels) (sym c.rides.ensures) tried));
    })
    c.add.ensures

pub returns-clause-spreads : goal.returns-clause-spreads
returns-clause-spreads g c =
    let task = task_of g.T.Fare.LabelOrder.at_most g.T.Tariff.terms c.args.self.now in
    let laws : HasLaws task = c.limit-limit.ensures.laws in
    let place = c.requires.place in
    let reached = c.args.reached.now in
    let round = c.args.scan.now.round.now in
    let x = slice_index_or round.labels.now reached.number c.index-round-reached.result in
    let at = slice_get-get_or round.labels.now reached.number c.index-round-reached.result place.marked.within in
    on_ok_weaker c.add.result
    (λ adds. spreads_here task laws round place.round reached place.marked x at (in_bags c.args.store.now.bags)
    (in_bags c.offer_rides.new.store.bags) c.in_ok-offer_rides.ensures.all)
    c.add.ensures
