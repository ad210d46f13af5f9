use Rattle.std.proofs.Common.{sym, subst, All}
use Rattle.std.proofs.lemmas.Result.{on_ok_weaker}
use Rattle.round_terms.specs.Tasks.{HasLaws, task_of}
use Rattle.round_search.specs.Bags.{in_bags}
use Rattle.round_search.specs.Offers.{IsPlace}
use Rattle.round_search.specs.Scans.{SpreadsIn, StepsAmong}
use Rattle.round_search.proofs.OfferLaws.{are_places, none_tried, spreads_marked}
use Rattle.round_search.proofs.search.Search.offer_round.Goals as goal

pub cutoffs_by-requires : goal.cutoffs_by-requires
cutoffs_by-requires g c = c.in_ok-mark.ensures.last

pub offer_marked-requires-clause-places : goal.offer_marked-requires-clause-places
offer_marked-requires-clause-places g c =
    let task = task_of g.T.Fare.LabelOrder.at_most g.T.Tariff.terms c.args.self.now in
    let laws : HasLaws task = c.limit-limit.ensures.laws in
    let marks = c.mark.new.marks in
    subst (All (IsPlace task _)) (sym c.deref-2.ensures.value)
    (are_places task laws _ c.requires.round marks c.in_ok-mark.ensures c.deref.ensures.value c.cutoffs_by.ensures.lasts c.more_behind.result
    c.cutoffs_by.ensures.fair c.more_behind.ensures)

pub offer_marked-requires-clause-knows : goal.offer_marked-requires-clause-knows
offer_marked-requires-clause-knows g c = subst (g.T.Tariff.Knows c.args.self.now.tariff) (sym c.clear.ensures.legs) c.requires.knows

pub offer_marked-requires-clause-kept : goal.offer_marked-requires-clause-kept
offer_marked-requires-clause-kept g c =
    let task = task_of g.T.Fare.LabelOrder.at_most g.T.Tariff.terms c.args.self.now in
    let laws : HasLaws task = c.limit-limit.ensures.laws in
    none_tried task laws _ c.requires.round c.mark.new.marks c.in_ok-mark.ensures _ c.clear.new.self (in_bags c.args.store.now.bags)
    c.clear.ensures.rides c.clear.ensures.settled

pub returns-clause-spreads : goal.returns-clause-spreads
returns-clause-spreads g c =
    let task = task_of g.T.Fare.LabelOrder.at_most g.T.Tariff.terms c.args.self.now in
    let round = c.args.round.now in
    let old = in_bags c.args.store.now.bags in
    let new = in_bags c.offer_marked.new.store.bags in
    on_ok_weaker c.offer_marked.result
    (λ spreads. spreads_marked task round c.requires.round c.mark.new.marks c.in_ok-mark.ensures old new
    (subst (λ list. SpreadsIn task round (StepsAmong task round list) old new) c.deref-2.ensures.value spreads))
    c.offer_marked.ensures.spreads
