use Rattle.std.proofs.Common.{[], refl, sym, ◌∙◌, subst, ◌+◌, ◌++◌, length, arith}
use Rattle.search_laws.specs.Links.{CoversStarts}
use Rattle.search_laws.specs.Stores.{AreClosedTo, AreStored}
use Rattle.search_laws.proofs.StoreLaws.{closed_more, closed_weaker, few_more, fit_more, starts_more, stored_more}
use Rattle.round_search.specs.Bags.{gathered, in_bags}
use Rattle.round_search.specs.Cuts.{Lacks}
use Rattle.round_search.specs.Finals.{AddsEnds, EndsBelow}
use Rattle.round_search.specs.Searches.{AreLast, IsGathered, search_of, told}
use Rattle.round_terms.specs.Steps.{ways}
use Rattle.round_search.proofs.CutLaws.{bettered_still}
use Rattle.round_search.proofs.FoundLaws.{lacks_more}
use Rattle.round_search.proofs.LawfulLaws.{cover_test}
use Rattle.round_search.proofs.RoundLaws.{ending_of, gathered_rides, searched_of}
use Rattle.round_search.proofs.SourceLaws.{last_more}
use Rattle.round_terms.specs.Tasks.{HasLaws, task_of}
use Rattle.round_search.proofs.search.Search.spread_all.Goals as goal

pub loop-count-init : goal.loop-count-init
loop-count-init g c = record { are = c.requires.start; stops = c.requires.stops; knows = c.requires.knows }

pub gather-requires-clause-ending : goal.gather-requires-clause-ending
gather-requires-clause-ending g c =
    let task = task_of g.T.Fare.LabelOrder.at_most g.T.Tariff.terms c.args.self.now in
    let laws : HasLaws task = c.limit-limit.ensures.laws in
    let s = search_of task in
    let test = cover_test task laws in
    let was = c.loop-count.invariant.are in
    let count = c.loop-count.count in
    let labels = c.loop-count.found.labels.items in
    let front = c.loop-count.found.front in
    let new = in_bags c.spread.new.store.bags in
    let spreads = c.in_ok-spread.ensures.spreads in
    ending_of task (labels ++ gathered (count + 1) new) c.limit-count-end.ensures.usual
    (few_more s test (Lacks task front) (count + 1) labels _ (in_bags c.loop-count.store.bags) new was.stored spreads task.query.rides
    (omega (arith, c.loop-count-test.true, c.limit-count-end.ensures.is)))
    (fit_more s test (Lacks task front) (count + 1) labels _ (in_bags c.loop-count.store.bags) new was.stored spreads)

pub gather-requires-clause-ended : goal.gather-requires-clause-ended
gather-requires-clause-ended g c = c.loop-count.invariant.are.ended

pub loop-count-preserved : goal.loop-count-preserved
loop-count-preserved g c =
    let task = task_of g.T.Fare.LabelOrder.at_most g.T.Tariff.terms c.args.self.now in
    let laws : HasLaws task = c.limit-limit.ensures.laws in
    let s = search_of task in
    let test = cover_test task laws in
    let was = c.loop-count.invariant.are in
    let count = c.loop-count.count in
    let labels = c.loop-count.found.labels.items in
    let front = c.loop-count.found.front in
    let new = in_bags c.spread.new.store.bags in
    let spreads = c.in_ok-spread.ensures.spreads in
    let old = in_bags c.loop-count.store.bags in
    let all = c.in_ok-gather.ensures in
    record {
      are = record {
        stored = subst (λ ls. AreStored s (count + 1 + 1) ls new) (sym all.value)
            (stored_more s test (Lacks task front) (count + 1) labels _ old new was.stored spreads all.apart);
        apart = all.apart;
        closed = closed_weaker s (Lacks task front) (Lacks task c.gather.new.found.front) (count + 1) c.gather.new.found.labels.items
            (lacks_more task laws front c.gather.new.found.front (bettered_still task laws labels (gathered (count + 1) new) front c.gather.new.found.front was.ended
            (subst (λ ls. AddsEnds task ls (EndsBelow task ls (length ls)) [] c.gather.new.found.front) all.value all.ended)))
            (subst (AreClosedTo s (Lacks task front) (count + 1)) (sym all.value)
            (closed_more s test (Lacks task front) (count + 1) labels _ old new was.stored spreads count refl was.closed (λ b h. h)));
        starts = subst (CoversStarts (ways task) (told task)) (sym all.value) (starts_more s labels _ was.starts);
        ended = all.ended;
        numbers = all.numbers;
        last = subst (AreLast (count + 1) c.gather.new.found.begin) (sym all.value)
            (subst (λ n. AreLast (count + 1) n (labels ++ gathered (count + 1) new)) (sym all.begin)
            (last_more count c.loop-count.found.begin labels (gathered (count + 1) new) was.last (gathered_rides (count + 1) new)));
      };
      stops = c.in_ok-spread.ensures.stops ∙ c.loop-count.invariant.stops;
      knows = c.in_ok-spread.ensures.knows;
    }

pub returns-clause-knows : goal.returns-clause-knows
returns-clause-knows g c = c.loop-count.invariant.knows

pub returns-clause-searched : goal.returns-clause-searched
returns-clause-searched g c =
    let task = task_of g.T.Fare.LabelOrder.at_most g.T.Tariff.terms c.args.self.now in
    let laws : HasLaws task = c.limit-limit.ensures.laws in
    let bags = in_bags c.loop-count.store.bags in
    searched_of task laws c.loop-count.found bags
    (subst (λ n. IsGathered task n c.loop-count.found bags)
    (omega (arith, c.loop-count-test.false, c.loop-count.auto.count-end, c.limit-count-end.ensures.is)) c.loop-count.invariant.are)
    c.feed-feed.ensures.sound
