use Rattle.std.proofs.Common.{◌≡◌, sym, ◌∙◌, ap, subst, [], ◌++◌, ⊎_elim, All, length, arith}
use Rattle.search_laws.specs.Links.{CoversStarts}
use Rattle.search_laws.specs.Stores.{AreStored, Spreads}
use Rattle.search_laws.proofs.StoreLaws.{few_more, fit_more, starts_covered, stored_more, stored_none}
use Rattle.round_search.specs.Bags.{gathered, in_bags}
use Rattle.round_search.specs.Finals.{AddsEnds, EndsBelow}
use Rattle.round_search.specs.Searches.{AreEnding, AreLast, IsNever, search_of, told}
use Rattle.round_terms.specs.Steps.{ways}
use Rattle.round_search.proofs.FinalLaws.{ends_none}
use Rattle.round_search.proofs.LawfulLaws.{cover_test}
use Rattle.round_search.proofs.RoundLaws.{ending_of, gathered_rides, last_first}
use Rattle.round_terms.specs.Tasks.{HasLaws, task_of}
use Rattle.round_search.proofs.search.Search.labels.Goals as goal

pub gather-requires-clause-ending : goal.gather-requires-clause-ending
gather-requires-clause-ending g c =
    let task = task_of g.T.Fare.LabelOrder.at_most g.T.Tariff.terms c.args.self.now in
    let laws : HasLaws task = c.limit-limit.ensures.laws in
    let s = search_of task in
    let test = cover_test task laws in
    let new = in_bags c.offer_starts.new.bags in
    let spreads =
    subst (λ old. Spreads s IsNever [] 0 ((ways task).Starts) old new) c.in_ok-empty.ensures.none
    c.in_ok-offer_starts.ensures.spreads in
    subst (λ ls. AreEnding task (ls ++ gathered 0 new)) (sym c.new.ensures.items)
    (ending_of task ([] ++ gathered 0 new) c.limit-limit.ensures.usual
    (few_more s test IsNever 0 [] _ [] new (stored_none s) spreads task.query.rides (omega arith))
    (fit_more s test IsNever 0 [] _ [] new (stored_none s) spreads))

pub gather-requires-clause-ended : goal.gather-requires-clause-ended
gather-requires-clause-ended g c =
    let task = task_of g.T.Fare.LabelOrder.at_most g.T.Tariff.terms c.args.self.now in
    subst (λ ls. AddsEnds task ls (EndsBelow task ls (length ls)) [] c.empty-2.result) (sym c.new.ensures.items)
    (subst (AddsEnds task [] (EndsBelow task [] 0) []) (sym c.empty-2.ensures)
    (ends_none task [] (EndsBelow task [] 0) [] (λ triple below. let lt = below.1 in absurd (omega (arith, lt)))))

pub spread_all-requires-clause-start : goal.spread_all-requires-clause-start
spread_all-requires-clause-start g c =
    let task = task_of g.T.Fare.LabelOrder.at_most g.T.Tariff.terms c.args.self.now in
    let laws : HasLaws task = c.limit-limit.ensures.laws in
    let s = search_of task in
    let test = cover_test task laws in
    let new = in_bags c.offer_starts.new.bags in
    let spreads =
    subst (λ old. Spreads s IsNever [] 0 ((ways task).Starts) old new) c.in_ok-empty.ensures.none
    c.in_ok-offer_starts.ensures.spreads in
    let all = c.in_ok-gather.ensures in
    let stored = stored_more s test IsNever 0 [] _ [] new (stored_none s) spreads all.apart in
    let is = all.value ∙ ap (λ ls. ls ++ gathered 0 new) c.new.ensures.items in
    record {
      stored = subst (λ ls. AreStored s 1 ls new) (sym is) stored;
      apart = all.apart;
      closed = λ x at few. absurd (omega (arith, few));
      starts = subst (CoversStarts (ways task) (told task)) (sym is)
          (starts_covered s test 1 _ new stored (λ b start. ⊎_elim (λ held. held) (λ never. absurd never) (spreads.all b start)));
      ended = all.ended;
      numbers = all.numbers;
      last = subst (λ n. AreLast 0 n c.gather.new.found.labels.items) (sym (all.begin ∙ ap length c.new.ensures.items))
          (last_first _ (subst (All (λ x. x.rides ≡ 0)) (sym is) (gathered_rides 0 new)));
    }
