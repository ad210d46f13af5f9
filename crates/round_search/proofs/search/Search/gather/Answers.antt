use Rattle.std.proofs.Common.{◌≡◌, sym, ◌∙◌, subst, [], ◌++◌, length, arith}
use Rattle.round_search.specs.Bags.{gathered, in_bags}
use Rattle.round_search.specs.Finals.{AddsEnds, EndsBelow}
use Rattle.round_search.proofs.FinalLaws.{ends_longer}
use Rattle.round_terms.specs.Tasks.{task_of}
use Rattle.round_search.proofs.search.Search.gather.Goals as goal

pub add_ends-requires-clause-before : goal.add_ends-requires-clause-before
add_ends-requires-clause-before g c =
    let task = task_of g.T.Fare.LabelOrder.at_most g.T.Tariff.terms c.args.self.now in
    let labels = c.args.found.now.labels.items in
    let more = gathered c.args.rides (in_bags c.args.bags.now) in
    let same : length labels ≡ c.len-found.result = omega (arith, c.len-found.ensures, c.args.found.now.labels.ok.0) in
    subst (λ ls. AddsEnds task ls (EndsBelow task ls c.len-found.result) [] c.args.found.now.front)
    (sym (c.deref.ensures.value ∙ c.in_ok-gather.ensures.value))
    (subst (λ n. AddsEnds task (labels ++ more) (EndsBelow task (labels ++ more) n) [] c.args.found.now.front) same
    (ends_longer task labels more c.args.found.now.front c.requires.ended))
