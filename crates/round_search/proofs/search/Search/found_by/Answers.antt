use Rattle.std.proofs.Common.{List, ap, inr, slice_index_or, subst}
use Rattle.std.proofs.lemmas.List.Elements.{Contains-get_or}
use Rattle.feed_rows.specs.declared.fares.Triple.{Triple}
use Rattle.round_search.specs.Cuts.{is_given}
use Rattle.round_terms.specs.Tasks.{Asked, task_of}
use Rattle.round_search.proofs.BoundLaws.{found_sooner, no_triple}
use Rattle.round_search.proofs.FoundLaws.{given_itself}
use Rattle.round_search.proofs.search.Search.found_by.Goals as goal

pub loop-k-2-preserved : goal.loop-k-2-preserved
loop-k-2-preserved g c =
    let task = task_of g.T.Fare.LabelOrder.at_most g.T.Tariff.terms c.args.self.now in
    let given = c.self.inside.aim.given.now in
    let triple = slice_index_or given c.loop-k-2.k no_triple in
    found_sooner task c.args.finals.now c.args.rides _ c.args.until c.loop-k-2.first c.sooner-first-in-loop-k-2.result triple
    c.loop-k-2.invariant
    (inr (subst (λ (ts : List Triple). is_given ts triple) (ap (λ (s : Asked _). s.given) c.self.view_is)
    (given_itself given triple (Contains-get_or given c.loop-k-2.k no_triple c.loop-k-2-test.true))))
    c.sooner-first-in-loop-k-2.ensures.before c.sooner-first-in-loop-k-2.ensures.is
