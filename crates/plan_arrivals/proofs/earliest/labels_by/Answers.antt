use Rattle.std.proofs.Common.{subst}
use Rattle.std.specs.Prelude.{IfOk}
use Rattle.round_search.specs.NoSpans.{none_spans}
use Rattle.round_search.specs.Searches.{IsSearched}
use Rattle.round_terms.specs.Tasks.{Asked, task_of}
use Rattle.plan_arrivals.specs.declared.no_fares.NoFares.{NoFares}
use Rattle.plan_arrivals.specs.NoFares.{any, no_fares}
use Rattle.plan_arrivals.proofs.earliest.labels_by.Goals as goal

pub of-requires-clause-spans : goal.of-requires-clause-spans
of-requires-clause-spans c = none_spans c.args.rides.now.feed c.args.rides.now.query c.none-spans.result c.none-spans.ensures

pub returns : goal.returns
returns c =
    subst (λ (a : Asked _). IfOk c.labels.result (λ all. IsSearched (task_of any (λ (s : NoFares). no_fares) a) all.0.items all.1)) c.of.ensures
    c.labels.ensures.searched
