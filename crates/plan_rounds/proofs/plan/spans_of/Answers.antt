use Rattle.round_search.specs.NoSpans.{none_spans}
use Rattle.plan_rounds.proofs.plan.spans_of.Goals as goal

pub returns-then-whole-clause-are : goal.returns-then-whole-clause-are
returns-then-whole-clause-are c = none_spans c.args.rides.now.feed c.args.rides.now.query c.none.result c.none.ensures
