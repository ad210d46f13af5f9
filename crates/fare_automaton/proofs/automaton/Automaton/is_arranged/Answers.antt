-- There is a least count that suffices where some row is selected.
use Rattle.std.proofs.Common.{◌∙◌}
use Rattle.fare_automaton.proofs.automaton.Automaton.is_arranged.Goals as goal

pub returns : goal.returns
returns c = c.is_some.ensures ∙ c.least_for.ensures.some
