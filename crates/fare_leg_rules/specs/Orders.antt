-- Rules in file order, each once.
use Rattle.std.specs.Prelude.{◌<◌, List, AllPairs, Contains}
use Rattle.transit_base.specs.declared.numbers.RuleId.{RuleId}

-- the rules that were there, each once, by their numbers
pub record IsPutInOrder (rules sorted : List RuleId) : Type 0 where
  pub rises : AllPairs (λ a b. a.0 < b.0) sorted
  pub has : (rule : RuleId) → Contains rules rule → Contains sorted rule
  pub tells : (rule : RuleId) → Contains sorted rule → Contains rules rule
