-- What an audit reports.
use Rattle.std.specs.Prelude.{◌≡◌, ◌<◌, ◌⊎◌, not, List, length, AllPairs, Contains}
use Rattle.transit_base.specs.declared.numbers.RuleId.{RuleId}
use Rattle.feed_rows.specs.declared.journeys.Pair.{Pair}
use Rattle.plain_laws.specs.Plain.{picks_below}
use Rattle.fare_audit.specs.Found.{is_marked}
use Rattle.std.specs.Prelude.{Bool}

-- the pairs without a fare and the rules that are idle
pub record Gaps : Type 0 where
  pub gaps : List Pair
  pub idle : List RuleId

-- the one pair comes before the other: by boarding stop, and then by alighting stop
abbrev pub ComesBefore : Pair → Pair → Type 0
ComesBefore a b = (a.from.0 < b.from.0) ⊎ ((a.from.0 ≡ b.from.0) × (a.to.0 < b.to.0))

-- the pairs that were there, each once, in order
pub record ArePairsInOrder (pairs sorted : List Pair) : Type 0 where
  pub rises : AllPairs ComesBefore sorted
  pub has : (pair : Pair) → Contains pairs pair → Contains sorted pair
  pub tells : (pair : Pair) → Contains sorted pair → Contains pairs pair

-- the rules that aren't marked
abbrev pub are_unused : List Bool → List RuleId
are_unused used = picks_below (length used) (λ i. not (is_marked used i)) (λ i. record { 0 = i })
