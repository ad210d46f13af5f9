-- What is added so far.
use Rattle.std.proofs.Common.{◌≡◌, ◌++◌, take}
use Rattle.std.specs.Prelude.{map}
use Rattle.transit_base.specs.declared.numbers.ProductRowId.{ProductRowId}
use Rattle.fare_automaton.specs.Options.{pick_of}
use Rattle.fare_automaton.proofs.options.push_rows.Given as goal

abbrev pub invariant-loop-row : goal.invariant-loop-row
invariant-loop-row l = l.picks.items ≡ l.fn.picks.items ++ map (λ (row : ProductRowId). pick_of l.rule.0 row.0) (take l.row-index l.rows)
