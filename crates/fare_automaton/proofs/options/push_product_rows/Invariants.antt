-- What is added so far.
use Rattle.std.proofs.Common.{◌≡◌, ◌++◌, take}
use Rattle.std.specs.Prelude.{map, Some}
use Rattle.transit_base.specs.declared.numbers.ProductRowId.{ProductRowId}
use Rattle.fare_automaton.specs.Options.{place_of}
use Rattle.fare_automaton.proofs.options.push_product_rows.Given as goal

abbrev pub invariant-loop-row : goal.invariant-loop-row
invariant-loop-row l = l.places.items ≡ l.fn.places.items ++ map (λ (row : ProductRowId). place_of l.rule.0 (Some row.0)) (take l.row-index l.rows)
