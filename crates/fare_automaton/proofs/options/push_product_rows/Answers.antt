-- One row more.
use Rattle.std.proofs.Common.{◌∙◌, ◌++◌, ap, map, take_all}
use Rattle.std.specs.Prelude.{Some}
use Rattle.transit_base.specs.declared.numbers.ProductRowId.{ProductRowId}
use Rattle.fare_automaton.specs.Options.{place_of}
use Rattle.fare_automaton.proofs.AddedLaws.{map_added}
use Rattle.fare_automaton.proofs.options.push_product_rows.Goals as goal

pub loop-row-preserved : goal.loop-row-preserved
loop-row-preserved c =
    map_added (λ (row : ProductRowId). place_of c.args.rule.0 (Some row.0)) c.args.rows.now c.loop-row.row-index _ _ _ _
    c.loop-row-test.true c.loop-row.invariant c.in_ok-push_place.ensures

pub returns : goal.returns
returns c =
    c.loop-row.invariant
    ∙ ap (λ rows. c.args.places.now.items ++ map (λ (row : ProductRowId). place_of c.args.rule.0 (Some row.0)) rows)
    (take_all c.loop-row.row-index c.args.rows.now c.loop-row-test.false)
