-- The open rows of the product.
use Rattle.std.proofs.Common.{◌∙◌, sym, ap, List, ◌++◌}
use Rattle.std.specs.Prelude.{map, Option, Some}
use Rattle.std.proofs.lemmas.Result.{on_ok_weaker}
use Rattle.transit_base.specs.declared.numbers.ProductId.{ProductId}
use Rattle.transit_base.specs.declared.numbers.ProductRowId.{ProductRowId}
use Rattle.feed_rows.specs.declared.fares.ChangeChoice.{ChangeChoice}
use Rattle.fare_automaton.specs.Options.{place_of, product_places}
use Rattle.fare_automaton.proofs.OptionLaws.{product_places-rows}
use Rattle.fare_automaton.proofs.automaton.Automaton.push_product.Goals as goal

pub returns-in-Some : goal.returns-in-Some
returns-in-Some c =
    on_ok_weaker c.push_product_rows.result
    (λ is. is
    ∙ ap (λ (rows : List ProductRowId). c.args.places.now.items ++ map (λ (row : ProductRowId). place_of c.args.rule.0 (Some row.0)) rows) c.open_rows.ensures
    ∙ ap (λ (xs : List (Option ChangeChoice)). c.args.places.now.items ++ xs)
    (product_places-rows c.args.self.now.feed c.args.self.now.buyer c.args.rule c.in-Some.own)
    ∙ ap (λ (product : Option ProductId). c.args.places.now.items ++ product_places c.args.self.now.feed c.args.self.now.buyer c.args.rule.0 product) (sym c.in-Some.is))
    c.push_product_rows.ensures
