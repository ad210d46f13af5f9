-- One product more; and no row is of any other.
use Rattle.std.proofs.Common.{◌∙◌, arith}
use Rattle.feed_rows.specs.FareChoices.{open_rows}
use Rattle.plain_laws.proofs.Laws.{list_below_more}
use Rattle.fare_automaton.proofs.ReadLaws.{open_are}
use Rattle.fare_automaton.proofs.opened.open_rows.Goals as goal

pub loop-product-preserved : goal.loop-product-preserved
loop-product-preserved c =
    list_below_more c.loop-product.product (λ product. open_rows c.args.feed.now (record { 0 = product }) c.args.buyer) c.loop-product.opened
    _ c.items.result.now c.loop-product.invariant c.in_ok-push.ensures.ok
    (c.items.ensures.value ∙ c.in_ok-rows.ensures c.args.feed.now c.in_ok-products.ensures)

pub returns : goal.returns
returns c =
    open_are c.args.feed.now _ c.args.buyer c.loop-product.opened c.loop-product.product c.feed.view_is c.feed.invariant.products
    (omega (arith, c.loop-product-test.false)) c.loop-product.invariant
