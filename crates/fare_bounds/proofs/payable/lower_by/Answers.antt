-- The amount of the row is one of a sound feed.
use Rattle.std.proofs.Common.{refl}
use Rattle.fare_bounds.proofs.AmountLaws.{lowered_to}
use Rattle.fare_bounds.proofs.PayableLaws.{amount_low, amount_fits}
use Rattle.fare_bounds.proofs.payable.lower_by.Goals as goal

pub returns-then-opens-clause-after : goal.returns-then-opens-clause-after
returns-then-opens-clause-after c =
    let amount = c.args.row.now.amount.0 in
    let done = lowered_to c.args.row.now.product.0 amount amount _ _
    (amount_fits amount c.requires.amount) refl c.lower.ensures.lowered in
    done.amounts 1 c.requires.before (amount_low amount c.requires.amount)
