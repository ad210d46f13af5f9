-- What the slice has at the number.
use Rattle.std.proofs.Common.{arith}
use Rattle.std.proofs.lemmas.Option.{gets}
use Rattle.fare_transfer_rules.proofs.selected.row_at.Goals as goal

pub returns : goal.returns
returns c = grind (arith, gets, c.get.ensures.lookup)
