-- The lesser of both amounts is written.
use Rattle.std.proofs.Common.{◌≡◌, subst, arith, to_z, of_z, w64}
use Rattle.std.specs.Prelude.{ℤ, slice_set}
use Rattle.std.specs.Int.{int_min}
use Rattle.std.proofs.lemmas.Int.{to_z-of_z}
use Rattle.fare_bounds.specs.Amounts.{IsLowered, amount_at}
use Rattle.fare_bounds.proofs.AmountLaws.{lowered}
use Rattle.fare_bounds.proofs.amounts.lower.Goals as goal

pub returns-clause-lowered : goal.returns-clause-lowered
returns-clause-lowered c =
    let amounts = c.args.amounts.now.items in
    let is : int_min (amount_at amounts c.args.place) c.args.amount ≡ to_z w64 (of_z w64 c.min.result) =
    grind (arith, to_z-of_z) in
    subst (λ (z : ℤ). IsLowered c.args.place c.args.amount amounts (slice_set amounts c.args.place z)) is
    (lowered amounts c.args.place c.args.amount (omega (arith, c.args.amounts.now.ok.0)))
