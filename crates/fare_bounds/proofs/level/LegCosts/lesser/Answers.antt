-- The lesser of amounts is one of them.
use Rattle.std.proofs.Common.{◌≡◌, arith, to_z, of_z, w64}
use Rattle.std.specs.Int.{int_min}
use Rattle.std.proofs.lemmas.Int.{to_z-of_z}
use Rattle.fare_bounds.proofs.LevelLaws.{lesser_amount}
use Rattle.fare_bounds.proofs.level.LegCosts.lesser.Goals as goal

pub returns-clause-amounts : goal.returns-clause-amounts
returns-clause-amounts c count a b =
    let free : to_z w64 (of_z w64 c.min.result) ≡ int_min c.args.self.now.free c.args.other.now.free =
    grind (arith, to_z-of_z) in
    let charged : to_z w64 (of_z w64 c.min-2.result) ≡ int_min c.args.self.now.charged
    c.args.other.now.charged =
    grind (arith, to_z-of_z) in
    let apart : to_z w64 (of_z w64 c.min-3.result) ≡ int_min c.args.self.now.apart c.args.other.now.apart =
    grind (arith, to_z-of_z) in
    record {
      free = rw free (lesser_amount count _ _ a.free b.free);
      charged = rw charged (lesser_amount count _ _ a.charged b.charged);
      apart = rw apart (lesser_amount count _ _ a.apart b.apart);
    }
