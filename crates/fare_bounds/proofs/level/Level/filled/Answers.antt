-- All amounts are this one, or that where there is none.
use Rattle.std.proofs.Common.{refl, w64}
use Rattle.std.proofs.lemmas.Int.{to_z-of_z}
use Rattle.fare_bounds.specs.Amounts.{never}
use Rattle.fare_bounds.proofs.LevelLaws.{filled_amounts, never_amount}
use Rattle.fare_bounds.proofs.level.Level.filled.Goals as goal

pub invariant_of-result : goal.invariant_of-result
invariant_of-result c =
    record {
      of_with =
          filled_amounts _ c.args.places _ c.args.amount c.in_ok-vec.field-0.items
          (c.in_ok-vec.ensures.items_if_clones_equal (λ y clone. clone))
          (to_z-of_z w64 c.args.amount c.ranges.amount) c.requires;
      of_without =
          filled_amounts _ c.args.places never never c.in_ok-vec-2.field-0.items
          (c.in_ok-vec-2.ensures.items_if_clones_equal (λ y clone. clone)) refl (never_amount _);
    }
