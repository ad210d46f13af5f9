-- No sum is too great.
use Rattle.std.proofs.Common.{◌≡◌, ◌∙◌, refl, arith, to_z, of_z, w64}
use Rattle.std.specs.Prelude.{◌+ℤ◌}
use Rattle.std.specs.Int.{int_min}
use Rattle.std.proofs.lemmas.Int.{to_z-of_z}
use Rattle.fare_bounds.specs.Amounts.{never}
use Rattle.fare_bounds.proofs.LevelLaws.{sum_fits, lesser_amount}
use Rattle.fare_bounds.proofs.steps.costs_by.Goals as goal

pub overflow_add-least : goal.overflow_add-least
overflow_add-least c =
    let least = to_z-of_z w64 c.args.least c.ranges.least in
    let rest : to_z w64 (of_z w64 c.min-rest.result) ≡
    int_min (int_min c.args.with_held c.args.without_held) c.args.end = grind (arith, to_z-of_z) in
    rw (least, rest)
    (sum_fits 600 c.args.least _ (omega arith) c.requires.least
    (lesser_amount 600 _ _ (lesser_amount 600 _ _ c.requires.with_held c.requires.without_held) c.requires.end))

pub overflow_add-least-2 : goal.overflow_add-least-2
overflow_add-least-2 c =
    let least = to_z-of_z w64 c.args.least c.ranges.least in
    let kept : to_z w64 (of_z w64 c.min-kept.result) ≡ int_min c.args.with_held c.args.end =
    grind (arith, to_z-of_z) in
    rw (least, kept)
    (sum_fits 600 c.args.least _ (omega arith) c.requires.least
    (lesser_amount 600 _ _ c.requires.with_held c.requires.end))

pub returns : goal.returns
returns c =
    let least = to_z-of_z w64 c.args.least c.ranges.least in
    let without = to_z-of_z w64 c.args.without_held c.ranges.without_held in
    let rest : to_z w64 (of_z w64 c.min-rest.result) ≡
    int_min (int_min c.args.with_held c.args.without_held) c.args.end = grind (arith, to_z-of_z) in
    let kept : to_z w64 (of_z w64 c.min-kept.result) ≡ int_min c.args.with_held c.args.end =
    grind (arith, to_z-of_z) in
    let rest_fits =
    to_z-of_z w64 _
    (sum_fits 600 c.args.least (int_min (int_min c.args.with_held c.args.without_held) c.args.end)
    (omega arith) c.requires.least
    (lesser_amount 600 _ _ (lesser_amount 600 _ _ c.requires.with_held c.requires.without_held) c.requires.end)) in
    let kept_fits =
    to_z-of_z w64 _
    (sum_fits 600 c.args.least (int_min c.args.with_held c.args.end) (omega arith) c.requires.least
    (lesser_amount 600 _ _ c.requires.with_held c.requires.end)) in
    let charged : to_z w64 (of_z w64 c.min-charged.result) ≡
    int_min (c.args.least +ℤ int_min (int_min c.args.with_held c.args.without_held) c.args.end) never =
    to_z-of_z w64 _ (record { sfits = c.min-charged.type_inv }) ∙ c.min-charged.ensures.value
    ∙ rw (least, rest, rest_fits) refl in
    let apart : to_z w64 (of_z w64 c.min-apart.result) ≡
    int_min (c.args.least +ℤ int_min c.args.with_held c.args.end) c.args.without_held =
    to_z-of_z w64 _ (record { sfits = c.min-apart.type_inv }) ∙ c.min-apart.ensures.value
    ∙ rw (least, kept, kept_fits, without) refl in
    rw (rest, charged, apart) refl
