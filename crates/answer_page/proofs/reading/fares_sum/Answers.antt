use Rattle.std.proofs.Common.{◌≡◌, ◌∙◌, ap, sym, ℕ, ◌+◌, ◌<◌, List, length, take, get_or, arith, to_z}
use Rattle.std.specs.Prelude.{ℤ, pos, ◌+ℤ◌}
use Rattle.std.specs.Int.{w128}
use Rattle.std.proofs.lemmas.Int.{ints}
use Rattle.std.proofs.lemmas.List.Sums.{fold_more}
use Rattle.answer_page.specs.Readings.{fares_sum, fare_units}
use Rattle.answer_page.specs.declared.answer.Fare.{Fare}
use Rattle.answer_page.proofs.reading.fares_sum.Goals as goal

fare_more : (fares : List Fare) (i : ℕ) (fare : Fare) (sum more : ℤ) → i < length fares → fare ≡ get_or fares i fare
    → sum ≡ fares_sum (take i fares) → more ≡ sum +ℤ fare_units fare → more ≡ fares_sum (take (i + 1) fares)
fare_more fares i fare sum more inside is before added =
    added ∙ ap (λ (z : ℤ). z +ℤ fare_units fare) before ∙ ap (λ (f : Fare). fares_sum (take i fares) +ℤ fare_units f) is
    ∙ sym (fold_more (λ (sum : ℤ) (next : Fare). sum +ℤ fare_units next) (pos 0) fares i fare inside)

pub loop-fare-preserved : goal.loop-fare-preserved
loop-fare-preserved c =
    let one = c.fare_units.type_inv in
    let low = c.loop-fare.invariant.1 in
    let high = c.loop-fare.invariant.2 in (
      fare_more c.args.fares.now c.loop-fare.fare-index c.fare-item.result (to_z w128 c.loop-fare.sum-bits) _ c.loop-fare-test.true
          c.fare-item.is c.loop-fare.invariant.0 (grind (arith, ints)),
      grind (arith, ints),
      grind (arith, ints),
    )
