use Rattle.std.proofs.Common.{◌≡◌, ℕ, ◌<◌, false}
use Rattle.std.specs.Prelude.{Some, slice_get}
use Rattle.feed_rows.specs.declared.states.Move.{Move}
use Rattle.fare_tariff.specs.Moves.{betters}
use Rattle.fare_tariff.proofs.moves.is_bettered.Given as goal

abbrev pub invariant-loop-earlier : goal.invariant-loop-earlier
invariant-loop-earlier l =
    (earlier : ℕ) (better other : Move) → earlier < l.earlier → slice_get l.moves earlier ≡ Some better →
    slice_get l.moves l.number ≡ Some other → betters better other ≡ false
