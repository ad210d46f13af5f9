-- One move more, and at the end all moves.
use Rattle.std.proofs.Common.{sym, subst, arith, List}
use Rattle.feed_rows.specs.declared.states.Move.{Move}
use Rattle.fare_automaton.specs.Fewest.{HasLesserMove}
use Rattle.fare_tariff.proofs.KindLaws.{all_first}
use Rattle.fare_tariff.proofs.MoveLaws.{AreBest, best_more, best_past}
use Rattle.fare_tariff.proofs.moves.best_into.Goals as goal
use Rattle.fare_tariff.proofs.moves.best_into.Goals.{then-not-is_bettered+in_ok-push, else-not-is_bettered}

pub loop-number-init : goal.loop-number-init
loop-number-init c =
    subst (λ (moves : List Move). AreBest c.args.all.now moves 0) (sym c.clear.ensures.items)
    (record { from = λ k d lt. absurd (omega (arith, lt)); each = λ i move lt is. absurd (omega (arith, lt)) })

pub loop-number-preserved : goal.loop-number-preserved
loop-number-preserved c =
    elim c.if-not-is_bettered.branch [
      | then-not-is_bettered+in_ok-push w ↦ rw w.moves-is (
          best_more c.args.all.now c.loop-number.moves.items _ c.loop-number.number _ c.loop-number-test.true w.in_ok-push.ensures.items
          c.loop-number.invariant
          )
      | else-not-is_bettered w ↦ rw w.moves-is (
          best_past c.args.all.now c.loop-number.moves.items c.loop-number.number
          (c.is_bettered.ensures.better w.if-not-is_bettered.false) c.loop-number.invariant
          )
    ]

pub returns : goal.returns
returns c = record {
  from = c.loop-number.invariant.from;
  each =
      all_first (HasLesserMove c.loop-number.moves.items) c.args.all.now c.loop-number.number c.loop-number-test.false
      c.loop-number.invariant.each;
}
