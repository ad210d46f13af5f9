-- What is held is paid, and the row of the change.
use Rattle.std.proofs.Common.{◌≡◌, ℕ, arith}
use Rattle.std.specs.Prelude.{Option, None, ℤ, ◌+ℤ◌, pos}
use Rattle.std.proofs.lemmas.Int.{ints}
use Rattle.feed_rows.specs.FareSteps.{next_paid}
use Rattle.fare_laws.proofs.MoveLaws.{with_sum}
use Rattle.fare_automaton.proofs.moves.paid_after.Goals as goal

paid_unarranged : (held amount charge : ℤ) (kind : Option ℕ) → kind ≡ None → held +ℤ charge ≡ next_paid (pos 0) held kind amount charge
paid_unarranged held amount charge kind none = rw none (omega (arith, ints))

pub overflow_add-result : goal.overflow_add-result
overflow_add-result c = omega (arith, ints, c.requires.held, c.requires.charge)

pub returns-in-None : goal.returns-in-None
returns-in-None c =
    with_sum _ (c.args.held +ℤ c.args.charge) _ (paid_unarranged c.args.held c.args.amount c.args.charge c.args.kind c.in-None.is)
    (omega (arith, ints, c.requires.held, c.requires.charge))
