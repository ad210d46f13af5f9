-- What a change that includes no leg adds.
use Rattle.std.proofs.Common.{◌≡◌, sym, ◌∙◌, false, arith}
use Rattle.std.specs.Prelude.{◌==◌, ◌+ℤ◌}
use Rattle.std.proofs.lemmas.Int.{ints}
use Rattle.std.proofs.lemmas.Bool.{or_parts}
use Rattle.feed_rows.specs.Codes.{change_alone, includes_leg_after, leg_before_and_change}
use Rattle.fare_laws.proofs.MoveLaws.{with_sum, paid_both}
use Rattle.fare_automaton.proofs.moves.paid_by.Goals as goal

pub returns-else-includes_leg_after : goal.returns-else-includes_leg_after
returns-else-includes_leg_after c =
    let none : includes_leg_after c.args.code ≡ false = sym c.includes_leg_after.ensures ∙ c.if-includes_leg_after.false in
    let neither = or_parts (c.args.code == leg_before_and_change) (c.args.code == change_alone) none in
    with_sum _ (c.args.held +ℤ c.args.charge +ℤ c.args.amount) _
    (paid_both c.args.held c.args.amount c.args.charge c.args.code neither.1 neither.0)
    (omega (arith, ints, c.requires.held, c.requires.charge, c.requires.amount))

pub overflow_add-before : goal.overflow_add-before
overflow_add-before c = omega (arith, ints, c.requires.held, c.requires.charge)

pub overflow_add-result : goal.overflow_add-result
overflow_add-result c = omega (arith, ints, c.requires.held, c.requires.charge, c.requires.amount)
