use Rattle.std.proofs.Common.{arith}
use Rattle.std.specs.Prelude.{unsigned_abs}
use Rattle.ticket_read.proofs.NumberLaws.{number_told, wide}
use Rattle.ticket_read.proofs.items.number_in.Goals as goal

pub overflow_cast-result : goal.overflow_cast-result
overflow_cast-result c =
    let value = c.in_ok-value.value in
    let number = number_told c.args.text.now value c.in_ok-value.ensures in
    rw (wide (unsigned_abs value) value number.1 number.0) (tt, omega (arith, number.1))
