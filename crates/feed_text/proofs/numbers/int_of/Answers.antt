use Rattle.std.proofs.Common.{arith}
use Rattle.std.proofs.lemmas.Grind.{common_steps}
use Rattle.feed_faults.specs.FieldGrammars.{int_value}
use Rattle.feed_text.proofs.numbers.int_of.Goals as goal

pub returns : goal.returns
unfolding int_value
returns c = grind (arith, common_steps)

pub returns-then-value-from : goal.returns-then-value-from
unfolding int_value
returns-then-value-from c = grind (arith, common_steps)
