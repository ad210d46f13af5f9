use Rattle.std.proofs.Common.{arith}
use Rattle.std.proofs.lemmas.Grind.{common_steps}
use Rattle.feed_rows.specs.TimeGrammar.{time_value}
use Rattle.feed_text.proofs.numbers.parted_time_of.Goals as goal

pub returns : goal.returns
unfolding time_value
returns c = grind (arith, common_steps)

pub returns-in_err-hours : goal.returns-in_err-hours
unfolding time_value
returns-in_err-hours c = grind (arith, common_steps)

pub returns-in_err-minutes : goal.returns-in_err-minutes
unfolding time_value
returns-in_err-minutes c = grind (arith, common_steps)

pub returns-in_err-seconds : goal.returns-in_err-seconds
unfolding time_value
returns-in_err-seconds c = grind (arith, common_steps)

pub returns-then-value-most : goal.returns-then-value-most
unfolding time_value
returns-then-value-most c = grind (arith, common_steps)

pub returns-then-text-lt7 : goal.returns-then-text-lt7
unfolding time_value
returns-then-text-lt7 c = grind (arith, common_steps)

pub returns-then-text-colon-ne58 : goal.returns-then-text-colon-ne58
unfolding time_value
returns-then-text-colon-ne58 c = grind (arith, common_steps)
