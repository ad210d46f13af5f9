use Rattle.std.proofs.Common.{◌≡◌, take}
use Rattle.answer_page.specs.Charts.{prices}
use Rattle.answer_page.proofs.chart.prices.Given as goal

abbrev pub invariant-loop-entry : goal.invariant-loop-entry
invariant-loop-entry l = l.scale ≡ prices (take l.entry-index l.entries)
