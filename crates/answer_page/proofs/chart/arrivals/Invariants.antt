use Rattle.std.proofs.Common.{◌≡◌, take}
use Rattle.answer_page.specs.Charts.{arrivals}
use Rattle.answer_page.proofs.chart.arrivals.Given as goal

abbrev pub invariant-loop-entry : goal.invariant-loop-entry
invariant-loop-entry l = l.scale ≡ arrivals (take l.entry-index l.entries)
