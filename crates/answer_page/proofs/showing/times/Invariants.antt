use Rattle.std.proofs.Common.{◌≡◌, take}
use Rattle.answer_page.specs.Pages.{times}
use Rattle.answer_page.proofs.showing.times.Given as goal

abbrev pub invariant-loop-entry : goal.invariant-loop-entry
invariant-loop-entry l = l.scale ≡ times (take l.entry-index l.entries)
