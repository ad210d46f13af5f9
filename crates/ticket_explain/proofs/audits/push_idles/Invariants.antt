use Rattle.std.proofs.Common.{◌≡◌, ◌++◌, map, take}
use Rattle.ticket_explain.specs.CommandLines.{idle_line}
use Rattle.ticket_explain.proofs.audits.push_idles.Given as goal

abbrev pub invariant-loop-rule : goal.invariant-loop-rule
invariant-loop-rule l = l.text ≡ l.initial.text ++ map idle_line (take l.rule-index l.rules)
