use Rattle.std.proofs.Common.{◌∙◌, ◌++◌, ap, map, take_all}
use Rattle.ticket_explain.specs.CommandLines.{idle_line}
use Rattle.ticket_explain.proofs.audits.push_idles.Goals as goal

pub returns : goal.returns
returns c =
    c.loop-rule.invariant
    ∙ ap (λ rules. c.args.text.now ++ map idle_line rules)
    (take_all c.loop-rule.rule-index c.args.rules.now c.loop-rule-test.false)
