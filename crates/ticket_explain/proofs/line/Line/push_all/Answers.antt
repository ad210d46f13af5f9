use Rattle.std.proofs.Common.{◌∙◌, ◌++◌, ap, flat_map, take_all}
use Rattle.ticket_explain.specs.Fields.{behind_tab}
use Rattle.ticket_explain.proofs.line.Line.push_all.Goals as goal

pub returns : goal.returns
returns c =
    c.loop-field.invariant
    ∙ ap (λ fields. c.args.self.now ++ flat_map behind_tab fields) (take_all c.loop-field.field-index c.args.fields.now c.loop-field-test.false)
