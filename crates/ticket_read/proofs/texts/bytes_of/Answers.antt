use Rattle.std.proofs.Common.{◌∙◌, ap, sym, ◌++◌, List, ℕ, arith}
use Rattle.std.specs.List.{concat}
use Rattle.std.proofs.lemmas.List.{take_all}
use Rattle.ticket_read.proofs.LoopLaws.{one_line_more}
use Rattle.ticket_read.proofs.texts.bytes_of.Goals as goal

pub loop-number-preserved : goal.loop-number-preserved
loop-number-preserved c =
    c.in_ok-extend_from_slice.ensures.items ∙ ap (λ (bytes : List ℕ). bytes ++ c.line.result.now) c.loop-number.invariant
    ∙ sym (one_line_more c.args.lines.now c.loop-number.number c.line.result.now c.line.ensures)

pub returns : goal.returns
returns c =
    let end = c.lines-number-end.ensures in
    let past = c.loop-number-test.false in
    c.loop-number.invariant ∙ ap concat (take_all c.loop-number.number c.args.lines.now (omega (arith, end, past)))
