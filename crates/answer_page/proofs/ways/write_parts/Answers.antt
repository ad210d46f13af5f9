use Rattle.std.proofs.Common.{◌∙◌, ◌++◌, ap, sym, arith, w64, to_z, of_z}
use Rattle.std.specs.Prelude.{FitsSigned}
use Rattle.std.proofs.lemmas.Int.{ints, to_z-of_z}
use Rattle.answer_page.specs.Threads.{threaded}
use Rattle.answer_page.specs.Ways.{bar_html, end_of}
use Rattle.answer_page.proofs.FillLaws.{item_kept, none_left}
use Rattle.answer_page.proofs.ways.write_parts.Goals as goal

pub loop-step-preserved : goal.loop-step-preserved
loop-step-preserved c =
    let bound = c.end_of-at.type_inv in
    let fits : FitsSigned w64 c.end_of-at.result = grind (arith, ints, bound) in
    item_kept (bar_html c.args.names.now c.args.times) end_of c.loop-step.page c.write_bar.new.page _ c.args.steps.now (to_z w64 c.loop-step.at-bits)
    (to_z w64 (of_z w64 c.end_of-at.result)) c.loop-step.step-index c.step-item.result c.loop-step-test.true c.step-item.is
    c.in_ok-write_bar.ensures (to_z-of_z w64 c.end_of-at.result fits ∙ c.end_of-at.ensures) c.loop-step.invariant

pub returns : goal.returns
returns c =
    let bound = c.ranges.leave.sfits in
    let fits : FitsSigned w64 c.args.leave = grind (arith, ints, bound) in
    sym (none_left (bar_html c.args.names.now c.args.times) end_of c.loop-step.page c.args.steps.now (to_z w64 c.loop-step.at-bits) c.loop-step.step-index c.loop-step-test.false)
    ∙ c.loop-step.invariant
    ∙ ap (λ at. c.args.page.now ++ threaded (bar_html c.args.names.now c.args.times) end_of at c.args.steps.now) (to_z-of_z w64 c.args.leave fits)
