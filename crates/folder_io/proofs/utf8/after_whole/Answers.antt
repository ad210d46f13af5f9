use Rattle.std.proofs.Common.{◌-◌, length, length-drop, take, drop, sym, ap, subst, take_all, arith, ◌∙◌}
use Rattle.folder_io.specs.declared.utf8.Utf8State.TheVariants.{Whole}
use Rattle.folder_io.specs.Utf8Text.{utf8_after}
use Rattle.std.specs.Str.{IsUtf8}
use Rattle.folder_io.proofs.Utf8Laws.{utf8_after-text, utf8_after-drop}
use Rattle.folder_io.proofs.utf8.after_whole.Goals as goal

pub returns-in-Ok : goal.returns-in-Ok
returns-in-Ok c = sym (utf8_after-text c.args.piece.now c.in-Ok.ensures.cases.1)

pub returns-in-Err : goal.returns-in-Err
returns-in-Err c =
    let front = subst (λ count. IsUtf8 (take count c.args.piece.now)) (sym c.valid_up_to.ensures) c.in-Err.ensures.cases.1.front in
    let behind = take_all (length c.args.piece.now - c.valid_up_to.result) (drop c.valid_up_to.result c.args.piece.now) (omega (arith, length-drop c.valid_up_to.result c.args.piece.now)) in
    c.after_each.ensures ∙ ap (utf8_after Whole) behind ∙ utf8_after-drop c.args.piece.now c.valid_up_to.result front
