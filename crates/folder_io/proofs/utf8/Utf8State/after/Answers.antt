use Rattle.std.proofs.Common.{drop, sym, ap, ◌∙◌}
use Rattle.folder_io.specs.Utf8Text.{utf8_after}
use Rattle.folder_io.proofs.Utf8Laws.{utf8_after-Wrong}
use Rattle.folder_io.proofs.utf8.Utf8State.after.Goals as goal

pub returns-in-Wrong : goal.returns-in-Wrong
returns-in-Wrong c =
    let rest = drop c.loop-i.i c.args.piece.now in
    sym (utf8_after-Wrong rest) ∙ ap (λ state. utf8_after state rest) (sym c.in-Wrong.is) ∙ c.loop-i.invariant
