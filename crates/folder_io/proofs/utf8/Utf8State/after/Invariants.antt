use Rattle.std.proofs.Common.{◌≡◌, drop}
use Rattle.folder_io.specs.Utf8Text.{utf8_after}
use Rattle.folder_io.proofs.utf8.Utf8State.after.Given as goal

abbrev pub invariant-loop-i : goal.invariant-loop-i
invariant-loop-i l = utf8_after l.state (drop l.i l.piece) ≡ utf8_after l.fn.self l.piece
