use Rattle.std.proofs.Common.{◌≡◌, drop}
use Rattle.folder_io.specs.Utf8Text.{utf8_after}
use Rattle.folder_io.specs.declared.utf8.Utf8State.TheVariants.{Whole}
use Rattle.folder_io.proofs.utf8.after_each.Given as goal

abbrev pub invariant-loop-byte : goal.invariant-loop-byte
invariant-loop-byte l = utf8_after l.state (drop l.byte-index l.piece) ≡ utf8_after Whole l.piece
