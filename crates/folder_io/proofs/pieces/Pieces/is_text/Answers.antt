use Rattle.std.proofs.Common.{ap, ◌∙◌}
use Rattle.folder_io.specs.Utf8Text.{is_between}
use Rattle.folder_io.proofs.Utf8Laws.{is_between-utf8_after}
use Rattle.folder_io.proofs.pieces.Pieces.is_text.Goals as goal

pub returns : goal.returns
returns g c = λ start limit taken has. c.is_between.ensures ∙ ap is_between has.text ∙ is_between-utf8_after taken
