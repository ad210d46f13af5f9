use Rattle.folder_io.specs.KeptFiles.{held_of}
use Rattle.answer_page.proofs.ToldLaws.{lines_told, lines_are}
use Rattle.answer_page.proofs.names.read_lines.Goals as goal

pub returns-clause-names : goal.returns-clause-names
returns-clause-names g c =
    let short = c.in_ok-names_of.field-0 in
    let long = c.in_ok-names_of-2.field-0 in
    let colours = c.in_ok-names_of-3.field-0 in
    lines_told (g.F.Folder.state c.args.folder.now) c.in_ok-bytes.bytes (record { short = short; long = long; colours = colours }) c.in_ok-bytes.ensures.bytes
    (lines_are (held_of c.in_ok-bytes.bytes) short long colours c.in_ok-names_of.ensures c.in_ok-names_of-2.ensures c.in_ok-names_of-3.ensures)
