use Rattle.answer_page.proofs.ToldLaws.{names_told}
use Rattle.answer_page.proofs.names.read_names.Goals as goal

pub returns-clause-names : goal.returns-clause-names
returns-clause-names g c =
    names_told (g.F.Folder.state c.args.folder.now) (g.F.Folder.state c.read_list.new.folder) (g.F.Folder.state c.read_list-2.new.folder) c.in_ok-read_list.field-0
    c.in_ok-read_list-2.field-0 c.in_ok-read_lines.field-0 c.in_ok-read_list.ensures.source c.in_ok-read_list-2.ensures.source c.in_ok-read_list.ensures.names
    c.in_ok-read_list-2.ensures.names c.in_ok-read_lines.ensures.names
