use Rattle.answer_page.proofs.ToldLaws.{list_told}
use Rattle.answer_page.proofs.names.read_list.Goals as goal

pub returns-clause-names : goal.returns-clause-names
returns-clause-names g c =
    list_told (g.F.Folder.state c.args.folder.now) c.args.file c.in_ok-bytes.bytes c.args.id.now c.args.name.now c.in_ok-names_of.field-0 c.in_ok-bytes.ensures.bytes c.in_ok-names_of.ensures
