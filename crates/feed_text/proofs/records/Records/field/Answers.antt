use Rattle.std.proofs.Common.{◌∙◌, sym, ap}
use Rattle.csv.specs.Records.{fields_of}
use Rattle.feed_faults.specs.Records.{cut}
use Rattle.feed_text.proofs.FieldLaws.{field_there, field_past}
use Rattle.feed_text.proofs.records.Records.field.Goals as goal

pub returns-in-Some : goal.returns-in-Some
returns-in-Some g c =
    c.cut_of.ensures ∙ ap cut c.as_bytes.ensures.value ∙ field_there (fields_of c.args.self.now.row) c.args.place c.in-Some.field.now (sym c.in-Some.ensures.value)

pub returns-in-None : goal.returns-in-None
returns-in-None g c = sym (field_past (fields_of c.args.self.now.row) c.args.place (sym c.in-None.ensures.value))
