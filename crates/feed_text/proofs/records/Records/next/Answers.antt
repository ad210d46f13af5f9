use Rattle.feed_text.proofs.ReaderLaws.{tells, not_text}
use Rattle.feed_text.proofs.records.Records.next.Goals as goal

pub returns-in-Ok-clause-goes_on : goal.returns-in-Ok-clause-goes_on
returns-in-Ok-clause-goes_on g c =
    tells g.R.Read.remaining c.args.self.now (record { reader = c.read_record.new.self; row = c.read_record.new.row; going = c.in-Ok.found }) c.in-Ok.found
    c.in-Ok.ensures.ready c.in-Ok.ensures.text c.in-Ok.ensures.reads

pub returns-in-Utf8-clause-why : goal.returns-in-Utf8-clause-why
returns-in-Utf8-clause-why g c = λ start table stands.
    let why = rw (← c.kind.ensures, c.in-Utf8.is) at (c.in-Err.ensures.why stands.no_trim stands.ready) in
    not_text g.R.Read.remaining c.args.self.now c.read_record.new.self start table stands why.1 why.2 why.3
