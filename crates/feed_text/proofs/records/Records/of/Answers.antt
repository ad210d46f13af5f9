use Rattle.std.proofs.Common.{true}
use Rattle.feed_text.proofs.ReaderLaws.{begins}
use Rattle.feed_text.proofs.records.Records.of.Goals as goal

pub returns-clause-begins : goal.returns-clause-begins
returns-clause-begins g c =
    begins g.R.Read.remaining (record { reader = c.from_reader.result; row = c.new-2.result; going = true }) (g.R.Read.remaining c.args.source)
    c.new.result c.has_headers.result.now c.flexible.result.now c.new.ensures.config c.new.ensures.trim c.has_headers.ensures c.flexible.ensures
    c.from_reader.ensures.config c.from_reader.ensures.has_headers c.from_reader.ensures.trim
    c.from_reader.ensures.headers c.from_reader.ensures.state c.from_reader.ensures.source
