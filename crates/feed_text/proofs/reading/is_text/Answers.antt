use Rattle.std.proofs.Common.{◌∙◌}
use Rattle.feed_text.proofs.Utf8Laws.{read_tests}
use Rattle.feed_text.proofs.reading.is_text.Goals as goal

pub returns : goal.returns
returns c = c.is_ok.ensures.value ∙ read_tests _ _ c.args.bytes.now c.from_utf8.result c.from_utf8.ensures.cases
