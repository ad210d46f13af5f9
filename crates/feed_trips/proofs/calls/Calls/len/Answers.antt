use Rattle.std.proofs.Common.{◌∙◌, ap, length, sym}
use Rattle.feed_trips.proofs.MadeCalls.{length-pass}
use Rattle.feed_trips.proofs.calls.Calls.len.Goals as goal

pub returns : goal.returns
returns c = sym (length-pass c.self.inside.rows.now) ∙ ap length c.self.view_is
