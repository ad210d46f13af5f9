use Rattle.std.proofs.Common.{◌∙◌, ap}
use Rattle.std.specs.List.{concat}
use Rattle.ticket_explain.proofs.CommandLaws.{gen_joined}
use Rattle.ticket_explain.proofs.generated.gen_lines_of.Goals as goal

pub returns-clause-lines : goal.returns-clause-lines
returns-clause-lines c = rw c.empty-text.ensures at c.in_ok-push_gen_lines.ensures

pub returns-clause-text : goal.returns-clause-text
returns-clause-text c = ap concat (rw c.empty-text.ensures at c.in_ok-push_gen_lines.ensures) ∙ gen_joined c.args.feed.now _
