use Rattle.std.proofs.Common.{sym, ◌∙◌}
use Rattle.feed_laws.proofs.ExactLaws.{same_minimal}
use Rattle.pareto_front.proofs.triples.is_at_most.Goals as goal

pub returns-clause-minimal : goal.returns-clause-minimal
returns-clause-minimal c feed query p q same =
    same_minimal feed query c.args.one c.args.other p q (sym c.has_parts_at_most.ensures ∙ same)
