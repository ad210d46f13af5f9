use Rattle.std.proofs.Common.{sym, ◌∙◌}
use Rattle.feed_laws.proofs.ExactLaws.{same_triples}
use Rattle.pareto_front.proofs.triples.are_same_triples.Goals as goal

pub returns-clause-exact : goal.returns-clause-exact
returns-clause-exact c feed query xs ys p q one other =
    c.are_equal.ensures.1 (one ∙ same_triples feed query xs ys p q ∙ sym other)
