use Rattle.feed_walks.proofs.Walks.build_with.Goals as goal

pub returns : goal.returns
returns c = record { steps = c.in_ok-steps.ensures }
