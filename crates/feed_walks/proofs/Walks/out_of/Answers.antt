use Rattle.feed_walks.proofs.StepLaws.{walk_steps-at}
use Rattle.feed_walks.proofs.Walks.out_of.Goals as goal

pub returns : goal.returns
returns c = λ feed are. rw (c.get.ensures, are.steps) (walk_steps-at feed c.args.from)
