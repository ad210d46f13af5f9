use Rattle.std.proofs.Common.{◌∙◌}
use Rattle.feed_walks.proofs.StepLaws.{out_of-rises, find-out_of}
use Rattle.feed_walks.proofs.Walks.link.Goals as goal

pub returns : goal.returns
returns c = λ feed are.
    let is = c.out_of.ensures feed are in
    c.seconds_to.ensures (rw is (out_of-rises feed c.args.from)) ∙ rw is (find-out_of feed c.args.from c.args.to)
