use Rattle.feed_laws.proofs.StopSetLaws.{stop_sets-at}
use Rattle.feed_stops.proofs.Stops.members.Goals as goal

pub returns : goal.returns
returns c = λ feed are. rw (c.get.ensures, are.sets) (stop_sets-at feed c.args.stop)
