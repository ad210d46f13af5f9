use Rattle.plain_laws.proofs.Laws.{ascending-push}
use Rattle.plain_laws.proofs.lists.AscendingList.push.Goals as goal

pub invariant_of-self-2 : goal.invariant_of-self-2
invariant_of-self-2 g c =
    rw c.in_ok-push.ensures.ok (ascending-push g.T.Ord.cmp g.met.T.Ord.total _ _ c.self.invariant (rw c.self.view_is c.requires.greater))
