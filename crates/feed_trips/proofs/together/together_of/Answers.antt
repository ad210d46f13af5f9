use Rattle.feed_trips.proofs.LaidTimes.{all_kept}
use Rattle.feed_trips.proofs.together.together_of.Goals as goal

pub returns-clause-kept : goal.returns-clause-kept
returns-clause-kept c =
    all_kept c.args.rows.now c.args.trips _ _ _ (rw c.if-not-branch.false at c.in_ok-put_all.ensures.put)
    (rw c.if-not-branch.false at c.in_ok-put_all.ensures.beside) c.in_ok-fill_up.ensures

pub returns-clause-together : goal.returns-clause-together
returns-clause-together c = rw c.if-not-branch.false at c.in_ok-put_all.ensures.put

pub returns-clause-none : goal.returns-clause-none
returns-clause-none c = λ all.
    let laid = rw c.if-not-branch.false at c.in_ok-put_all.ensures.beside in
    c.in_ok-fill_up.ensures.none (laid.none all)
