use Rattle.std.proofs.Common.{◌∙◌, ap, subst}
use Rattle.feed_rows.specs.SoundFeed.{IsSoundFeed}
use Rattle.feed_timetable.specs.Standings.{stand_of}
use Rattle.feed_walks.specs.OutOf.{out_of}
use Rattle.plan_rides.specs.Cutoffs.{cutoff_of}
use Rattle.plan_rides.specs.Reached.{Positioned}
use Rattle.plan_rides.proofs.ReachLaws.{reach_all, reach_walk}
use Rattle.plan_rides.proofs.positions.Positions.reach.Goals as goal

pub loop-k-preserved : goal.loop-k-preserved
loop-k-preserved c = reach_walk _ _ _ _ _ _ _ _ _ _ c.loop-k-test.true c.loop-k.invariant c.in_ok-reach_stop.ensures

pub returns : goal.returns
returns c =
    let me = c.args.self.now in
    let stand = stand_of c.args.who.now.standing in
    let sound = subst IsSoundFeed (ap (λ (m : Positioned). m.feed) c.self.view_is) c.self.invariant.0 in
    reach_all me (cutoff_of c.args.lasts.now) stand c.args.who.now.number _ c.loop-k.k _ _ sound
    (c.walks_from-walks.ensures ∙ ap (λ (m : Positioned). out_of m.feed stand.stop) c.self.view_is) c.loop-k-test.false c.loop-k.invariant
