use Rattle.plan_rides.proofs.ReachLaws.{reach_barred}
use Rattle.plan_rides.proofs.positions.Positions.reach_barred.Goals as goal

pub returns : goal.returns
returns c = reach_barred _ _ _ _ _ _ c.in_ok-reach_stop.ensures
