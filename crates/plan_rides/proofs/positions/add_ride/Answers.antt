use Rattle.std.proofs.Common.{sym, ◌∙◌}
use Rattle.plan_rides.proofs.FoundLaws.{found_ride, found_no_ride, found_late}
use Rattle.plan_rides.proofs.positions.add_ride.Goals as goal

pub returns : goal.returns
returns c feed right is =
    found_ride _ _ _ _ _ _ right c.requires.later is _ _ _ _ (sym c.in-Some.ensures) c.ride_to.ensures c.in_ok-push.ensures.items

pub returns-in_default : goal.returns-in_default
returns-in_default c feed right is = found_no_ride _ _ _ _ _ _ right c.requires.later is _ (sym c.in_default.ensures)

pub returns-then-not-is_early : goal.returns-then-not-is_early
returns-then-not-is_early c feed right is =
    found_late _ _ _ _ _ _ right c.requires.later is _ _ (sym c.in-Some.ensures) (sym c.is_early.ensures ∙ c.if-not-is_early.true)
