use Rattle.std.proofs.Common.{refl}
use Rattle.plan_rides.proofs.DepartureLaws.{listed_more, trip_added, trip_there}
use Rattle.plan_rides.proofs.departures.list_once.Goals as goal

pub returns-clause-listed : goal.returns-clause-listed
returns-clause-listed c =
    listed_more c.args.marks.now _ c.args.trips.now.items _ c.args.trip c.requires.inside c.if-marks-number.false
    c.requires.listed refl c.in_ok-push.ensures.items

pub returns-then-marks-number-clause-adds : goal.returns-then-marks-number-clause-adds
returns-then-marks-number-clause-adds c = trip_there c.args.marks.now c.args.trips.now.items c.args.trip c.requires.listed c.if-marks-number.true

pub returns-clause-adds : goal.returns-clause-adds
returns-clause-adds c = trip_added c.args.trip c.args.trips.now.items _ c.in_ok-push.ensures.items
