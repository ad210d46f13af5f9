use Rattle.std.proofs.Common.{subst, sym}
use Rattle.std.specs.Prelude.{All, IfOk}
use Rattle.feed_timetable.specs.Standings.{stand_of}
use Rattle.plan_rides.specs.Boarding.{MayRide}
use Rattle.plan_rides.specs.InTime.{HasCaught, IsRight, IsWithinWindow}
use Rattle.plan_rides.proofs.rides.Rides.next.Goals as goal

pub next-requires-clause-within : goal.next-requires-clause-within
next-requires-clause-within c =
    subst (λ q. IsWithinWindow q c.args.standing.at.0) (sym c.positions.ensures.query) c.requires.within

pub next-requires-clause-may : goal.next-requires-clause-may
next-requires-clause-may c =
    let stand = stand_of c.args.standing in
    subst (λ f. MayRide f c.positions.result.now.query stand) (sym c.positions.ensures.feed)
    (subst (λ q. MayRide c.args.self.now.feed q stand) (sym c.positions.ensures.query) c.requires.may)

pub returns-clause-all : goal.returns-clause-all
returns-clause-all c =
    let stand = stand_of c.args.standing in
    subst (λ q. IfOk c.next.result (λ rides. HasCaught c.args.self.now.feed q stand rides.items)) c.positions.ensures.query
    (subst (λ f. IfOk c.next.result (λ rides. HasCaught f c.positions.result.now.query stand rides.items))
    c.positions.ensures.feed c.next.ensures.all)

pub returns-clause-right : goal.returns-clause-right
returns-clause-right c =
    let stand = stand_of c.args.standing in
    subst (λ q. IfOk c.next.result (λ rides. All (IsRight c.args.self.now.feed q stand) rides.items))
    c.positions.ensures.query
    (subst (λ f. IfOk c.next.result (λ rides. All (IsRight f c.positions.result.now.query stand) rides.items))
    c.positions.ensures.feed c.next.ensures.right)
